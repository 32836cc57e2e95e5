-- The lines of a report.
use Rattle.std.specs.Prelude.{ℕ, ◌==◌, ℤ, List, [], ◌∷◌, map, if◌then◌else◌}
use Rattle.std.specs.List.{flat_map}
use Rattle.list_laws.specs.InOrder.{in_order}
use Rattle.channel_globs.specs.Names.{name_cmp}
use Rattle.channel_globs.specs.declared.nslc.Nslc.{Nslc}
use Rattle.mseed_header.specs.declared.row.Row.{Row}
use Rattle.coverage_report.specs.Covered.{covered}
use Rattle.coverage_report.specs.Days.{numbers_from, day_at}
use Rattle.coverage_report.specs.declared.line.Line.{Line}

-- the channels of rows, ascending, each once
abbrev pub names_of : List Row → List Nslc
names_of rows = in_order name_cmp [] (map (λ row. row.header.name) rows)

-- a line for a channel and a day of which something is covered
abbrev pub line_if : Nslc → ℤ → ℕ → List Line
line_if name day n = if n == 0 then [] else record { name = name; day = record { micros = day }; covered = n } ∷ []

-- the lines of a channel, for the days
abbrev pub lines_of_name : List Row → ℤ → ℕ → Nslc → List Line
lines_of_name rows first days name =
    flat_map (λ day. line_if name (day_at first day) (covered rows name (day_at first day))) (numbers_from 0 days)

-- and those of all channels
abbrev pub report_lines : List Row → ℤ → ℕ → List Line
report_lines rows first days = flat_map (lines_of_name rows first days) (names_of rows)
