-- What records cover of a report's days, in microseconds from the report's first moment on.
use Rattle.std.specs.Prelude.{ℕ, ◌*◌, ◌<◌, ◌≤◌, min, nat_lt, ℤ, pos, ◌+ℤ◌, ◌-ℤ◌, int_lt, unsigned_abs, Bool, List, [], ◌∷◌, filter, Option, Some, None, if◌then◌else◌}
use Rattle.std.specs.List.{flat_map, slice_get}
use Rattle.std.specs.Ordering.{nat_cmp, ordering_then}
use Rattle.std.specs.declared.cmp.Ordering.{Ordering}
use Rattle.list_laws.specs.InOrder.{in_order}
use Rattle.channel_globs.specs.declared.nslc.Nslc.{Nslc}
use Rattle.mseed_header.specs.declared.header.Header.{Header}
use Rattle.mseed_header.specs.declared.row.Row.{Row}
use Rattle.dataselect.specs.MergedSpans.{has_name}
use Rattle.coverage_report.specs.Ends.{end_moment}
use Rattle.coverage_report.specs.Printable.{IsSince1800}
use Rattle.coverage_report.specs.declared.stretch.Stretch.{Stretch}

-- how far a moment is behind the first one; 0 where it isn't
abbrev pub ahead_of : ℤ → ℤ → ℕ
ahead_of first z = if int_lt first z then unsigned_abs (z -ℤ first) else 0

-- the stretch from one to another, if there is something in it
abbrev pub stretch_if : ℕ → ℕ → Option Stretch
stretch_if start end = if nat_lt start end then Some (record { start = start; end = end }) else None

-- what a record covers of so many microseconds from the first moment on
abbrev pub stretch_of : ℤ → ℕ → Header → Option Stretch
stretch_of first size h = stretch_if (min (ahead_of first h.start.micros) size) (min (ahead_of first (end_moment h)) size)

-- by start and end
abbrev pub stretch_cmp : Stretch → Stretch → Ordering
stretch_cmp a b = ordering_then (nat_cmp a.start b.start) (nat_cmp a.end b.end)

abbrev pub one_or_none : Option Stretch → List Stretch
one_or_none None = []
one_or_none (Some s) = s ∷ []

-- that of a row, if there is one and it is seen
abbrev pub stretch_at : (Row → Bool) → ℤ → ℕ → Option Row → List Stretch
stretch_at seen first size None = []
stretch_at seen first size (Some row) = if seen row then one_or_none (stretch_of first size row.header) else []

-- those of the rows at these places
abbrev pub stretches_at : (Row → Bool) → ℤ → ℕ → List Row → List ℕ → List Stretch
stretches_at seen first size rows places = flat_map (λ place. stretch_at seen first size (slice_get rows place)) places

-- those of a channel's rows, in order
abbrev pub stretches_of : List Row → ℤ → ℕ → Nslc → List Stretch
stretches_of rows first size name =
    in_order stretch_cmp [] (flat_map (λ row. one_or_none (stretch_of first size row.header)) (filter (has_name name) rows))

-- a stretch is that of a row: something is in it, it ends by the end of the days, and it begins after 1800
pub record IsStretch (first : ℤ) (days : ℕ) (s : Stretch) : Type 0 where
  pub some : s.start < s.end
  pub within : s.end ≤ days * 86_400_000_000
  pub since_1800 : IsSince1800 (first +ℤ pos s.start)
