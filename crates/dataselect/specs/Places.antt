-- Where the rows of a name stand.
use Rattle.std.specs.Prelude.{ℕ, List, map}
use Rattle.channel_globs.specs.declared.nslc.Nslc.{Nslc}
use Rattle.mseed_header.specs.declared.row.Row.{Row}
use Rattle.dataselect.specs.MergedSpans.{has_name}
use Rattle.dataselect.specs.Spans.{placed_from}

-- the places of the rows of a name, ascending
abbrev pub places_named : Nslc → List Row → List ℕ
places_named name rows = map (λ p. p.0) (placed_from (has_name name) 0 rows)
