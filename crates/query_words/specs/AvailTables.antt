-- The names of availability, by its methods (fdsnws-availability 1.0, query parameters).
use Rattle.std.specs.Prelude.{List, [], ◌∷◌, codes}
use Rattle.query_parameters.specs.Rows.{Named, alone}
use Rattle.query_parameters.specs.declared.rows.ValueKind.{ValueKind}
use Rattle.query_parameters.specs.declared.rows.ValueKind.TheVariants.{Nodata, Qualities, Merges, SpansOrder, ExtentOrder, Count, AvailForm, Never, LeftOut, Seconds}
use Rattle.query_words.specs.Tables.{windows_before}
use Rattle.query_words.specs.declared.avail.AvailMethod.{AvailMethod}
use Rattle.query_words.specs.declared.avail.AvailMethod.TheVariants.{Spans, Extent}

abbrev pub options_by : ValueKind → List Named → List Named
options_by order more =
    alone (codes "nodata") Nodata
    ∷ alone (codes "quality") Qualities
    ∷ alone (codes "merge") Merges
    ∷ alone (codes "orderby") order
    ∷ alone (codes "limit") Count
    ∷ alone (codes "format") AvailForm
    ∷ alone (codes "includerestricted") Never
    ∷ alone (codes "show") LeftOut
    ∷ more

-- the options, which a body may have too: extents have more orders, and no gaps
abbrev pub avail_options : AvailMethod → List Named
avail_options Spans = options_by SpansOrder (alone (codes "mergegaps") Seconds ∷ [])
avail_options Extent = options_by ExtentOrder []

-- the names of a method
abbrev pub avail_names : AvailMethod → List Named
avail_names method = windows_before (avail_options method)
