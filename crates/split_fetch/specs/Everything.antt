-- The query for every record.
use Rattle.std.specs.Prelude.{◌≡◌, ℕ, List, [], ◌∷◌, None, false, true, codes}
use Rattle.mseed_header.specs.declared.header.Header.{Header}
use Rattle.dataselect.specs.Query.{is_asked}
use Rattle.dataselect.specs.declared.query.DataQuery.{DataQuery}
use Rattle.dataselect.specs.declared.query.Nodata.TheVariants.{Quiet}
use Rattle.dataselect.specs.declared.query.Selection.{Selection}

abbrev pub any_code : List (List ℕ)
any_code = codes "*" ∷ []

abbrev pub all_channels : Selection
all_channels = record { network = any_code; station = any_code; location = any_code; channel = any_code; start = None; end = None }

-- four times `*`, and no window
abbrev pub everything : DataQuery
everything = record { selections = all_channels ∷ []; quality = None; minimum = 0; longest = false; nodata = Quiet }

-- a query asks for every record
abbrev pub AsksAll : DataQuery → Type 0
AsksAll query = (h : Header) → is_asked query h ≡ true
