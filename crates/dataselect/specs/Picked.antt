-- The picked rows: the chosen rows of those segments that a query asks for (FDSN Web Service
-- Specifications 1.2, dataselect, `minimumlength` and `longestonly`).
use Rattle.std.specs.Prelude.{◌≡◌, ◌⊎◌, ⊤, ℕ, Bool, List, [], ◌∷◌, Option, Some, None, filter, if◌then◌else◌}
use Rattle.std.specs.List.{AllByRecursion, concat, slice_get}
use Rattle.std.specs.declared.cmp.Ordering.TheVariants.{Less}
use Rattle.mseed_header.specs.declared.row.Row.{Row}
use Rattle.dataselect.specs.declared.query.DataQuery.{DataQuery}
use Rattle.dataselect.specs.Chosen.{chosen_places}
use Rattle.channel_globs.specs.Names.{name_cmp}
use Rattle.dataselect.specs.Longest.{longest_by}
use Rattle.dataselect.specs.Segments.{segments_of, is_long, is_longer, have_one_name}

-- the segments of the rows at these places that are at least so many microseconds long
abbrev pub long_segments : List Row → ℕ → List ℕ → List (List ℕ)
long_segments rows minimum places = filter (is_long rows minimum) (segments_of rows places)

-- of those the longest of each name, on a tie the first
abbrev pub longest_segments : List Row → ℕ → List ℕ → List (List ℕ)
longest_segments rows minimum places = longest_by (have_one_name rows) (is_longer rows) (long_segments rows minimum places)

-- the segments that a query picks: all that are long enough, or the longest of each name among them
abbrev pub picked_segments : DataQuery → List Row → List ℕ → List (List ℕ)
picked_segments query rows places =
    if query.longest then longest_segments rows query.minimum places
    else long_segments rows query.minimum places

abbrev pub picked_of : DataQuery → List Row → List ℕ → List ℕ
picked_of query rows places = concat (picked_segments query rows places)

-- the places of the rows of the picked segments, in the order of the chosen ones
abbrev pub picked_places : (Row → Bool) → DataQuery → List Row → List ℕ
picked_places seen query rows = picked_of query rows (chosen_places seen query rows)

-- one row's name comes before another's, or is the same
abbrev pub IsNotAfter : Option Row → Option Row → Type 0
IsNotAfter (Some a) (Some b) = (name_cmp a.header.name b.header.name ≡ Less) ⊎ (a.header.name ≡ b.header.name)
IsNotAfter (Some a) None = ⊥
IsNotAfter None b = ⊥

-- the rows at these places are in order of their names
abbrev pub NamesRise : List Row → List ℕ → Type 0
NamesRise rows [] = ⊤
NamesRise rows (i ∷ places) = AllByRecursion (λ j. IsNotAfter (slice_get rows i) (slice_get rows j)) places × NamesRise rows places
