-- The records of several answers, put together.
use Rattle.std.specs.Prelude.{◌≡◌, ℕ, ◌<◌, ◌≤◌, List, [], ◌∷◌, length, map, None, Some, ⊤}
use Rattle.std.specs.List.{AllByRecursion, flat_map}
use Rattle.std.specs.Ordering.{int_cmp, ordering_then}
use Rattle.std.specs.declared.cmp.Ordering.{Ordering}
use Rattle.channel_globs.specs.Names.{name_cmp}
use Rattle.mseed_header.specs.Quality.{quality_cmp}
use Rattle.mseed_header.specs.Records.{images_of}
use Rattle.mseed_header.specs.declared.row.Row.{Row}
use Rattle.dataselect.specs.Rows.{held_rows}
use Rattle.split_fetch.specs.Fronts.{fronts_of, first_move}
use Rattle.split_fetch.specs.Gathered.{put_all_behind}
use Rattle.split_fetch.specs.declared.answer.WindowAnswer.{WindowAnswer}
use Rattle.split_fetch.specs.declared.fault.GatherFault.{GatherFault}
use Rattle.split_fetch.specs.declared.fault.GatherFault.TheVariants.{Moved, TooLarge, OutOfMemory}

-- by name, quality letter and start
abbrev pub start_cmp : Row → Row → Ordering
start_cmp a b =
    ordering_then (name_cmp a.header.name b.header.name)
    (ordering_then (quality_cmp a.header.quality b.header.quality) (int_cmp a.header.start.micros b.header.start.micros))

-- the rows of all answers, in order
abbrev pub arrived : List WindowAnswer → List Row
arrived answers = flat_map (λ answer. answer.rows) answers

-- the rows without doubles, by name, quality letter and start, and where these are equal in the order in which
-- they first came
abbrev pub gathered : List Row → List Row
gathered rows = put_all_behind start_cmp [] (held_rows rows)

-- no more bytes than this are put together
abbrev pub max_gathered : ℕ
max_gathered = 268_435_456

-- the bytes are those of the rows, put together, and few enough
pub record AreBytes (rows : List Row) (bytes : List ℕ) : Type 0 where
  pub are : bytes ≡ images_of (gathered rows)
  pub small : length bytes ≤ max_gathered

-- why rows aren't put together: they have too many bytes; want of memory is free
abbrev pub RefusesRows : List Row → GatherFault → Type 0
RefusesRows rows (Moved a b) = ⊥
RefusesRows rows (TooLarge n) = (n ≡ length (images_of (gathered rows))) × (max_gathered < n)
RefusesRows rows OutOfMemory = ⊤

-- the fronts of the answers are equal, and the bytes are those of their rows, put together
pub record IsGathered (answers : List WindowAnswer) (bytes : List ℕ) : Type 0 where
  pub still : first_move (fronts_of answers) ≡ None
  pub bytes_are : AreBytes (arrived answers) bytes

-- why answers aren't put together: two neighbours have different fronts, which is tested first, or their rows have
-- too many bytes; want of memory is free
abbrev pub GatherRefuses : List WindowAnswer → GatherFault → Type 0
GatherRefuses answers (Moved a b) = first_move (fronts_of answers) ≡ Some (a, b)
GatherRefuses answers (TooLarge n) = (first_move (fronts_of answers) ≡ None) × RefusesRows (arrived answers) (TooLarge n)
GatherRefuses answers OutOfMemory = ⊤

-- the records of rows
abbrev pub records_of : List Row → List (List ℕ)
records_of rows = map (λ row. row.image) rows

-- the number of a row's entry rises along the rows
abbrev pub EntriesRise : List Row → Type 0
EntriesRise [] = ⊤
EntriesRise (row ∷ rows) = AllByRecursion (λ r. row.entry < r.entry) rows × EntriesRise rows

-- the number of a row's entry rises along the rows, and is below how many there are
abbrev pub IsNumbered : List Row → Type 0
IsNumbered rows = EntriesRise rows × AllByRecursion (λ row. row.entry < length rows) rows
