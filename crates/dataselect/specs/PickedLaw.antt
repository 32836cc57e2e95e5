-- The picked places in the subject's words: how the chosen rows are cut into segments, and which segments
-- are kept.
use Rattle.std.specs.Prelude.{◌≡◌, ◌≢◌, ◌↔◌, ⊤, ℕ, ◌*◌, ◌<◌, ◌≤◌, Bool, true, List, [], ◌∷◌, ◌++◌, slice_index, Some, if◌then◌else◌}
use Rattle.std.specs.List.{AllByRecursion, concat, slice_get}
use Rattle.exact_time.specs.SampleTime.{half_parts}
use Rattle.mseed_header.specs.declared.row.Row.{Row}
use Rattle.dataselect.specs.declared.query.DataQuery.{DataQuery}
use Rattle.dataselect.specs.Segments.{apart_parts, segment_length}

-- The row at the second place follows the row at the first: name, quality and rate are the same, the rate
-- isn't 0, and its start and the next of the first are apart by half a sample period at most.
pub record Continues (rows : List Row) (i j : ℕ) : Type 0 where
  pub before : Row
  pub row : Row
  pub before_stands : slice_get rows i ≡ Some before
  pub row_stands : slice_get rows j ≡ Some row
  pub name : before.header.name ≡ row.header.name
  pub quality : before.header.quality ≡ row.header.quality
  pub num : before.header.rate.num ≡ row.header.rate.num
  pub den : before.header.rate.den ≡ row.header.rate.den
  pub some : row.header.rate.num ≢ 0
  pub near : apart_parts before.header row.header.start.micros ≤ half_parts before.header.rate

-- each place of a segment follows the one before it
abbrev pub IsUnbroken : List Row → List ℕ → Type 0
IsUnbroken rows [] = ⊤
IsUnbroken rows (i ∷ []) = ⊤
IsUnbroken rows (i ∷ j ∷ places) = Continues rows i j × IsUnbroken rows (j ∷ places)

-- the first place of the second segment doesn't follow the last place of the first
abbrev pub AreApart : List Row → List ℕ → List ℕ → Type 0
AreApart rows s t = (before after : List ℕ) (i j : ℕ) → s ≡ before ++ i ∷ [] → t ≡ j ∷ after → ¬ Continues rows i j

-- each segment is apart from the one before it
abbrev pub AreAllApart : List Row → List (List ℕ) → Type 0
AreAllApart rows [] = ⊤
AreAllApart rows (s ∷ []) = ⊤
AreAllApart rows (s ∷ t ∷ segments) = AreApart rows s t × AreAllApart rows (t ∷ segments)

-- the places are cut exactly where a row doesn't follow the one before it
pub record AreSegments (rows : List Row) (places : List ℕ) (segments : List (List ℕ)) : Type 0 where
  pub whole : concat segments ≡ places
  pub some : AllByRecursion (λ s. s ≢ []) segments
  pub unbroken : AllByRecursion (IsUnbroken rows) segments
  pub apart : AreAllApart rows segments

-- the segment is at least so many microseconds long, as fractions with one divisor
abbrev pub IsLong : List Row → ℕ → List ℕ → Type 0
IsLong rows minimum s = minimum * (segment_length rows s).parts ≤ (segment_length rows s).micros

-- one segment is longer than another: each length is multiplied by the divisor of the other
abbrev pub IsLonger : List Row → List ℕ → List ℕ → Type 0
IsLonger rows s t = (segment_length rows t).micros * (segment_length rows s).parts < (segment_length rows s).micros * (segment_length rows t).parts

-- the first rows of two segments have one name
pub record HaveOneName (rows : List Row) (s t : List ℕ) : Type 0 where
  pub one : Row
  pub other : Row
  pub one_stands : slice_get rows (slice_index s 0) ≡ Some one
  pub other_stands : slice_get rows (slice_index t 0) ≡ Some other
  pub name : one.header.name ≡ other.header.name

-- A segment, between those before and those behind it, is kept: it is long enough, and where the longest
-- are asked for, it is longer than every long one of its name before it, and no long one of its name
-- behind it is longer.
pub record IsKept (query : DataQuery) (rows : List Row) (before : List (List ℕ)) (s : List ℕ) (behind : List (List ℕ)) : Type 0 where
  pub long : IsLong rows query.minimum s
  pub none_before : query.longest ≡ true → AllByRecursion (λ t. IsLong rows query.minimum t → HaveOneName rows t s → IsLonger rows s t) before
  pub none_behind : query.longest ≡ true → AllByRecursion (λ t. IsLong rows query.minimum t → HaveOneName rows t s → ¬ IsLonger rows t s) behind

-- the segments that pass a test, which sees those before and those behind each
abbrev pub kept_by : (List (List ℕ) → List ℕ → List (List ℕ) → Bool) → List (List ℕ) → List (List ℕ) → List (List ℕ)
kept_by keeps before [] = []
kept_by keeps before (s ∷ behind) =
    if keeps before s behind then s ∷ kept_by keeps (before ++ s ∷ []) behind
    else kept_by keeps (before ++ s ∷ []) behind

-- of these places, cut into segments, the picked ones are those of the segments that are kept
pub record ArePicked (query : DataQuery) (rows : List Row) (places picked : List ℕ) : Type 0 where
  pub segments : List (List ℕ)
  pub cut : AreSegments rows places segments
  pub keeps : List (List ℕ) → List ℕ → List (List ℕ) → Bool
  pub exactly : (before : List (List ℕ)) (s : List ℕ) (behind : List (List ℕ)) → keeps before s behind ≡ true ↔ IsKept query rows before s behind
  pub picked_is : picked ≡ concat (kept_by keeps [] segments)
