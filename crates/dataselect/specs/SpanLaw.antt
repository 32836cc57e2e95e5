-- Spans in the subject's words: which rows of a group are in one span.
use Rattle.std.specs.Prelude.{◌≡◌, ⊤, false, ℕ, ◌+◌, ◌-◌, ◌*◌, ◌<◌, ◌≤◌, max, suc, ℤ, pos, neg_ℤ, ◌≤ℤ◌, ◌<ℤ◌, nat_lt, List, [], ◌∷◌, length, Some, if◌then◌else◌}
use Rattle.std.specs.List.{AllByRecursion, slice_get}
use Rattle.exact_time.specs.SampleTime.{sample_parts, half_parts}
use Rattle.mseed_header.specs.declared.header.Header.{Header}
use Rattle.mseed_header.specs.declared.row.Row.{Row}
use Rattle.dataselect.specs.Spans.{Merging, late_by}

-- the number of the run that the item at a place is in
abbrev pub run_at : {X : Type 0} → List (List X) → ℕ → ℕ
run_at [] i = 0
run_at (run ∷ runs) i = if nat_lt i (length run) then 0 else suc (run_at runs (i - length run))

-- the rows are in order of their starts
abbrev pub StartsRise : List Row → Type 0
StartsRise [] = ⊤
StartsRise (row ∷ rows) = AllByRecursion (λ r. row.header.start.micros ≤ℤ r.header.start.micros) rows × StartsRise rows

-- a moment is later than the record's next by half a sample period at most, or by the gap at most
abbrev pub IsReached : ℕ → Header → ℤ → Type 0
IsReached gap h micros = late_by h micros ≤ℤ pos (max (gap * sample_parts h.rate) (half_parts h.rate))

-- some row starts before the moment and reaches it
pub record IsCoveredAt (gap : ℕ) (rows : List Row) (micros : ℤ) : Type 0 where
  pub place : ℕ
  pub row : Row
  pub stands : slice_get rows place ≡ Some row
  pub before : row.header.start.micros <ℤ micros
  pub reached : IsReached gap row.header micros

-- no moment behind the one and up to the other is left uncovered
abbrev pub IsCovered : ℕ → List Row → ℤ → ℤ → Type 0
IsCovered gap rows from to = (micros : ℤ) → from <ℤ micros → micros ≤ℤ to → IsCoveredAt gap rows micros

-- a record follows the one before it: it is neither too late nor too early
pub record IsNext (gap : ℕ) (before h : Header) : Type 0 where
  pub late : IsReached gap before h.start.micros
  pub early : neg_ℤ (pos (half_parts before.rate)) ≤ℤ late_by before h.start.micros

-- each row behind the one place and up to the other follows the one before it
abbrev pub FollowOn : ℕ → List Row → ℕ → ℕ → Type 0
FollowOn gap rows i j =
    (k : ℕ) (before row : Row) → i ≤ k → k < j → slice_get rows k ≡ Some before → slice_get rows (k + 1) ≡ Some row
    → IsNext gap before.header row.header

-- two records are of one group: they have the same name, and the same quality and rate unless these are merged
pub record AreOneGroup (m : Merging) (a b : Header) : Type 0 where
  pub name : a.name ≡ b.name
  pub quality : m.quality ≡ false → a.quality ≡ b.quality
  pub rate : m.rate ≡ false → a.rate ≡ b.rate
