-- The chosen places in the subject's words: which they are, and in which order.
use Rattle.std.specs.Prelude.{◌≡◌, ◌≤ℤ◌, ◌*ℤ◌, pos, ℕ, ℤ, ◌<◌, Bool, true, ◌↔◌, List, length, slice_index, Some, IfSome, Any, Contains}
use Rattle.std.specs.List.{slice_get}
use Rattle.std.specs.declared.cmp.Ordering.TheVariants.{Less}
use Rattle.exact_time.specs.SampleTime.{sample_micros, sample_parts}
use Rattle.channel_globs.specs.Matching.{Matches}
use Rattle.channel_globs.specs.declared.nslc.Nslc.{Nslc}
use Rattle.mseed_header.specs.Times.{last_index}
use Rattle.mseed_header.specs.declared.header.Header.{Header}
use Rattle.mseed_header.specs.declared.row.Row.{Row}
use Rattle.dataselect.specs.declared.query.Selection.{Selection}
use Rattle.dataselect.specs.declared.query.DataQuery.{DataQuery}
use Rattle.dataselect.specs.Order.{rank_cmp, rank_at}

-- some pattern of each of the four lists matches the code
pub record IsNamedBy (s : Selection) (name : Nslc) : Type 0 where
  pub network : Any (λ pattern. Matches pattern name.network) s.network
  pub station : Any (λ pattern. Matches pattern name.station) s.station
  pub location : Any (λ pattern. Matches pattern name.location) s.location
  pub channel : Any (λ pattern. Matches pattern name.channel) s.channel

-- the last sample is at that moment or later, as fractions with one divisor
abbrev pub IsReached : Header → ℤ → Type 0
IsReached h micros = (micros *ℤ pos (sample_parts h.rate)) ≤ℤ sample_micros h.start.micros (last_index h) h.rate

-- the names match, the last sample isn't before the start, the first isn't after the end
pub record IsSelectedBy (s : Selection) (h : Header) : Type 0 where
  pub named : IsNamedBy s h.name
  pub start : IfSome s.start (λ t. IsReached h t.micros)
  pub end : IfSome s.end (λ t. h.start.micros ≤ℤ t.micros)

-- the record has the asked quality, and some selection selects it
pub record IsAskedBy (query : DataQuery) (h : Header) : Type 0 where
  pub quality : IfSome query.quality (λ q. q ≡ h.quality)
  pub selected : Any (λ s. IsSelectedBy s h) query.selections

-- the row at that place is seen and asked for
pub record IsChosen (seen : Row → Bool) (query : DataQuery) (rows : List Row) (place : ℕ) : Type 0 where
  pub row : Row
  pub stands : slice_get rows place ≡ Some row
  pub sees : seen row ≡ true
  pub asked : IsAskedBy query row.header

-- the places are strictly in order, and a place is among them exactly where its row is chosen
pub record AreChosen (seen : Row → Bool) (query : DataQuery) (rows : List Row) (places : List ℕ) : Type 0 where
  pub ordered : (j k : ℕ) → j < k → k < length places → (a b : Row)
      → slice_get rows (slice_index places j) ≡ Some a → slice_get rows (slice_index places k) ≡ Some b
      → rank_cmp (rank_at (slice_index places j) a) (rank_at (slice_index places k) b) ≡ Less
  pub members : (place : ℕ) → Contains places place ↔ IsChosen seen query rows place
