-- Where a sight sees all rows of a name, and they are joined as a shelf joins them, its spans are the shelf's.
use Rattle.std.proofs.Common.{◌≡◌, ◌-◌, ◌^◌, ◌==◌, ℤ, pos, ◌<ℤ◌, Bool, true, false, not, ◌&&◌, cond, List, Some, None, map, refl, sym, ap, ◌∙◌, arith}
use Rattle.std.specs.Int.{int_min, int_max}
use Rattle.std.specs.List.{AllByRecursion}
use Rattle.std.proofs.lemmas.Bool.{and_parts}
use Rattle.std.proofs.lemmas.Bool.Decides.{nat_tests}
use Rattle.std.proofs.lemmas.Int.{ints}
use Rattle.list_laws.specs.Breaks.{made_of_each}
use Rattle.exact_time.specs.SampleTime.{floor_at}
use Rattle.channel_globs.specs.declared.nslc.Nslc.{Nslc}
use Rattle.mseed_header.specs.Times.{last_index}
use Rattle.mseed_header.specs.declared.quality.Quality.{Quality}
use Rattle.mseed_header.specs.declared.quality.Quality.TheVariants.{D, M, Q, R}
use Rattle.mseed_header.specs.declared.row.Row.{Row}
use Rattle.dataselect.specs.MergedSpans.{SpanValue, has_name, by_quality_and_rate, merged_spans_of, last_at}
use Rattle.dataselect.specs.MergedSpans as merged
use Rattle.dataselect.specs.Spans.{Merging, rows_in_order, span_runs}
use Rattle.dataselect.proofs.Floors.{IsStill, floor_of, greatest_floor, still_greater, last_still}
use Rattle.dataselect.proofs.Parts.{all_rows_in_order, all_span_runs, made_related}
use Rattle.dataselect.proofs.Rises.{same_names}
use Rattle.query_parameters.specs.declared.avail.QualitySet.{QualitySet}
use Rattle.query_words.specs.declared.avail.AvailQuery.{AvailQuery}
use Rattle.availability.specs.declared.span.TimeSpan.{TimeSpan}
use Rattle.availability.specs.Channels.{is_asked_of, spans_named, has_all, merges_as_shelves, time_span_of}
use Rattle.availability.specs.Spans.{merging_of, has_quality, passes, span_at, longer}
use Rattle.availability.proofs.Lasts.{last_moment_before}

not_true : (b : Bool) → not b ≡ true → b ≡ false
not_true true h = sym h
not_true false h = refl

quality_held : (set : QualitySet) → has_all set ≡ true → (quality : Quality) → has_quality set quality ≡ true
quality_held set all D = (and_parts set.d _ all).0
quality_held set all M = (and_parts set.m _ (and_parts set.d _ all).1).0
quality_held set all Q = (and_parts set.q set.r (and_parts set.m _ (and_parts set.d _ all).1).1).0
quality_held set all R = (and_parts set.q set.r (and_parts set.m _ (and_parts set.d _ all).1).1).1

-- what a query that merges as shelves do asks
pub record AsShelves (q : AvailQuery) : Type 0 where
  pub overlap : q.merge_overlap ≡ true
  pub quality : q.merge_quality ≡ false
  pub rate : q.merge_rate ≡ false
  pub gaps : q.gaps ≡ 0
  pub all : has_all q.qualities ≡ true

pub as_shelves : (q : AvailQuery) → merges_as_shelves q ≡ true → AsShelves q
as_shelves q h =
    let one = and_parts q.merge_overlap _ h in
    let two = and_parts (not q.merge_quality) _ one.1 in
    let three = and_parts (not q.merge_rate) _ two.1 in
    let four = and_parts (q.gaps == 0) (has_all q.qualities) three.1 in
    let none : q.gaps ≡ 0 = (let e = four.0 in grind (arith, nat_tests)) in
    record { overlap = one.0; quality = not_true q.merge_quality two.0; rate = not_true q.merge_rate three.0; gaps = none; all = four.1 }

merging_is : (q : AvailQuery) → AsShelves q → merging_of q ≡ by_quality_and_rate
merging_is q a = λ i. record { quality = a.quality i; rate = a.rate i; overlap = a.overlap i; gap = a.gaps i }

abbrev top : ℤ
top = pos (2 ^ 63 - 1)

below_top : (f : ℤ) → f <ℤ pos 23_068_108_800_000_000 → f ≡ int_min f top
below_top f h = grind (arith, ints)

greatest_below : (f g : ℤ) → g <ℤ pos 23_068_108_800_000_000 → int_max (int_min f top) g ≡ int_min (int_max f g) top
greatest_below f g h = grind (arith, ints)

module _ (seen touched : Row → Bool) (q : AvailQuery) (a : AsShelves q) (name : Nslc) (whole : (row : Row) → row.header.name ≡ name → (seen row ≡ true) × (touched row ≡ false)) where
  abbrev Named : Row → Type 0
  Named row = has_name name row ≡ true

  asked_is : (row : Row) → is_asked_of seen q name row ≡ has_name name row
  asked_is row =
      elim (has_name name row) as (λ b. has_name name row ≡ b → (b && passes seen q row) ≡ b) [
        | true ↦ λ h. ap (λ b. b && has_quality q.qualities row.header.quality) (whole row (same_names row.header.name name h)).0 ∙ quality_held q.qualities a.all row.header.quality
        | false ↦ λ _. refl
      ] refl

  untouched : (row : Row) → Named row → touched row ≡ false
  untouched row h = (whole row (same_names row.header.name name h)).1

  abbrev Still : SpanValue → Type 0
  Still v = IsStill v.last

  same : (row : Row) → Named row → span_at touched q row ≡ time_span_of (merged.span_at row)
  same row h = λ i. record {
    group = record { name = row.header.name; quality = cond (a.quality i) None (Some row.header.quality); rate = cond (a.rate i) None (Some row.header.rate) };
    start = row.header.start;
    last = record { micros = below_top (floor_at row.header.start.micros (last_index row.header) row.header.rate) (last_moment_before row) i };
    updated = row.moment;
    restricted = untouched row h i;
  }

  same_more : (v : SpanValue) (row : Row) → Still v → Named row → longer touched (time_span_of v) row ≡ time_span_of (merged.longer v row)
  same_more v row still h =
      let floors : int_max (int_min (floor_of v.last) top) (floor_of (last_at row.header)) ≡ int_min (floor_of (merged.longer v row).last) top =
      greatest_below (floor_of v.last) (floor_of (last_at row.header)) (last_moment_before row)
      ∙ ap (λ f. int_min f top) (sym (greatest_floor v.last (last_at row.header) still (last_still row.header))) in
      λ i. record {
        group = record { name = v.name; quality = Some v.quality; rate = Some v.rate };
        start = record { micros = int_min v.start row.header.start.micros };
        last = record { micros = floors i };
        updated = record { micros = int_max v.updated row.moment.micros };
        restricted = untouched row h i;
      }

  abbrev spans_in_way : List Row → Merging → (Row → Bool) → List TimeSpan
  spans_in_way rows m test = made_of_each (span_at touched q) (longer touched) (span_runs m (λ (row : Row). row.header) (rows_in_order m test rows))

  -- the spans that are made of the rows are those that the shelf tells
  pub told : (rows : List Row) → map time_span_of (merged_spans_of name rows) ≡ spans_named seen touched q rows name
  told rows =
      let ordered = rows_in_order by_quality_and_rate (has_name name) rows in
      let named : AllByRecursion Named ordered = all_rows_in_order Named (has_name name) (λ row h. h) by_quality_and_rate rows in
      sym
      ((λ i. spans_in_way rows (merging_is q a i) (λ row. asked_is row i))
      ∙ made_related Named Still merged.span_at merged.longer (λ row h. last_still row.header) (λ v row s h. still_greater v.last (last_at row.header) s (last_still row.header))
      (span_at touched q) (longer touched) time_span_of same same_more (span_runs by_quality_and_rate (λ row. row.header) ordered) (all_span_runs Named by_quality_and_rate (λ row. row.header) ordered named))
