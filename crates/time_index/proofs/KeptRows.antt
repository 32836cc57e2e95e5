-- The spans that are kept of rows of one name, quality and rate, which go in one by one, are those of the rows in
-- order.
use Rattle.std.proofs.Common.{◌≡◌, ℕ, ◌+◌, ◌-◌, ◌*◌, ◌^◌, ◌<◌, ◌≤◌, ◌==◌, min, ℤ, pos, ◌+ℤ◌, ◌*ℤ◌, ◌≤ℤ◌, ◌<ℤ◌, Bool, true, false, not, cond, List, [], ◌∷◌, ◌++◌, map, filter, length, refl, sym, ap, ◌∙◌, arith, Ordering, nat_cmp, append-nil}
use Rattle.std.specs.Prelude.{int_lt}
use Rattle.std.specs.Int.{int_min, int_max}
use Rattle.std.specs.List.{AllByRecursion, fold, list_all, flat_map}
use Rattle.std.specs.List.Sorted.{IsStrictlySortedBy}
use Rattle.std.specs.BTreeSet.{insert_key}
use Rattle.std.specs.Ordering.{int_cmp, ordering_then, match_ordering, is_eq, MatchOrdering}
use Rattle.std.specs.declared.cmp.Ordering.TheVariants.{Less, Equal, Greater}
use Rattle.std.proofs.lemmas.Bool.{and_parts}
use Rattle.std.proofs.lemmas.Cmp.{int_ranked, tied_itself}
use Rattle.std.proofs.lemmas.Int.{ints, clamps}
use Rattle.std.proofs.lemmas.List.{map-append}
use Rattle.std.proofs.lemmas.Map.Lookups.{exact_unsigned}
use Rattle.list_laws.specs.Breaks.{made_of_each}
use Rattle.list_laws.specs.InOrder.{in_order}
use Rattle.list_laws.specs.Mending.{IsForward, AreSpread, mended}
use Rattle.list_laws.proofs.Keys.{all_in_order, length_in_order, sorted_in_order}
use Rattle.list_laws.proofs.Mended.{mended_inserted, swept_from, swept_mended, InOrder, apart_mend}
use Rattle.list_laws.proofs.Passes as passing
use Rattle.exact_time.specs.RateOrder.{rate_cmp, rates_total}
use Rattle.exact_time.specs.SampleTime.{sample_micros, sample_parts}
use Rattle.exact_time.specs.declared.moment.Moment.{Moment}
use Rattle.exact_time.specs.declared.ratio.Ratio.{Ratio}
use Rattle.exact_time.proofs.Rates.{exact_rates}
use Rattle.exact_time.proofs.Wholes.{some_parts}
use Rattle.channel_globs.proofs.Names.{names_total}
use Rattle.channel_globs.specs.Names.{name_cmp}
use Rattle.channel_globs.specs.declared.nslc.Nslc.{Nslc}
use Rattle.mseed_header.proofs.Qualities.{qualities_total, exact_qualities}
use Rattle.mseed_header.specs.Header.{EndsInTime, IsRecord}
use Rattle.mseed_header.specs.Quality.{quality_cmp}
use Rattle.mseed_header.specs.Times.{next_index, last_index}
use Rattle.mseed_header.specs.declared.row.Row.{Row}
use Rattle.dataselect.specs.MergedSpans.{SpanValue, by_quality_and_rate, has_name, span_at, longer, at_cmp}
use Rattle.dataselect.specs.Runs.{runs_by}
use Rattle.dataselect.specs.Runs as pairs
use Rattle.dataselect.specs.Spans.{breaks, group_cmp, is_other_group, is_too_late, placed_cmp, placed_from, rows_in_order, runs_in_group}
use Rattle.dataselect.proofs.Floors.{times_cancel}
use Rattle.dataselect.proofs.GroupCuts.{spans_of}
use Rattle.dataselect.proofs.Groups.{placed_total}
use Rattle.dataselect.proofs.Reaches.{far_more, far_alone, reach_of}
use Rattle.dataselect.proofs.Rises.{same_names}
use Rattle.list_laws.specs.Greater.{greater}
use Rattle.time_index.specs.declared.kept.Kept.{Kept}
use Rattle.time_index.specs.declared.kept.Mark.{Mark}
use Rattle.time_index.specs.declared.kind.Kind.{Kind}
use Rattle.time_index.specs.Kept.{kind_cmp, kind_of, is_of, mark_at, mark_cmp, from, upto, both, kept_mend, kept_of, kept_spans, span_value}
use Rattle.time_index.proofs.KeptOrder.{both_comm, both_assoc, greater_at, then_parts}

abbrev top : ℤ
top = pos (2 ^ 63 - 1)

-- every row starts at a moment that can be told
not_greater : (a b : ℤ) → ¬ (int_cmp a b ≡ Greater) → a ≤ℤ b
not_greater a b h =
    elim (int_cmp a b) as (λ o. int_cmp a b ≡ o → MatchOrdering o (a <ℤ b) (a ≡ b) (b <ℤ a) → a ≤ℤ b) [
      | Less ↦ λ _ k. omega (arith, ints)
      | Equal ↦ λ _ k. omega (arith, ints)
      | Greater ↦ λ e _. absurd (h e)
    ] refl (int_ranked a b (int_cmp a b) refl)

ends_in_time : (row : Row) → EndsInTime row.header.start.micros row.header.samples row.header.rate
unfolding IsRecord
ends_in_time row = row.head.0.reach

at_once : (s : ℤ) → (s *ℤ pos 1) ≤ℤ s
at_once s = omega (arith, ints)

sooner : (a : ℤ) (n : ℕ) → a ≤ℤ (a +ℤ pos n)
sooner a n = omega (arith, ints)

before_end : (s : ℤ) (n : ℕ) (rate : Ratio) → (s *ℤ pos (sample_parts rate)) ≤ℤ sample_micros s n rate
before_end s n rate =
    elim (rate.num == 0) as (λ b. (s *ℤ pos (cond b 1 rate.num)) ≤ℤ cond b s (s *ℤ pos rate.num +ℤ pos (n * rate.den * 1_000_000))) [
      | true ↦ at_once s
      | false ↦ sooner (s *ℤ pos rate.num) (n * rate.den * 1_000_000)
    ]

chained : (a b c : ℤ) → a ≤ℤ b → b ≤ℤ c → a ≤ℤ c
chained a b c h k = omega (arith, ints)

below_top : (s : ℤ) → s ≤ℤ pos 19_880_899_200_000_000 → s ≤ℤ top
below_top s h = omega (arith, ints)

pub start_small : (row : Row) → row.header.start.micros ≤ℤ top
start_small row =
    let s = row.header.start.micros in
    let rate = row.header.rate in
    let most = pos 19_880_899_200_000_000 in
    below_top s
    (times_cancel s most (sample_parts rate) (some_parts rate)
    (chained (s *ℤ pos (sample_parts rate)) (sample_micros s row.header.samples rate) (most *ℤ pos (sample_parts rate)) (before_end s row.header.samples rate)
    (not_greater (sample_micros s row.header.samples rate) (most *ℤ pos (sample_parts rate)) (ends_in_time row))))

reach_past : (s : ℤ) (n : ℕ) → s ≤ℤ top → s ≤ℤ int_min (s +ℤ pos n) top
reach_past s n h = omega (arith, ints, clamps)

pub ahead : (row : Row) → IsForward from upto (kept_of row)
ahead row = reach_past row.header.start.micros _ (start_small row)

-- a row of a name and a kind
pub record IsOf (name : Nslc) (kind : Kind) (row : Row) : Type 0 where
  pub name_is : row.header.name ≡ name
  pub quality_is : row.header.quality ≡ kind.quality
  pub rate_is : row.header.rate ≡ kind.rate

equal : (o : Ordering) → is_eq o ≡ true → o ≡ Equal
equal Less h = absurd (cc)
equal Equal h = refl
equal Greater h = absurd (cc)

pub of_kind : (name : Nslc) (kind : Kind) (row : Row) → is_of name kind row ≡ true → IsOf name kind row
of_kind name kind row h =
    let parts = and_parts (has_name name row) (is_eq (kind_cmp (kind_of row) kind)) h in
    let kinds = then_parts (quality_cmp row.header.quality kind.quality) (rate_cmp row.header.rate kind.rate) (equal (kind_cmp (kind_of row) kind) parts.1) in
    record { name_is = same_names row.header.name name parts.0; quality_is = exact_qualities row.header.quality kind.quality kinds.0; rate_is = exact_rates row.header.rate kind.rate kinds.1 }

module _ (name : Nslc) (kind : Kind) where
  abbrev rate : Ratio
  rate = kind.rate

  abbrev test : Row → Bool
  test = is_of name kind

  abbrev Of : Row → Type 0
  Of row = is_of name kind row ≡ true

  abbrev one : ℕ × Row → Moment × Kept
  one p = kept_of p.1

  abbrev value : Moment × Kept → SpanValue
  value = span_value name kind

  abbrev cmp : ℕ × Row → ℕ × Row → Ordering
  cmp = placed_cmp by_quality_and_rate

  abbrev gone_in : List (ℕ × Row) → List (Moment × Kept)
  gone_in ps = mended from upto (both rate) one ps

  -- the rows go in by their order or one by one
  later_index : (a b : ℕ × Row) → b.0 < a.0 → (cmp a b ≡ Equal) → ⊥
  later_index a b h e =
      let places = ordering_then (nat_cmp a.1.place b.1.place) (nat_cmp a.0 b.0) in
      let entries = ordering_then (nat_cmp a.1.entry b.1.entry) places in
      let starts = ordering_then (int_cmp a.1.header.start.micros b.1.header.start.micros) entries in
      let one = then_parts (group_cmp by_quality_and_rate a.1.header b.1.header) starts e in
      let two = then_parts (int_cmp a.1.header.start.micros b.1.header.start.micros) entries one.1 in
      let three = then_parts (nat_cmp a.1.entry b.1.entry) places two.1 in
      let four = then_parts (nat_cmp a.1.place b.1.place) (nat_cmp a.0 b.0) three.1 in
      let same : a.0 ≡ b.0 = exact_unsigned a.0 b.0 four.1 in
      omega (arith, h, same)

  all_less : (i : ℕ) (row : Row) (done : List (ℕ × Row)) → AllByRecursion (λ p. p.0 < i) done → AllByRecursion (λ p. (cmp (i, row) p ≡ Equal) → ⊥) done
  all_less i row [] all = tt
  all_less i row (p ∷ done) all = (later_index (i, row) p all.0, all_less i row done all.1)

  all_more : (i : ℕ) (done : List (ℕ × Row)) → AllByRecursion (λ p. p.0 < i) done → AllByRecursion (λ p. p.0 < i + 1) done
  all_more i [] all = tt
  all_more i (p ∷ done) all = (let h : p.0 < i = all.0 in omega (arith, h), all_more i done all.1)

  abbrev put : List (Moment × Kept) → Row → List (Moment × Kept)
  put spans row = kept_mend rate (kept_of row) spans

  turned : (i : ℕ) (rows : List Row) (done : List (ℕ × Row)) → AllByRecursion (λ p. p.0 < i) done → gone_in (in_order cmp done (placed_from test i rows)) ≡ fold put (gone_in done) (filter test rows)
  turned i [] done all = refl
  turned i (row ∷ rows) done all =
      let next : i < i + 1 = omega arith in
      elim (test row) as (λ b. gone_in (in_order cmp done (cond b ((i, row) ∷ placed_from test (i + 1) rows) (placed_from test (i + 1) rows))) ≡ fold put (gone_in done) (cond b (row ∷ filter test rows) (filter test rows))) [
        | true ↦
            turned (i + 1) rows (insert_key cmp done (i, row)) (all_in_order cmp (λ p. p.0 < i + 1) done ((i, row) ∷ []) (all_more i done all) (next, tt))
            ∙ ap (λ (spans : List (Moment × Kept)). fold put spans (filter test rows))
            (mended_inserted from upto (both rate) (both_comm rate) (both_assoc rate) (λ a b. refl) (λ a b. refl) one (λ p. ahead p.1) cmp done (i, row) (all_less i row done all))
        | false ↦ turned (i + 1) rows done (all_more i done all)
      ]

  pub kept_in_order : (rows : List Row) → gone_in (in_order cmp [] (placed_from test 0 rows)) ≡ kept_spans rate (filter test rows)
  kept_in_order rows = turned 0 rows [] tt

  -- all are of one group, in order of their starts
  one_group : (a b : Row) → Of a → Of b → group_cmp by_quality_and_rate a.header b.header ≡ Equal
  one_group a b p q =
      let x = of_kind name kind a p in
      let y = of_kind name kind b q in
      (λ i. ordering_then (name_cmp (x.name_is i) (y.name_is i)) (ordering_then (quality_cmp (x.quality_is i) (y.quality_is i)) (rate_cmp (x.rate_is i) (y.rate_is i))))
      ∙ (λ i. ordering_then (tied_itself names_total name i) (ordering_then (tied_itself qualities_total kind.quality i) (tied_itself rates_total kind.rate i)))

  no_other : (a b : Row) → Of a → Of b → is_other_group by_quality_and_rate a.header b.header ≡ false
  no_other a b p q = ap (λ o. not (is_eq o)) (one_group a b p q)

  rises : (s t : ℤ) (o : Ordering) → ordering_then (int_cmp s t) o ≡ Less → s ≤ℤ t
  rises s t o h =
      elim (int_cmp s t) as (λ r. MatchOrdering r (s <ℤ t) (s ≡ t) (t <ℤ s) → ordering_then r o ≡ Less → s ≤ℤ t) [
        | Less ↦ λ m _. omega (arith, ints, m)
        | Equal ↦ λ e _. omega (arith, ints, e)
        | Greater ↦ λ _ e. absurd (cc)
      ] (int_ranked s t (int_cmp s t) refl) h

  starts_rise : (a b : ℕ × Row) → Of a.1 → Of b.1 → cmp a b ≡ Less → from (one a) ≤ℤ from (one b)
  starts_rise a b p q h =
      let rest = ordering_then (nat_cmp a.1.entry b.1.entry) (ordering_then (nat_cmp a.1.place b.1.place) (nat_cmp a.0 b.0)) in
      rises a.1.header.start.micros b.1.header.start.micros rest
      (sym (ap (λ o. ordering_then o (ordering_then (int_cmp a.1.header.start.micros b.1.header.start.micros) rest)) (one_group a.1 b.1 p q)) ∙ h)

  all_rise : (p : ℕ × Row) (ps : List (ℕ × Row)) → Of p.1 → AllByRecursion (λ x. Of x.1) ps → AllByRecursion (λ x. cmp p x ≡ Less) ps → AllByRecursion (λ x. from (one p) ≤ℤ from (one x)) ps
  all_rise p [] h all less = tt
  all_rise p (x ∷ ps) h all less = (starts_rise p x h all.0 less.0, all_rise p ps h all.1 less.1)

  abbrev Rising : List (ℕ × Row) → Type 0
  Rising = InOrder from upto (both rate) (both_comm rate) (both_assoc rate) (λ a b. refl) (λ a b. refl) one (λ p. ahead p.1)

  rising : (ps : List (ℕ × Row)) → AllByRecursion (λ x. Of x.1) ps → IsStrictlySortedBy cmp ps → Rising ps
  unfolding IsStrictlySortedBy
  rising [] all up = tt
  rising (p ∷ ps) all up = (all_rise p ps all.0 all.1 up.0, rising ps all.1 up.1)

  -- one pass over the rows
  abbrev behind : ℤ → Row → Bool
  behind far row = int_lt far row.header.start.micros

  abbrev farther : ℤ → Row → ℤ
  farther far row = int_max far (reach_of 0 row.header)

  abbrev row_breaks : List Row → Row → Bool
  row_breaks earlier row = breaks by_quality_and_rate (map (λ (r : Row). r.header) earlier) row.header

  abbrev Knows : List Row → ℤ → Type 0
  Knows earlier far = passing.Knows span_at longer behind farther row_breaks earlier far

  step : (earlier : List Row) (far : ℤ) (row : Row) → Knows earlier far → Knows (earlier ++ row ∷ []) (farther far row)
  step earlier far row known later =
      let q = later.header.start.micros in
      ap (list_all (λ h. is_too_late 0 h q)) (map-append (λ (r : Row). r.header) earlier (row ∷ []))
      ∙ far_more 0 (map (λ (r : Row). r.header) earlier) far row.header q (known later)

  first : (row : Row) → Knows (row ∷ []) (reach_of 0 row.header)
  first row later = far_alone 0 row.header later.header.start.micros

  begins : (row : Row) → Of row → value (kept_of row) ≡ span_at row
  begins row h =
      let x = of_kind name kind row h in
      sym (λ i. record {
        name = x.name_is i;
        quality = x.quality_is i;
        rate = x.rate_is i;
        start = row.header.start.micros;
        next = record { start = row.header.start.micros; k = next_index row.header; rate = x.rate_is i };
        last = record { start = row.header.start.micros; k = last_index row.header; rate = x.rate_is i };
        updated = row.moment.micros;
        rows = 1;
      })

  counted : (n m : ℕ) → n + 1 ≤ m → min (n + 1) m ≡ n + 1
  counted n m h = omega (arith, h)

  grows : (e : Moment × Kept) (row : Row) → Of row → e.1.rows + 1 ≤ 2 ^ 64 - 1 → value (both rate e (kept_of row)) ≡ longer (value e) row
  grows e row h fits =
      let x = of_kind name kind row h in
      let new = kept_of row in
      λ i. record {
        name = name;
        quality = kind.quality;
        rate = kind.rate;
        start = int_min e.0.micros row.header.start.micros;
        next = (sym (greater_at rate e.1.next new.1.next) ∙ (λ j. greater at_cmp (mark_at rate e.1.next) (record { start = row.header.start.micros; k = next_index row.header; rate = sym x.rate_is j }))) i;
        last = (sym (greater_at rate e.1.last new.1.last) ∙ (λ j. greater at_cmp (mark_at rate e.1.last) (record { start = row.header.start.micros; k = last_index row.header; rate = sym x.rate_is j }))) i;
        updated = int_max e.1.updated.micros row.moment.micros;
        rows = counted e.1.rows (2 ^ 64 - 1) fits i;
      }

  clamped : (f s : ℤ) → s ≤ℤ top → int_lt (int_min f top) s ≡ int_lt f s
  clamped f s h = grind (arith, ints)

  far_new : (far s r : ℤ) → int_lt far s ≡ true → s ≤ℤ int_min r top → int_min r top ≡ int_min (int_max far r) top
  far_new far s r h k = grind (arith, ints)

  far_both : (far r : ℤ) → int_max (int_min far top) (int_min r top) ≡ int_min (int_max far r) top
  far_both far r = grind (arith, ints)

  abbrev sweep : Moment × Kept → List (ℕ × Row) → List (Moment × Kept)
  sweep = swept_from from upto (both rate) (both_comm rate) (both_assoc rate) (λ a b. refl) (λ a b. refl) one (λ p. ahead p.1)

  abbrev seconds : List (ℕ × Row) → List Row
  seconds ps = map (λ p. p.1) ps

  swept : (e : Moment × Kept) (far : ℤ) (ps : List (ℕ × Row)) → AllByRecursion (λ p. Of p.1) ps → upto e ≡ int_min far top → e.1.rows + length ps ≤ 2 ^ 64 - 1 → 0 < e.1.rows
      → map value (sweep e ps) ≡ passing.pass span_at longer behind farther (value e) far (seconds ps)
  swept e far [] all up fits some = refl
  swept e far (p ∷ ps) all up fits some =
      let row = p.1 in
      let s = row.header.start.micros in
      let r = reach_of 0 row.header in
      let far' = int_max far r in
      let same : int_lt (upto e) s ≡ int_lt far s = ap (λ z. int_lt z s) up ∙ clamped far s (start_small row) in
      let more : 1 + length ps ≤ 2 ^ 64 - 1 = omega (arith, fits, some) in
      let fits' : e.1.rows + 1 ≤ 2 ^ 64 - 1 = omega (arith, fits) in
      let counts : min (e.1.rows + 1) (2 ^ 64 - 1) + length ps ≤ 2 ^ 64 - 1 = omega (arith, fits) in
      let still : 0 < min (e.1.rows + 1) (2 ^ 64 - 1) = omega arith in
      let one_row : 0 < 1 = omega arith in
      ap (λ b. map value (cond b (e ∷ sweep (one p) ps) (sweep (both rate e (one p)) ps))) same
      ∙ elim (int_lt far s) as (λ b. int_lt far s ≡ b → map value (cond b (e ∷ sweep (one p) ps) (sweep (both rate e (one p)) ps)) ≡ cond b (value e ∷ passing.pass span_at longer behind farther (span_at row) far' (seconds ps)) (passing.pass span_at longer behind farther (longer (value e) row) far' (seconds ps))) [
        | true ↦ λ h.
            ap (λ vs. value e ∷ vs)
            (swept (one p) far' ps all.1 (far_new far s r h (ahead row)) more one_row
            ∙ ap (λ v. passing.pass span_at longer behind farther v far' (seconds ps)) (begins row all.0))
        | false ↦ λ _.
            swept (both rate e (one p)) far' ps all.1 (ap (λ z. int_max z (int_min r top)) up ∙ far_both far r) counts still
            ∙ ap (λ v. passing.pass span_at longer behind farther v far' (seconds ps)) (grows e row all.0 fits')
      ] refl

  -- rows of one group are one list of runs
  alone : (b : Row → Row → Bool) (P : Row → Type 0) → ((x y : Row) → P x → P y → b x y ≡ false) → (x : Row) (xs : List Row) → AllByRecursion P (x ∷ xs) → runs_by b (x ∷ xs) ≡ (x ∷ xs) ∷ []
  alone b P never x [] all = refl
  alone b P never x (y ∷ xs) all =
      ap (pairs.put_before b x) (alone b P never y xs all.1)
      ∙ ap (λ c. cond c ((x ∷ []) ∷ (y ∷ xs) ∷ []) ((x ∷ y ∷ xs) ∷ [])) (never x y all.0 all.1.0)

  all_seconds : (ps : List (ℕ × Row)) → AllByRecursion (λ p. Of p.1) ps → AllByRecursion Of (seconds ps)
  all_seconds [] all = tt
  all_seconds (p ∷ ps) all = (all.0, all_seconds ps all.1)

  in_order_are : (ps : List (ℕ × Row)) → AllByRecursion (λ p. Of p.1) ps → IsStrictlySortedBy cmp ps → length ps ≤ 2 ^ 32
      → map value (gone_in ps) ≡ spans_of by_quality_and_rate (λ (row : Row). row.header) span_at longer (seconds ps)
  in_order_are [] all up few = refl
  in_order_are (p ∷ ps) all up few =
      let row = p.1 in
      let fits : 1 + length ps ≤ 2 ^ 64 - 1 = omega (arith, few) in
      let one_row : 0 < 1 = omega arith in
      let rise = rising (p ∷ ps) all up in
      ap (map value) (sym (swept_mended from upto (both rate) (both_comm rate) (both_assoc rate) (λ a b. refl) (λ a b. refl) one (λ x. ahead x.1) (one p) ps (ahead row) rise.0 rise.1))
      ∙ swept (one p) (reach_of 0 row.header) ps all.1 refl fits one_row
      ∙ ap (λ v. passing.pass span_at longer behind farther v (reach_of 0 row.header) (seconds ps)) (begins row all.0)
      ∙ passing.passed_all span_at longer behind farther row_breaks step (reach_of 0 row.header) row (seconds ps) (first row)
      ∙ ap (made_of_each span_at longer)
      (sym (append-nil (runs_in_group by_quality_and_rate (λ (r : Row). r.header) (row ∷ seconds ps)))
      ∙ ap (λ gs. flat_map (runs_in_group by_quality_and_rate (λ (r : Row). r.header)) gs)
      (sym (alone (λ x y. is_other_group by_quality_and_rate x.header y.header) Of no_other row (seconds ps) (all.0, all_seconds ps all.1))))

  all_of : (i : ℕ) (rows : List Row) → AllByRecursion (λ p. Of p.1) (placed_from test i rows)
  all_of i [] = tt
  all_of i (row ∷ rows) =
      elim (test row) as (λ b. test row ≡ b → AllByRecursion (λ (p : ℕ × Row). Of p.1) (cond b ((i, row) ∷ placed_from test (i + 1) rows) (placed_from test (i + 1) rows))) [
        | true ↦ λ e. (e, all_of (i + 1) rows)
        | false ↦ λ _. all_of (i + 1) rows
      ] refl

  no_more_placed : (i : ℕ) (rows : List Row) → length (placed_from test i rows) ≤ length rows
  no_more_placed i [] = omega arith
  no_more_placed i (row ∷ rows) =
      let rest = no_more_placed (i + 1) rows in
      elim (test row) as (λ b. length (cond b ((i, row) ∷ placed_from test (i + 1) rows) (placed_from test (i + 1) rows)) ≤ length (row ∷ rows)) [
        | true ↦ omega (arith, rest)
        | false ↦ omega (arith, rest)
      ]

  -- what is kept of the rows are their spans
  pub kept_are_spans : (rows : List Row) → length rows ≤ 2 ^ 32
      → map value (kept_spans rate (filter test rows)) ≡ spans_of by_quality_and_rate (λ (row : Row). row.header) span_at longer (rows_in_order by_quality_and_rate test rows)
  kept_are_spans rows few =
      let ps = placed_from test 0 rows in
      ap (map value) (sym (kept_in_order rows))
      ∙ in_order_are (in_order cmp [] ps) (all_in_order cmp (λ p. Of p.1) [] ps tt (all_of 0 rows)) (sorted_in_order (placed_total by_quality_and_rate) ps)
      (let n = length_in_order cmp [] ps in let m = no_more_placed 0 rows in omega (arith, n, m, few))

  -- kept spans are apart
  pub kept_spread : (rows : List Row) → AreSpread from upto (kept_spans rate rows)
  kept_spread rows = spread_from rows [] tt
    where
      spread_from : (rows : List Row) (spans : List (Moment × Kept)) → AreSpread from upto spans → AreSpread from upto (fold put spans rows)
      spread_from [] spans apart = apart
      spread_from (row ∷ rows) spans apart =
          spread_from rows (put spans row) (apart_mend from upto (both rate) (both_comm rate) (both_assoc rate) (λ a b. refl) (λ a b. refl) (kept_of row) spans (ahead row) apart)

  -- a time of a rate of 0 has no samples ahead
  abbrev pub Still : Moment × Kept → Type 0
  Still e = kind.rate.num ≡ 0 → (e.1.next.k ≡ 0) × (e.1.last.k ≡ 0)

  none_of_greater : (a b : Mark) → a.k ≡ 0 → b.k ≡ 0 → (greater (mark_cmp rate) a b).k ≡ 0
  none_of_greater a b h k =
      elim (mark_cmp rate a b) as (λ o. (match_ordering o b a a).k ≡ 0) [
        | Less ↦ k
        | Equal ↦ h
        | Greater ↦ h
      ]

  still_both : (e f : Moment × Kept) → Still e → Still f → Still (both rate e f)
  still_both e f h k none = (none_of_greater e.1.next f.1.next (h none).0 (k none).0, none_of_greater e.1.last f.1.last (h none).1 (k none).1)

  still_mended : (e : Moment × Kept) (spans : List (Moment × Kept)) → Still e → AllByRecursion Still spans → AllByRecursion Still (kept_mend rate e spans)
  still_mended e [] h all = (h, tt)
  still_mended e (t ∷ ts) h all =
      elim (int_lt (upto t) (from e)) as (λ b. AllByRecursion Still (cond b (t ∷ kept_mend rate e ts) (cond (int_lt (upto e) (from t)) (e ∷ t ∷ ts) (kept_mend rate (both rate e t) ts)))) [
        | true ↦ (all.0, still_mended e ts h all.1)
        | false ↦ elim (int_lt (upto e) (from t)) as (λ b. AllByRecursion Still (cond b (e ∷ t ∷ ts) (kept_mend rate (both rate e t) ts))) [
          | true ↦ (h, all)
          | false ↦ still_mended (both rate e t) ts (still_both e t h all.0) all.1
        ]
      ]

  none_there : (n : ℕ) (r : Ratio) → r.num ≡ 0 → cond (r.num == 0) 0 n ≡ 0
  none_there n r none = ap (λ k. cond (k == 0) 0 n) none

  still_row : (row : Row) → Of row → Still (kept_of row)
  still_row row h none =
      let zero : row.header.rate.num ≡ 0 = ap (λ (r : Ratio). r.num) (of_kind name kind row h).rate_is ∙ none in
      (none_there row.header.samples row.header.rate zero, none_there (row.header.samples - 1) row.header.rate zero)

  still_from : (rows : List Row) (spans : List (Moment × Kept)) → AllByRecursion Still spans → AllByRecursion Still (fold put spans (filter test rows))
  still_from [] spans all = all
  still_from (row ∷ rows) spans all =
      elim (test row) as (λ b. test row ≡ b → AllByRecursion Still (fold put spans (cond b (row ∷ filter test rows) (filter test rows)))) [
        | true ↦ λ e. still_from rows (put spans row) (still_mended (kept_of row) spans (still_row row e) all)
        | false ↦ λ _. still_from rows spans all
      ] refl

  pub kept_still : (rows : List Row) → AllByRecursion Still (kept_spans rate (filter test rows))
  kept_still rows = still_from rows [] tt
