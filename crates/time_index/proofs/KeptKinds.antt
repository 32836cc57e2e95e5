-- The merged spans of a name are those that are kept of its kinds, one behind the other.
use Rattle.std.proofs.Common.{◌≡◌, ℕ, ◌+◌, ◌^◌, ◌≤◌, ◌==◌, Bool, true, false, not, ◌&&◌, ◌||◌, cond, List, [], ◌∷◌, ◌++◌, map, filter, length, Option, Some, refl, sym, ap, ◌∙◌, arith, subst, Ordering, true≢false, nat_cmp}
use Rattle.std.specs.List.{AllByRecursion, list_any, fold, flat_map, slice_get}
use Rattle.std.specs.List.Sorted.{IsStrictlySortedBy}
use Rattle.std.specs.Map.{lookup}
use Rattle.std.specs.Prelude.{int_lt}
use Rattle.std.proofs.lemmas.Map.Lookups.{CmpEqualImpliesEq, exact_pairs}
use Rattle.std.specs.BTreeMap.{BTreeMap, get, is_at}
use Rattle.std.specs.Cmp.{IsTotalOrder}
use Rattle.std.specs.Ordering.{int_cmp, ordering_then, is_eq}
use Rattle.std.specs.declared.cmp.Ordering.TheVariants.{Less, Equal, Greater}
use Rattle.std.proofs.lemmas.Bool.{or_left, or_right, and_from, and_parts}
use Rattle.std.proofs.lemmas.Cmp.{tied_itself, on_total, then_total}
use Rattle.std.proofs.lemmas.Grind.{flat_map-append}
use Rattle.std.proofs.lemmas.List.Folds.{flat_map-map}
use Rattle.std.proofs.lemmas.Map.Views.{tells_apart}
use Rattle.list_laws.specs.InOrder.{in_order}
use Rattle.exact_time.specs.RateOrder.{rate_cmp, rates_total}
use Rattle.channel_globs.proofs.Names.{names_total}
use Rattle.channel_globs.specs.Names.{name_cmp}
use Rattle.channel_globs.specs.declared.nslc.Nslc.{Nslc}
use Rattle.exact_time.specs.declared.moment.Moment.{Moment}
use Rattle.exact_time.proofs.Rates.{exact_rates}
use Rattle.exact_time.specs.declared.ratio.Ratio.{Ratio}
use Rattle.mseed_header.proofs.Qualities.{qualities_total, exact_qualities, quality_same}
use Rattle.mseed_header.specs.declared.quality.Quality.{Quality}
use Rattle.mseed_header.specs.Quality.{quality_cmp}
use Rattle.mseed_header.specs.declared.row.Row.{Row}
use Rattle.dataselect.specs.MergedSpans.{by_quality_and_rate, has_name, span_at, longer, merged_spans_of}
use Rattle.dataselect.specs.Segments.{is_same_name}
use Rattle.dataselect.specs.SpanOrder.{span_rank_cmp, rank_placed, row_or_none, rows_ranked}
use Rattle.dataselect.specs.Spans.{is_other_group, placed_from, rows_in_order}
use Rattle.dataselect.specs.declared.span_order.SpanRank.{SpanRank}
use Rattle.dataselect.proofs.GroupCuts.{spans_of}
use Rattle.dataselect.proofs.Parts.{spans_parts, all_rows_in_order}
use Rattle.dataselect.proofs.Rises.{same_names, same_name_of}
use Rattle.dataselect.proofs.SpanRanks.{span_ranks_total, exact_span_ranks, ranked_rows}
use Rattle.dataselect.proofs.Splits.{split, all_weaker}
use Rattle.time_index.specs.declared.kept.Kept.{Kept}
use Rattle.time_index.specs.contracts.kind.KindOrd.TheImpl.{cmp-value as by_kind}
use Rattle.time_index.specs.declared.kind.Kind.{Kind}
use Rattle.time_index.specs.Kept.{kind_cmp, kind_of, is_of, from, upto, both, kept_mend, kept_of, entries_or, spans_at, Kinds, AreKept, mark_at, span_value, told_at, told_value, told_values, kind_values, all_values}
use Rattle.time_index.proofs.KeptRows.{kept_are_spans, Still, kept_still}
use Rattle.time_index.specs.declared.kept.Mark.{Mark}
use Rattle.std.proofs.lemmas.Bool.Decides.{nat_tests}

pub kinds_total : IsTotalOrder kind_cmp
kinds_total = then_total (on_total (λ (k : Kind). k.quality) qualities_total) (on_total (λ (k : Kind). k.rate) rates_total)

flat_twice : {X Y Z : Type 0} (f : X → List Y) (g : Y → List Z) (xs : List X) → flat_map g (flat_map f xs) ≡ flat_map (λ x. flat_map g (f x)) xs
flat_twice f g [] = refl
flat_twice f g (x ∷ xs) = flat_map-append g (f x) (flat_map f xs) ∙ ap (λ zs. flat_map g (f x) ++ zs) (flat_twice f g xs)

flat_alike : {X Y : Type 0} (f g : X → List Y) (P : X → Type 0) → ((x : X) → P x → f x ≡ g x) → (xs : List X) → AllByRecursion P xs → flat_map f xs ≡ flat_map g xs
flat_alike f g P same [] all = refl
flat_alike f g P same (x ∷ xs) all = λ i. same x all.0 i ++ flat_alike f g P same xs all.1 i

pub exact_kinds : CmpEqualImpliesEq kind_cmp
exact_kinds a b h =
    ap (λ (p : Quality × Ratio). record { quality = p.0; rate = p.1 })
    (exact_pairs quality_cmp rate_cmp exact_qualities exact_rates (a.quality, a.rate) (b.quality, b.rate) h)

pub kind_same : by_kind.it ≡ kind_cmp
kind_same = λ i a b. ordering_then (quality_same a.quality b.quality i) (rate_cmp a.rate b.rate)

then_then : (a b c : Ordering) → ordering_then (ordering_then a b) c ≡ ordering_then a (ordering_then b c)
then_then Less b c = refl
then_then Equal b c = refl
then_then Greater b c = refl

zero_is : (n : ℕ) → (n == 0) ≡ true → n ≡ 0
zero_is n h = grind (arith, nat_tests)

abbrev pub keys_of : List (Kind × BTreeMap Moment Kept) → List Kind
keys_of entries = map (λ e. e.0) entries

-- a span that goes in leaves some
is_full : List (Moment × Kept) → Bool
is_full [] = false
is_full (e ∷ es) = true

module _ (kind : Kind) where
  abbrev put : List (Moment × Kept) → Row → List (Moment × Kept)
  put spans row = kept_mend kind.rate (kept_of row) spans

  full_mend : (e : Moment × Kept) (spans : List (Moment × Kept)) → is_full (kept_mend kind.rate e spans) ≡ true
  unfolding is_full
  full_mend e [] = refl
  full_mend e (t ∷ ts) =
      elim (int_lt (upto t) (from e)) as (λ b. is_full (cond b (t ∷ kept_mend kind.rate e ts) (cond (int_lt (upto e) (from t)) (e ∷ t ∷ ts) (kept_mend kind.rate (both kind.rate e t) ts))) ≡ true) [
        | true ↦ refl
        | false ↦ elim (int_lt (upto e) (from t)) as (λ b. is_full (cond b (e ∷ t ∷ ts) (kept_mend kind.rate (both kind.rate e t) ts)) ≡ true) [
          | true ↦ refl
          | false ↦ full_mend (both kind.rate e t) ts
        ]
      ]

  full_more : (rows : List Row) (spans : List (Moment × Kept)) → is_full spans ≡ true → is_full (fold put spans rows) ≡ true
  full_more [] spans h = h
  full_more (row ∷ rows) spans h = full_more rows (put spans row) (full_mend (kept_of row) spans)

  full_rows : (test : Row → Bool) (rows : List Row) (spans : List (Moment × Kept)) → list_any test rows ≡ true → is_full (fold put spans (filter test rows)) ≡ true
  full_rows test [] spans h = absurd (true≢false (sym h))
  full_rows test (row ∷ rows) spans h =
      elim (test row) as (λ b. (b || list_any test rows) ≡ true → is_full (fold put spans (cond b (row ∷ filter test rows) (filter test rows))) ≡ true) [
        | true ↦ λ _. full_more (filter test rows) (put spans row) (full_mend (kept_of row) spans)
        | false ↦ λ k. full_rows test rows spans k
      ] h

-- two rows have one name, quality and rate
abbrev like : Row → Row → Bool
like x r = is_same_name x.header.name r.header.name && is_eq (kind_cmp (kind_of r) (kind_of x))

-- each row is one of the rows
all_there : (rows : List Row) → AllByRecursion (λ row. list_any (like row) rows ≡ true) rows
all_there [] = tt
all_there (row ∷ rows) = (
  or_left (like row row) (list_any (like row) rows) (and_from (is_same_name row.header.name row.header.name) (is_eq (kind_cmp (kind_of row) (kind_of row))) (same_name_of row.header.name row.header.name refl) (ap is_eq (tied_itself kinds_total (kind_of row)))),
  all_weaker (λ (x : Row). list_any (like x) rows ≡ true) (λ (x : Row). list_any (like x) (row ∷ rows) ≡ true) (λ x h. or_right (like x row) (list_any (like x) rows) h) rows (all_there rows),
)

found : (q : Kind) (entries : List (Kind × BTreeMap Moment Kept)) → is_full (entries_or (lookup (is_at (kind_cmp q)) entries)) ≡ true → list_any (λ k. is_eq (kind_cmp q k)) (keys_of entries) ≡ true
unfolding is_full
found q [] h = absurd (true≢false (sym h))
found q (e ∷ es) h =
    elim (is_eq (kind_cmp q e.0)) as (λ b. is_full (entries_or (cond b (Some e.1) (lookup (is_at (kind_cmp q)) es))) ≡ true → (b || list_any (λ k. is_eq (kind_cmp q k)) (keys_of es)) ≡ true) [
      | true ↦ λ _. refl
      | false ↦ λ k. found q es k
    ] h

module _ (name : Nslc) (rows : List Row) (few : length rows ≤ 2 ^ 32) (kinds : Kinds) (kept : AreKept rows name kinds)
    (at : AllByRecursion (λ e. get kind_cmp kinds e.0 ≡ Some e.1) kinds.entries) (up : IsStrictlySortedBy kind_cmp (keys_of kinds.entries)) where
  abbrev keys : List Kind
  keys = keys_of kinds.entries

  abbrev own : Kind → SpanRank → Bool
  own kind r = is_same_name r.name name && is_eq (kind_cmp (record { quality = r.quality; rate = r.rate }) kind)

  equal : (o : Ordering) → is_eq o ≡ true → o ≡ Equal
  equal Less h = absurd (cc)
  equal Equal h = refl
  equal Greater h = absurd (cc)

  -- kinds that stand equal to others stand as these do
  as_they : (a b m n : Kind) → is_eq (kind_cmp a m) ≡ true → is_eq (kind_cmp b n) ≡ true → kind_cmp m n ≡ Less → kind_cmp a b ≡ Less
  as_they a b m n h k lt =
      (λ i. kind_cmp (exact_kinds a m (equal (kind_cmp a m) h) i) (exact_kinds b n (equal (kind_cmp b n) k) i)) ∙ lt

  below : (m n : Kind) (a b : SpanRank) → kind_cmp m n ≡ Less → own m a ≡ true → own n b ≡ true → span_rank_cmp a b ≡ Less
  below m n a b lt o p =
      let x = and_parts (is_same_name a.name name) _ o in
      let y = and_parts (is_same_name b.name name) _ p in
      let rest = ordering_then (int_cmp a.start.micros b.start.micros) (ordering_then (nat_cmp a.entry b.entry) (ordering_then (nat_cmp a.place b.place) (nat_cmp a.index b.index))) in
      let less = as_they (record { quality = a.quality; rate = a.rate }) (record { quality = b.quality; rate = b.rate }) m n x.1 y.1 lt in
      (λ i. ordering_then (name_cmp (same_names a.name name x.0 i) (same_names b.name name y.0 i)) (ordering_then (quality_cmp a.quality b.quality) (ordering_then (rate_cmp a.rate b.rate) rest)))
      ∙ (λ i. ordering_then (tied_itself names_total name i) (ordering_then (quality_cmp a.quality b.quality) (ordering_then (rate_cmp a.rate b.rate) rest)))
      ∙ sym (then_then (quality_cmp a.quality b.quality) (rate_cmp a.rate b.rate) rest)
      ∙ ap (λ o. ordering_then o rest) less

  abbrev all_ranks : List SpanRank
  all_ranks = map rank_placed (placed_from (has_name name) 0 rows)

  of_kind : (kind : Kind) (row : Row) (i : ℕ) (l m : List (ℕ × Row)) (b k : Bool) → own kind (rank_placed (i, row)) ≡ (b && k) → filter (own kind) (map rank_placed l) ≡ map rank_placed m
      → filter (own kind) (map rank_placed (cond b ((i, row) ∷ l) l)) ≡ map rank_placed (cond (b && k) ((i, row) ∷ m) m)
  of_kind kind row i l m true true is rest =
      ap (λ c. cond c (rank_placed (i, row) ∷ filter (own kind) (map rank_placed l)) (filter (own kind) (map rank_placed l))) is ∙ ap (λ (rs : List SpanRank). rank_placed (i, row) ∷ rs) rest
  of_kind kind row i l m true false is rest =
      ap (λ c. cond c (rank_placed (i, row) ∷ filter (own kind) (map rank_placed l)) (filter (own kind) (map rank_placed l))) is ∙ rest
  of_kind kind row i l m false k is rest = rest

  filtered : (kind : Kind) (i : ℕ) (some : List Row) → filter (own kind) (map rank_placed (placed_from (has_name name) i some)) ≡ map rank_placed (placed_from (is_of name kind) i some)
  filtered kind i [] = refl
  filtered kind i (row ∷ some) =
      of_kind kind row i (placed_from (has_name name) (i + 1) some) (placed_from (is_of name kind) (i + 1) some) (has_name name row) (is_eq (kind_cmp (kind_of row) kind)) refl (filtered kind (i + 1) some)

  -- each row of the name has its kind among them
  as_kind : (x : Row) → has_name name x ≡ true → (some : List Row) → list_any (like x) some ≡ true → list_any (is_of name (kind_of x)) some ≡ true
  as_kind x named [] h = absurd (true≢false (sym h))
  as_kind x named (r ∷ some) h =
      elim (like x r) as (λ b. like x r ≡ b → (b || list_any (like x) some) ≡ true → list_any (is_of name (kind_of x)) (r ∷ some) ≡ true) [
        | true ↦ λ e _.
            let parts = and_parts (is_same_name x.header.name r.header.name) (is_eq (kind_cmp (kind_of r) (kind_of x))) e in
            or_left (is_of name (kind_of x) r) (list_any (is_of name (kind_of x)) some)
            (and_from (has_name name r) (is_eq (kind_cmp (kind_of r) (kind_of x))) (same_name_of r.header.name name (sym (same_names x.header.name r.header.name parts.0) ∙ same_names x.header.name name named)) parts.1)
        | false ↦ λ _ k. or_right (is_of name (kind_of x) r) (list_any (is_of name (kind_of x)) some) (as_kind x named some k)
      ] refl h

  any_own : (x : Row) (i : ℕ) → has_name name x ≡ true → (ks : List Kind) → list_any (λ k. is_eq (kind_cmp (kind_of x) k)) ks ≡ true → list_any (λ k. own k (rank_placed (i, x))) ks ≡ true
  any_own x i named ks h = (λ j. list_any (λ k. named j && is_eq (kind_cmp (kind_of x) k)) ks) ∙ h

  covered : (x : Row) (i : ℕ) → has_name name x ≡ true → list_any (like x) rows ≡ true → list_any (λ k. own k (rank_placed (i, x))) keys ≡ true
  covered x i named there =
      any_own x i named keys
      (found (kind_of x) kinds.entries
      (ap is_full (kept (kind_of x)) ∙ full_rows (kind_of x) (is_of name (kind_of x)) rows [] (as_kind x named rows there)))

  cover_from : (i : ℕ) (some : List Row) → AllByRecursion (λ x. list_any (like x) rows ≡ true) some → AllByRecursion (λ r. list_any (λ k. own k r) keys ≡ true) (map rank_placed (placed_from (has_name name) i some))
  cover_from i [] all = tt
  cover_from i (row ∷ some) all =
      let later = cover_from (i + 1) some all.1 in
      elim (has_name name row) as (λ b. has_name name row ≡ b → AllByRecursion (λ (r : SpanRank). list_any (λ k. own k r) keys ≡ true) (map rank_placed (cond b ((i, row) ∷ placed_from (has_name name) (i + 1) some) (placed_from (has_name name) (i + 1) some)))) [
        | true ↦ λ e. (covered row i e all.0, later)
        | false ↦ λ _. later
      ] refl

  abbrev part : Kind → List Row
  part kind = rows_in_order by_quality_and_rate (is_of name kind) rows

  rows_by_kind : rows_in_order by_quality_and_rate (has_name name) rows ≡ flat_map part keys
  rows_by_kind =
      sym (ranked_rows (has_name name) rows)
      ∙ ap (rows_ranked rows) (split span_ranks_total exact_span_ranks own below all_ranks keys up (cover_from 0 rows (all_there rows)))
      ∙ flat_twice (λ k. in_order span_rank_cmp [] (filter (own k) all_ranks)) (λ (rank : SpanRank). row_or_none (slice_get rows rank.index)) keys
      ∙ (λ i. flat_map (λ k. (ap (λ (rs : List SpanRank). rows_ranked rows (in_order span_rank_cmp [] rs)) (filtered k 0 rows) ∙ ranked_rows (is_of name k) rows) i) keys)

  owned : (kind : Kind) → AllByRecursion (λ row. is_of name kind row ≡ true) (part kind)
  owned kind = all_rows_in_order (λ row. is_of name kind row ≡ true) (is_of name kind) (λ row h. h) by_quality_and_rate rows

  apart : (k n : Kind) (x y : Row) → kind_cmp k n ≡ Less → is_of name k x ≡ true → is_of name n y ≡ true → is_other_group by_quality_and_rate x.header y.header ≡ true
  apart k n x y lt o p =
      let a = and_parts (has_name name x) (is_eq (kind_cmp (kind_of x) k)) o in
      let b = and_parts (has_name name y) (is_eq (kind_cmp (kind_of y) n)) p in
      (λ i. not (is_eq (ordering_then (name_cmp (same_names x.header.name name a.0 i) (same_names y.header.name name b.0 i)) (kind_cmp (kind_of x) (kind_of y)))))
      ∙ (λ i. not (is_eq (ordering_then (tied_itself names_total name i) (as_they (kind_of x) (kind_of y) k n a.1 b.1 lt i))))

  in_kind : (e : Kind × BTreeMap Moment Kept) → get kind_cmp kinds e.0 ≡ Some e.1 → spans_of by_quality_and_rate (λ (row : Row). row.header) span_at longer (part e.0) ≡ kind_values name e
  in_kind e here =
      sym (kept_are_spans name e.0 rows few) ∙ ap (map (span_value name e.0)) (sym (kept e.0) ∙ ap entries_or here)

  -- what is kept of the kinds are the merged spans
  pub kinds_are_merged : all_values name kinds.entries ≡ merged_spans_of name rows
  kinds_are_merged =
      sym
      (ap (spans_of by_quality_and_rate (λ (row : Row). row.header) span_at longer) rows_by_kind
      ∙ spans_parts by_quality_and_rate (λ (row : Row). row.header) span_at longer (is_of name) part owned apart keys up
      ∙ flat_map-map (λ k. spans_of by_quality_and_rate (λ (row : Row). row.header) span_at longer (part k)) (λ (e : Kind × BTreeMap Moment Kept). e.0) kinds.entries
      ∙ flat_alike (λ e. spans_of by_quality_and_rate (λ (row : Row). row.header) span_at longer (part e.0)) (kind_values name) (λ e. get kind_cmp kinds e.0 ≡ Some e.1) in_kind kinds.entries at)

  -- they are told as they are
  one_told : (kind : Kind) (m : Mark) → (kind.rate.num ≡ 0 → m.k ≡ 0) → told_at kind.rate m ≡ mark_at kind.rate m
  one_told kind m still =
      let k : cond (kind.rate.num == 0) 0 m.k ≡ m.k = elim (kind.rate.num == 0) as (λ b. kind.rate.num == 0 ≡ b → cond b 0 m.k ≡ m.k) [
        | true ↦ λ e. sym (still (zero_is kind.rate.num e))
        | false ↦ λ _. refl
      ] refl in
      λ i. record { start = m.start.micros; k = k i; rate = kind.rate }

  all_told : (kind : Kind) (es : List (Moment × Kept)) → AllByRecursion (Still name kind) es → map (told_value name kind) es ≡ map (span_value name kind) es
  all_told kind [] all = refl
  all_told kind (e ∷ es) all =
      let next = one_told kind e.1.next (λ none. (all.0 none).0) in
      let last = one_told kind e.1.last (λ none. (all.0 none).1) in
      λ i. record { name = name; quality = kind.quality; rate = kind.rate; start = e.0.micros; next = next i; last = last i; updated = e.1.updated.micros; rows = e.1.rows } ∷ all_told kind es all.1 i

  kind_told : (e : Kind × BTreeMap Moment Kept) → get kind_cmp kinds e.0 ≡ Some e.1 → map (told_value name e.0) e.1.entries ≡ kind_values name e
  kind_told e here =
      all_told e.0 e.1.entries (subst (λ (es : List (Moment × Kept)). AllByRecursion (Still name e.0) es) (sym (kept e.0) ∙ ap entries_or here) (kept_still name e.0 rows))

  pub told_are : told_values name kinds.entries ≡ all_values name kinds.entries
  told_are = flat_alike (λ e. map (told_value name e.0) e.1.entries) (kind_values name) (λ e. get kind_cmp kinds e.0 ≡ Some e.1) kind_told kinds.entries at

-- one kind is new or changed: what all of them hold
module _ (m n : Kinds) (kind : Kind) (old : Option (BTreeMap Moment Kept)) (new : BTreeMap Moment Kept) (was : get kind_cmp m kind ≡ old)
    (updates : (q : Kind) → get by_kind.it n q ≡ cond (is_eq (by_kind.it kind q)) (Some new) (get by_kind.it m q)) where
  updates_is : (q : Kind) → get kind_cmp n q ≡ cond (is_eq (kind_cmp kind q)) (Some new) (get kind_cmp m q)
  updates_is = subst (λ (cmp : Kind → Kind → Ordering). (q : Kind) → get cmp n q ≡ cond (is_eq (cmp kind q)) (Some new) (get cmp m q)) kind_same updates

  same_kind : (q : Kind) → is_eq (kind_cmp kind q) ≡ true → kind ≡ q
  same_kind q h = tells_apart exact_kinds kind q h

  pub span_put : (e : Moment × Kept) → new.entries ≡ kept_mend kind.rate e (entries_or old) → (q : Kind)
      → spans_at n q ≡ cond (is_eq (kind_cmp kind q)) (kept_mend kind.rate e (spans_at m q)) (spans_at m q)
  span_put e is q =
      ap entries_or (updates_is q)
      ∙ elim (is_eq (kind_cmp kind q)) as (λ b. is_eq (kind_cmp kind q) ≡ b → entries_or (cond b (Some new) (get kind_cmp m q)) ≡ cond b (kept_mend kind.rate e (spans_at m q)) (spans_at m q)) [
        | true ↦ λ h. is ∙ ap (λ o. kept_mend kind.rate e (entries_or o)) (sym was ∙ ap (get kind_cmp m) (same_kind q h))
        | false ↦ λ _. refl
      ] refl

  pub spans_same : new.entries ≡ entries_or old → (q : Kind) → spans_at n q ≡ spans_at m q
  spans_same is q =
      ap entries_or (updates_is q)
      ∙ elim (is_eq (kind_cmp kind q)) as (λ b. is_eq (kind_cmp kind q) ≡ b → entries_or (cond b (Some new) (get kind_cmp m q)) ≡ spans_at m q) [
        | true ↦ λ h. is ∙ ap entries_or (sym was ∙ ap (get kind_cmp m) (same_kind q h))
        | false ↦ λ _. refl
      ] refl
