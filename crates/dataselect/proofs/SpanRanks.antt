-- The rows at the places of ranks in order are the rows in order.
use Rattle.std.proofs.Common.{◌≡◌, ℕ, zero, suc, ◌+◌, ◌<◌, ◌≤◌, Bool, true, false, List, [], ◌∷◌, ◌++◌, map, length, get_or, drop, Some, None, refl, sym, ap, ◌∙◌, arith, cond, Ordering, add-one, drop-cons}
use Rattle.std.specs.List.{AllByRecursion, slice_get}
use Rattle.std.specs.Ordering.{match_ordering, nat_cmp, int_cmp, ordering_then}
use Rattle.std.specs.BTreeSet.{insert_key}
use Rattle.std.specs.declared.cmp.Ordering.TheVariants.{Less, Equal, Greater}
use Rattle.list_laws.specs.InOrder.{in_order}
use Rattle.list_laws.proofs.Keys.{all_in_order}
use Rattle.exact_time.specs.RateOrder.{rate_cmp}
use Rattle.channel_globs.specs.Names.{name_cmp}
use Rattle.channel_globs.specs.declared.nslc.Nslc.{Nslc}
use Rattle.mseed_header.proofs.Qualities.{quality_same}
use Rattle.mseed_header.specs.Quality.{quality_cmp}
use Rattle.std.specs.Cmp.{IsTotalOrder}
use Rattle.std.proofs.lemmas.Cmp.{nat_cmp_total, int_cmp_total, on_total, then_total}
use Rattle.std.proofs.lemmas.Map.Lookups.{CmpEqualImpliesEq, exact_pairs, exact_unsigned}
use Rattle.exact_time.specs.RateOrder.{rates_total}
use Rattle.exact_time.proofs.Rates.{exact_rates}
use Rattle.exact_time.specs.declared.moment.Moment.{Moment}
use Rattle.exact_time.specs.declared.ratio.Ratio.{Ratio}
use Rattle.channel_globs.proofs.Names.{names_total, exact_names}
use Rattle.mseed_header.proofs.Qualities.{qualities_total, exact_qualities}
use Rattle.mseed_header.specs.declared.quality.Quality.{Quality}
use Rattle.dataselect.proofs.Ranks.{exact_moments}
use Rattle.mseed_header.specs.declared.row.Row.{Row}
use Rattle.dataselect.specs.MergedSpans.{by_quality_and_rate, has_name}
use Rattle.dataselect.specs.contracts.span_order.SpanRankOrd.TheImpl.{cmp-value as by_span_rank}
use Rattle.dataselect.specs.declared.span_order.SpanRank.{SpanRank}
use Rattle.dataselect.specs.SpanOrder.{span_rank_cmp, span_rank_at, rank_placed, row_or_none, rows_ranked, ranks_named}
use Rattle.dataselect.specs.Spans.{placed_cmp, placed_from, rows_in_order}

-- keys in order, seen through a function that keeps the order
module _ {K L : Type 0} (f : K → L) (cmp : K → K → Ordering) (seen : L → L → Ordering) (same : (a b : K) → cmp a b ≡ seen (f a) (f b)) where
  insert_mapped : (ks : List K) (k : K) → map f (insert_key cmp ks k) ≡ insert_key seen (map f ks) (f k)
  insert_mapped [] k = refl
  insert_mapped (x ∷ xs) k =
      ap (λ o. map f (match_ordering o (k ∷ x ∷ xs) (x ∷ xs) (x ∷ insert_key cmp xs k))) (same k x)
      ∙ elim (seen (f k) (f x)) as (λ o. map f (match_ordering o (k ∷ x ∷ xs) (x ∷ xs) (x ∷ insert_key cmp xs k)) ≡ match_ordering o (f k ∷ f x ∷ map f xs) (f x ∷ map f xs) (f x ∷ insert_key seen (map f xs) (f k))) [
        | Less ↦ refl
        | Equal ↦ refl
        | Greater ↦ ap (λ (ls : List L). f x ∷ ls) (insert_mapped xs k)
      ]

  pub in_order_mapped : (done ks : List K) → map f (in_order cmp done ks) ≡ in_order seen (map f done) (map f ks)
  in_order_mapped done [] = refl
  in_order_mapped done (k ∷ ks) = in_order_mapped (insert_key cmp done k) ks ∙ ap (λ ls. in_order seen ls (map f ks)) (insert_mapped done k)

then_then : (a b c : Ordering) → ordering_then (ordering_then a b) c ≡ ordering_then a (ordering_then b c)
then_then Less b c = refl
then_then Equal b c = refl
then_then Greater b c = refl

-- a rank stands where its row does
ranks_stand : (a b : ℕ × Row) → placed_cmp by_quality_and_rate a b ≡ span_rank_cmp (rank_placed a) (rank_placed b)
ranks_stand a b =
    let names = name_cmp a.1.header.name b.1.header.name in
    let qualities = quality_cmp a.1.header.quality b.1.header.quality in
    let rates = rate_cmp a.1.header.rate b.1.header.rate in
    let rest = ordering_then (int_cmp a.1.header.start.micros b.1.header.start.micros) (ordering_then (nat_cmp a.1.entry b.1.entry) (ordering_then (nat_cmp a.1.place b.1.place) (nat_cmp a.0 b.0))) in
    then_then names (ordering_then qualities rates) rest ∙ ap (ordering_then names) (then_then qualities rates rest)

-- the place of each is that of its row
all_placed : (test : Row → Bool) (whole : List Row) (i : ℕ) (rows : List Row) → ((k : ℕ) → slice_get whole (i + k) ≡ slice_get rows k)
    → AllByRecursion (λ p. slice_get whole p.0 ≡ Some p.1) (placed_from test i rows)
all_placed test whole i [] at = tt
all_placed test whole i (row ∷ rows) at =
    let next : (k : ℕ) → (i + 1) + k ≡ i + suc k = λ k. omega arith in
    let here : i ≡ i + 0 = omega arith in
    let rest = all_placed test whole (i + 1) rows (λ k. ap (slice_get whole) (next k) ∙ at (suc k)) in
    elim (test row) as (λ b. AllByRecursion (λ (p : ℕ × Row). slice_get whole p.0 ≡ Some p.1) (cond b ((i, row) ∷ placed_from test (i + 1) rows) (placed_from test (i + 1) rows))) [
      | true ↦ (ap (slice_get whole) here ∙ at 0, rest)
      | false ↦ rest
    ]

fetched : (rows : List Row) (ps : List (ℕ × Row)) → AllByRecursion (λ p. slice_get rows p.0 ≡ Some p.1) ps → rows_ranked rows (map rank_placed ps) ≡ map (λ p. p.1) ps
fetched rows [] all = refl
fetched rows (p ∷ ps) all = (λ i. row_or_none (all.0 i) ++ fetched rows ps all.1 i)

pub ranked_rows : (test : Row → Bool) (rows : List Row) → rows_ranked rows (in_order span_rank_cmp [] (map rank_placed (placed_from test 0 rows))) ≡ rows_in_order by_quality_and_rate test rows
ranked_rows test rows =
    let placed = placed_from test 0 rows in
    let same : (k : ℕ) → 0 + k ≡ k = λ k. omega arith in
    ap (rows_ranked rows) (sym (in_order_mapped rank_placed (placed_cmp by_quality_and_rate) span_rank_cmp ranks_stand [] placed))
    ∙ fetched rows (in_order (placed_cmp by_quality_and_rate) [] placed)
    (all_in_order (placed_cmp by_quality_and_rate) (λ p. slice_get rows p.0 ≡ Some p.1) [] placed tt (all_placed test rows 0 rows (λ k. ap (slice_get rows) (same k))))

pub ranked_in_order : (name : Nslc) (rows : List Row) → rows_ranked rows (ranks_named name rows) ≡ rows_in_order by_quality_and_rate (has_name name) rows
ranked_in_order name rows = ranked_rows (has_name name) rows

pub none_there : {X : Type 0} (xs : List X) (i : ℕ) → length xs ≤ i → slice_get xs i ≡ None
none_there [] i h = refl
none_there (x ∷ xs) zero h = absurd (omega arith)
none_there (x ∷ xs) (suc i) h = none_there xs i (omega arith)

-- the derived order of ranks is that of the definitions
pub span_rank_same : by_span_rank.it ≡ span_rank_cmp
span_rank_same = λ i a b.
    ordering_then (name_cmp a.name b.name)
    (ordering_then (quality_same a.quality b.quality i)
    (ordering_then (rate_cmp a.rate b.rate)
    (ordering_then (int_cmp a.start.micros b.start.micros)
    (ordering_then (nat_cmp a.entry b.entry)
    (ordering_then (nat_cmp a.place b.place) (nat_cmp a.index b.index))))))

-- the row at an index is of the name, or isn't
pub ranked : (name : Nslc) (keys : List SpanRank) (i : ℕ) (rows : List Row) (row : Row) → i < length rows → row ≡ get_or rows i row → has_name name row ≡ true
    → in_order span_rank_cmp (insert_key span_rank_cmp keys (span_rank_at i row)) (map rank_placed (placed_from (has_name name) (i + 1) (drop (i + 1) rows))) ≡ in_order span_rank_cmp keys (map rank_placed (placed_from (has_name name) i (drop i rows)))
ranked name keys i rows row h is test =
    sym (rw (drop-cons rows i row h, ← is, add-one i, test) refl)

pub passed_over : (name : Nslc) (keys : List SpanRank) (i : ℕ) (rows : List Row) (row : Row) → i < length rows → row ≡ get_or rows i row → has_name name row ≡ false
    → in_order span_rank_cmp keys (map rank_placed (placed_from (has_name name) (i + 1) (drop (i + 1) rows))) ≡ in_order span_rank_cmp keys (map rank_placed (placed_from (has_name name) i (drop i rows)))
passed_over name keys i rows row h is test =
    sym (rw (drop-cons rows i row h, ← is, add-one i, test) refl)

-- the order of ranks is total, and equal ranks are the same
pub span_ranks_total : IsTotalOrder span_rank_cmp
span_ranks_total =
    then_total (on_total (λ (r : SpanRank). r.name) names_total)
    (then_total (on_total (λ (r : SpanRank). r.quality) qualities_total)
    (then_total (on_total (λ (r : SpanRank). r.rate) rates_total)
    (then_total (on_total (λ (r : SpanRank). r.start.micros) int_cmp_total)
    (then_total (on_total (λ (r : SpanRank). r.entry) nat_cmp_total)
    (then_total (on_total (λ (r : SpanRank). r.place) nat_cmp_total) (on_total (λ (r : SpanRank). r.index) nat_cmp_total))))))

pub exact_span_ranks : CmpEqualImpliesEq span_rank_cmp
exact_span_ranks a b h =
    ap (λ (p : Nslc × (Quality × (Ratio × (Moment × (ℕ × (ℕ × ℕ)))))). record { name = p.0; quality = p.1.0; rate = p.1.1.0; start = p.1.1.1.0; entry = p.1.1.1.1.0; place = p.1.1.1.1.1.0; index = p.1.1.1.1.1.1 })
    (exact_pairs name_cmp _ exact_names
    (exact_pairs quality_cmp _ exact_qualities
    (exact_pairs rate_cmp _ exact_rates
    (exact_pairs (λ (u v : Moment). int_cmp u.micros v.micros) _ exact_moments
    (exact_pairs nat_cmp _ exact_unsigned
    (exact_pairs nat_cmp nat_cmp exact_unsigned exact_unsigned)))))
    (a.name, (a.quality, (a.rate, (a.start, (a.entry, (a.place, a.index)))))) (b.name, (b.quality, (b.rate, (b.start, (b.entry, (b.place, b.index)))))) h)
