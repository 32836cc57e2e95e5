-- The chosen rows are the rows that pass, put in order one after another: where two stand equal, as they stand.
use Rattle.std.proofs.Common.{◌≡◌, ℕ, suc, ◌+◌, ◌<◌, Bool, true, false, List, [], ◌∷◌, ◌++◌, map, filter, cond, Some, Ordering, refl, sym, ap, ap₂, ◌∙◌, arith}
use Rattle.std.specs.List.{AllByRecursion, slice_get, flat_map}
use Rattle.std.specs.Ordering.{nat_cmp, int_cmp, ordering_then, match_ordering, is_lt}
use Rattle.std.specs.declared.cmp.Ordering.TheVariants.{Less, Equal, Greater}
use Rattle.std.specs.Cmp.{nat_cmp_is}
use Rattle.std.specs.BTreeSet.{insert_key}
use Rattle.list_laws.specs.InOrder.{in_order}
use Rattle.list_laws.proofs.Keys.{all_in_order}
use Rattle.channel_globs.specs.Names.{name_cmp}
use Rattle.mseed_header.specs.Quality.{quality_cmp}
use Rattle.mseed_header.specs.declared.row.Row.{Row}
use Rattle.dataselect.specs.declared.order.Rank.{Rank}
use Rattle.dataselect.specs.declared.query.DataQuery.{DataQuery}
use Rattle.dataselect.specs.Chosen.{passes, ranks_from, chosen_places}
use Rattle.dataselect.specs.DataBody.{image_of, images_at}
use Rattle.dataselect.specs.Order.{rank_cmp, rank_at}
use Rattle.dataselect.specs.Spans.{placed_from}
use Rattle.mseed_header.specs.Records.{images_of}
use Rattle.split_fetch.specs.Gathered.{put_behind, put_all_behind}
use Rattle.split_fetch.specs.Gathering.{start_cmp, records_of}

-- by name, quality letter, start, entry and place
abbrev pub row_cmp : Row → Row → Ordering
row_cmp a b = ordering_then (start_cmp a b) (ordering_then (nat_cmp a.entry b.entry) (nat_cmp a.place b.place))

module _ {K X : Type 0} (cmp : K → K → Ordering) (f : X → K) where
  inserted_mapped : (xs : List X) (x : X) → insert_key cmp (map f xs) (f x) ≡ map f (insert_key (λ a b. cmp (f a) (f b)) xs x)
  inserted_mapped [] x = refl
  inserted_mapped (y ∷ ys) x =
      let rest = inserted_mapped ys x in
      elim (cmp (f x) (f y)) as (λ o. match_ordering o (f x ∷ f y ∷ map f ys) (f y ∷ map f ys) (f y ∷ insert_key cmp (map f ys) (f x))
      ≡ map f (match_ordering o (x ∷ y ∷ ys) (y ∷ ys) (y ∷ insert_key (λ a b. cmp (f a) (f b)) ys x))) [
        | Less ↦ refl
        | Equal ↦ refl
        | Greater ↦ ap (λ (l : List K). f y ∷ l) rest
      ]

  pub in_order_mapped : (done xs : List X) → in_order cmp (map f done) (map f xs) ≡ map f (in_order (λ a b. cmp (f a) (f b)) done xs)
  in_order_mapped done [] = refl
  in_order_mapped done (x ∷ xs) = ap (λ (l : List K). in_order cmp l (map f xs)) (inserted_mapped done x)
      ∙ in_order_mapped (insert_key (λ a b. cmp (f a) (f b)) done x) xs

abbrev ranked : ℕ × Row → Rank
ranked p = rank_at p.0 p.1

abbrev by_rank : ℕ × Row → ℕ × Row → Ordering
by_rank a b = rank_cmp (ranked a) (ranked b)

abbrev the_row : ℕ × Row → Row
the_row p = p.1

regrouped : (n q s e p x : Ordering)
    → ordering_then n (ordering_then q (ordering_then s (ordering_then e (ordering_then p x))))
    ≡ ordering_then (ordering_then (ordering_then n (ordering_then q s)) (ordering_then e p)) x
regrouped Less q s e p x = refl
regrouped Greater q s e p x = refl
regrouped Equal Less s e p x = refl
regrouped Equal Greater s e p x = refl
regrouped Equal Equal Less e p x = refl
regrouped Equal Equal Greater e p x = refl
regrouped Equal Equal Equal Less p x = refl
regrouped Equal Equal Equal Greater p x = refl
regrouped Equal Equal Equal Equal p x = refl

-- a row that stands behind others of the list, among their ranks
behind_all : (i : ℕ) (row : Row) (p : ℕ × Row) → p.0 < i → by_rank (i, row) p ≡ ordering_then (row_cmp row p.1) Greater
behind_all i row p less =
    regrouped (name_cmp row.header.name p.1.header.name) (quality_cmp row.header.quality p.1.header.quality)
    (int_cmp row.header.start.micros p.1.header.start.micros)
    (nat_cmp row.entry p.1.entry) (nat_cmp row.place p.1.place) (nat_cmp i p.0)
    ∙ ap (λ (o : Ordering). ordering_then (row_cmp row p.1) o) (sym (nat_cmp_is i p.0 Greater less))

inserted_row : (i : ℕ) (row : Row) (done : List (ℕ × Row)) → AllByRecursion (λ p. p.0 < i) done
    → map the_row (insert_key by_rank done (i, row)) ≡ put_behind row_cmp (map the_row done) row
inserted_row i row [] all = refl
inserted_row i row (p ∷ done) all =
    let rest = inserted_row i row done all.1 in
    ap (λ (o : Ordering). map the_row (match_ordering o ((i, row) ∷ p ∷ done) (p ∷ done) (p ∷ insert_key by_rank done (i, row))))
    (behind_all i row p all.0)
    ∙ elim (row_cmp row p.1) as (λ o. map the_row (match_ordering (ordering_then o Greater) ((i, row) ∷ p ∷ done) (p ∷ done)
    (p ∷ insert_key by_rank done (i, row))) ≡ cond (is_lt o) (row ∷ p.1 ∷ map the_row done)
    (p.1 ∷ put_behind row_cmp (map the_row done) row)) [
      | Less ↦ refl
      | Equal ↦ ap (λ (l : List Row). p.1 ∷ l) rest
      | Greater ↦ ap (λ (l : List Row). p.1 ∷ l) rest
    ]

all_below : (i : ℕ) (done : List (ℕ × Row)) → AllByRecursion (λ p. p.0 < i) done → AllByRecursion (λ p. p.0 < i + 1) done
all_below i [] all = tt
all_below i (p ∷ done) all = (let h = all.0 in omega (arith, h), all_below i done all.1)

placed_rows : (test : Row → Bool) (i : ℕ) (rows : List Row) (done : List (ℕ × Row)) → AllByRecursion (λ p. p.0 < i) done
    → map the_row (in_order by_rank done (placed_from test i rows)) ≡ put_all_behind row_cmp (map the_row done) (filter test rows)
placed_rows test i [] done all = refl
placed_rows test i (row ∷ rows) done all =
    let here : i < i + 1 = omega arith in
    let more = all_in_order by_rank (λ p. p.0 < i + 1) done ((i, row) ∷ []) (all_below i done all) (here, tt) in
    let taken = placed_rows test (i + 1) rows (insert_key by_rank done (i, row)) more
    ∙ ap (λ (l : List Row). put_all_behind row_cmp l (filter test rows)) (inserted_row i row done all) in
    let passed = placed_rows test (i + 1) rows done (all_below i done all) in
    elim (test row) as (λ b. map the_row (in_order by_rank done
    (cond b ((i, row) ∷ placed_from test (i + 1) rows) (placed_from test (i + 1) rows)))
    ≡ put_all_behind row_cmp (map the_row done) (cond b (row ∷ filter test rows) (filter test rows))) [
      | true ↦ taken
      | false ↦ passed
    ]

all_stand : (test : Row → Bool) (whole : List Row) (i : ℕ) (rows : List Row) → ((k : ℕ) → slice_get whole (i + k) ≡ slice_get rows k)
    → AllByRecursion (λ p. slice_get whole p.0 ≡ Some p.1) (placed_from test i rows)
all_stand test whole i [] at = tt
all_stand test whole i (row ∷ rows) at =
    let next : (k : ℕ) → (i + 1) + k ≡ i + suc k = λ k. omega arith in
    let here : i ≡ i + 0 = omega arith in
    let rest = all_stand test whole (i + 1) rows (λ k. ap (slice_get whole) (next k) ∙ at (suc k)) in
    elim (test row) as (λ b. AllByRecursion (λ p. slice_get whole p.0 ≡ Some p.1)
    (cond b ((i, row) ∷ placed_from test (i + 1) rows) (placed_from test (i + 1) rows))) [
      | true ↦ (ap (slice_get whole) here ∙ at 0, rest)
      | false ↦ rest
    ]

images_placed : (whole : List Row) (ps : List (ℕ × Row)) → AllByRecursion (λ p. slice_get whole p.0 ≡ Some p.1) ps
    → map (λ i. image_of (slice_get whole i)) (map (λ r. r.index) (map ranked ps)) ≡ records_of (map the_row ps)
images_placed whole [] all = refl
images_placed whole (p ∷ ps) all = ap₂ (λ (x : List ℕ) (xs : List (List ℕ)). x ∷ xs) (ap image_of all.0) (images_placed whole ps all.1)

module _ (seen : Row → Bool) (query : DataQuery) where
  ranks_placed : (i : ℕ) (rows : List Row) → ranks_from seen query i rows ≡ map ranked (placed_from (passes seen query) i rows)
  ranks_placed i [] = refl
  ranks_placed i (row ∷ rows) =
      let rest = ranks_placed (i + 1) rows in
      elim (passes seen query row) as (λ b. cond b (rank_at i row ∷ ranks_from seen query (i + 1) rows)
      (ranks_from seen query (i + 1) rows) ≡ map ranked (cond b ((i, row) ∷ placed_from (passes seen query) (i + 1) rows)
      (placed_from (passes seen query) (i + 1) rows))) [
        | true ↦ ap (λ (l : List Rank). rank_at i row ∷ l) rest
        | false ↦ rest
      ]

  -- the rows that pass, in order
  abbrev pub ordered : List Row → List Row
  ordered rows = put_all_behind row_cmp [] (filter (passes seen query) rows)

  pub chosen_records : (rows : List Row) → map (λ i. image_of (slice_get rows i)) (chosen_places seen query rows)
      ≡ records_of (ordered rows)
  chosen_records rows =
      let ps = placed_from (passes seen query) 0 rows in
      let same : (k : ℕ) → 0 + k ≡ k = λ k. omega arith in
      let stand = all_in_order by_rank (λ p. slice_get rows p.0 ≡ Some p.1) [] ps tt
      (all_stand (passes seen query) rows 0 rows (λ k. ap (slice_get rows) (same k))) in
      ap (λ (ranks : List Rank). map (λ i. image_of (slice_get rows i)) (map (λ r. r.index) (in_order rank_cmp [] ranks)))
      (ranks_placed 0 rows)
      ∙ ap (λ (ranks : List Rank). map (λ i. image_of (slice_get rows i)) (map (λ r. r.index) ranks))
      (in_order_mapped rank_cmp ranked [] ps)
      ∙ images_placed rows (in_order by_rank [] ps) stand
      ∙ ap records_of (placed_rows (passes seen query) 0 rows [] tt)

images_joined : (rows : List Row) (places : List ℕ) (sorted : List Row) → map (λ i. image_of (slice_get rows i)) places
    ≡ records_of sorted → images_at rows places ≡ images_of sorted
images_joined rows places sorted same = joined places ∙ ap (flat_map (λ (x : List ℕ). x)) same ∙ sym (joined_rows sorted)
  where
    joined : (is : List ℕ) → images_at rows is ≡ flat_map (λ (x : List ℕ). x) (map (λ i. image_of (slice_get rows i)) is)
    joined [] = refl
    joined (i ∷ is) = ap (λ (l : List ℕ). image_of (slice_get rows i) ++ l) (joined is)

    joined_rows : (xs : List Row) → images_of xs ≡ flat_map (λ (x : List ℕ). x) (records_of xs)
    joined_rows [] = refl
    joined_rows (x ∷ xs) = ap (λ (l : List ℕ). x.image ++ l) (joined_rows xs)

-- the bytes of the chosen rows are those of the rows that pass, in order
pub chosen_images : (seen : Row → Bool) (query : DataQuery) (rows : List Row) → images_at rows (chosen_places seen query rows)
    ≡ images_of (ordered seen query rows)
chosen_images seen query rows = images_joined rows (chosen_places seen query rows) (ordered seen query rows)
    (chosen_records seen query rows)
