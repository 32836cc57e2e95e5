-- Rows that a query doesn't ask for decide nothing: without them the others stand elsewhere, but the same
-- rows are picked, in the same order.
use Rattle.std.proofs.Common.{◌≡◌, ◌≢◌, ℕ, zero, suc, ◌+◌, ◌-◌, ◌<◌, Bool, true, false, not, ◌&&◌, ◌||◌, List, [], ◌∷◌, ◌++◌, length, map, filter, Ordering, refl, sym, ap, ap₂, ◌∙◌, arith, cond, inl, inr, append-nil, subst}
use Rattle.std.specs.List.{AllByRecursion, concat, slice_get, list_any}
use Rattle.std.specs.Prelude.{slice_index}
use Rattle.std.proofs.lemmas.List.{get_or-map, length-map}
use Rattle.std.proofs.lemmas.Slice.Eq.{bytes_eq-Decides}
use Rattle.std.specs.Str.{bytes_eq}
use Rattle.std.specs.Ordering.{nat_cmp, ordering_then, match_ordering}
use Rattle.std.specs.declared.cmp.Ordering.TheVariants.{Less, Equal, Greater}
use Rattle.std.specs.Cmp.{nat_cmp_is}
use Rattle.std.specs.BTreeSet.{insert_key}
use Rattle.std.proofs.lemmas.Bool.{cases_lt}
use Rattle.std.proofs.lemmas.List.{map-append}
use Rattle.std.proofs.lemmas.List.Elements.{filter-append}
use Rattle.list_laws.specs.InOrder.{in_order}
use Rattle.mseed_header.specs.declared.row.Row.{Row}
use Rattle.dataselect.specs.declared.order.Rank.{Rank}
use Rattle.dataselect.specs.declared.query.DataQuery.{DataQuery}
use Rattle.dataselect.specs.Chosen.{asked_rows, passes, ranks_from, ranks_chosen, chosen_places}
use Rattle.dataselect.specs.DataBody.{image_of, images_at, body_within, body_or_empty}
use Rattle.dataselect.specs.Longest.{is_exceeded, longest_by}
use Rattle.channel_globs.specs.Names.{name_cmp}
use Rattle.dataselect.specs.Order.{rank_cmp, rank_at}
use Rattle.mseed_header.specs.Quality.{quality_letter}
use Rattle.std.specs.Ordering.{int_cmp}
use Rattle.dataselect.specs.Picked.{long_segments, longest_segments, picked_of, picked_places}
use Rattle.dataselect.specs.Runs.{put_before, runs_by}
use Rattle.dataselect.specs.Segments.{breaks_at, breaks_or, segments_of, segment_length, length_or, lasts, exceeds, is_long, is_longer, have_one_name, are_same_or}
use Rattle.mseed_header.specs.Header.{HasHeader}
use Rattle.mseed_header.proofs.Headers.{one_header}
use Rattle.mseed_header.proofs.Fronts.{record_header}
use Rattle.dataselect.specs.DataBody.{answer_of}
use Rattle.dataselect.specs.Query.{is_asked}
use Rattle.dataselect.specs.Rows.{has_image, new_after, held_rows}
use Rattle.dataselect.proofs.Bests.{all_filtered, all_longest}
use Rattle.dataselect.proofs.Breaks.{are_segments}

-- where the items that pass stand among all
module _ {X : Type 0} (p : X → Bool) where
  abbrev pub step : Bool → (ℕ → ℕ) → ℕ → ℕ
  step true f zero = 0
  step true f (suc i) = suc (f i)
  step false f i = suc (f i)

  -- the place among all of the one that has this place among those that pass
  abbrev pub among : List X → ℕ → ℕ
  among [] i = i
  among (x ∷ xs) i = step (p x) (among xs) i

  first_rises : (f : ℕ → ℕ) → ((i j : ℕ) → i < j → f i < f j) → (i j : ℕ) → i < j → step true f i < step true f j
  first_rises f up zero zero h = absurd (omega (arith, h))
  first_rises f up zero (suc j) h = omega arith
  first_rises f up (suc i) zero h = absurd (omega (arith, h))
  first_rises f up (suc i) (suc j) h = omega (arith, up i j (omega (arith, h)))

  pub rises : (xs : List X) (i j : ℕ) → i < j → among xs i < among xs j
  rises [] i j h = h
  rises (x ∷ xs) i j h =
      let more = rises xs in
      elim (p x) as (λ b. step b (among xs) i < step b (among xs) j) [
        | true ↦ first_rises (among xs) more i j h
        | false ↦ omega (arith, more i j h)
      ]

  first_stands : (x : X) (xs ys : List X) (f : ℕ → ℕ) → ((i : ℕ) → slice_get xs (f i) ≡ slice_get ys i) → (i : ℕ) → slice_get (x ∷ xs) (step true f i) ≡ slice_get (x ∷ ys) i
  first_stands x xs ys f more zero = refl
  first_stands x xs ys f more (suc i) = more i

  pub stands : (xs : List X) (i : ℕ) → slice_get xs (among xs i) ≡ slice_get (filter p xs) i
  stands [] i = refl
  stands (x ∷ xs) i =
      let more = stands xs in
      elim (p x) as (λ b. slice_get (x ∷ xs) (step b (among xs) i) ≡ slice_get (cond b (x ∷ filter p xs) (filter p xs)) i) [
        | true ↦ first_stands x xs (filter p xs) (among xs) more i
        | false ↦ more i
      ]

-- keys that are mapped to keys in the same order
module _ {K : Type 0} (cmp : K → K → Ordering) (f : K → K) (same : (a b : K) → cmp (f a) (f b) ≡ cmp a b) where
  inserted_mapped : (ks : List K) (k : K) → insert_key cmp (map f ks) (f k) ≡ map f (insert_key cmp ks k)
  inserted_mapped [] k = refl
  inserted_mapped (x ∷ xs) k =
      ap (λ o. match_ordering o (f k ∷ f x ∷ map f xs) (f x ∷ map f xs) (f x ∷ insert_key cmp (map f xs) (f k))) (same k x)
      ∙ ap (λ (ys : List K). match_ordering (cmp k x) (f k ∷ f x ∷ map f xs) (f x ∷ map f xs) (f x ∷ ys)) (inserted_mapped xs k)
      ∙ elim (cmp k x) as (λ o. match_ordering o (f k ∷ f x ∷ map f xs) (f x ∷ map f xs) (f x ∷ map f (insert_key cmp xs k)) ≡ map f (match_ordering o (k ∷ x ∷ xs) (x ∷ xs) (x ∷ insert_key cmp xs k))) [
        | Less ↦ refl
        | Equal ↦ refl
        | Greater ↦ refl
      ]

  pub in_order_mapped : (done keys : List K) → in_order cmp (map f done) (map f keys) ≡ map f (in_order cmp done keys)
  in_order_mapped done [] = refl
  in_order_mapped done (k ∷ keys) = ap (λ (ks : List K). in_order cmp ks (map f keys)) (inserted_mapped done k) ∙ in_order_mapped (insert_key cmp done k) keys

-- a rank with another index
abbrev moved : (ℕ → ℕ) → Rank → Rank
moved g r = record {
  name = r.name;
  quality = r.quality;
  start = r.start;
  entry = r.entry;
  place = r.place;
  index = g r.index;
}

module _ (g : ℕ → ℕ) (up : (i j : ℕ) → i < j → g i < g j) where
  pub same_order : (i j : ℕ) → nat_cmp (g i) (g j) ≡ nat_cmp i j
  same_order i j =
      elim (cases_lt i j) [
        | inl less ↦ sym (nat_cmp_is (g i) (g j) Less (up i j less)) ∙ nat_cmp_is i j Less less
        | inr no_less ↦
            elim (cases_lt j i) [
              | inl more ↦ sym (nat_cmp_is (g i) (g j) Greater (up j i more)) ∙ nat_cmp_is i j Greater more
              | inr no_more ↦
                  let same : i ≡ j = omega (arith, no_less, no_more) in
                  sym (nat_cmp_is (g i) (g j) Equal (ap g same)) ∙ nat_cmp_is i j Equal same
            ]
      ]

  moved_order : (a b : Rank) → rank_cmp (moved g a) (moved g b) ≡ rank_cmp a b
  moved_order a b =
      ap
      (λ o. ordering_then (name_cmp a.name b.name)
      (ordering_then (nat_cmp (quality_letter a.quality) (quality_letter b.quality))
      (ordering_then (int_cmp a.start.micros b.start.micros)
      (ordering_then (nat_cmp a.entry b.entry) (ordering_then (nat_cmp a.place b.place) o)))))
      (same_order a.index b.index)

index_moved : (g : ℕ → ℕ) (ranks : List Rank) → map (λ r. r.index) (map (moved g) ranks) ≡ map g (map (λ r. r.index) ranks)
index_moved g [] = refl
index_moved g (r ∷ ranks) = ap (λ (is : List ℕ). g r.index ∷ is) (index_moved g ranks)

module _ (seen : Row → Bool) (query : DataQuery) (p : Row → Bool) (asked : (row : Row) → passes seen query row ≡ true → p row ≡ true) where
  not_passed : (row : Row) → p row ≡ false → passes seen query row ≡ false
  not_passed row e =
      elim (passes seen query row) as (λ b. passes seen query row ≡ b → b ≡ false) [
        | true ↦ λ h. absurd (let k = asked row h in (cc))
        | false ↦ λ _. refl
      ] refl

  -- the ranks of all rows, and of those that p passes
  ranks_moved : (rows : List Row) (n m : ℕ) (g : ℕ → ℕ) → ((i : ℕ) → g (m + i) ≡ n + among p rows i) → ranks_from seen query n rows ≡ map (moved g) (ranks_from seen query m (filter p rows))
  ranks_moved [] n m g at = refl
  ranks_moved (row ∷ rows) n m g at =
      elim (p row) as (λ b. p row ≡ b → ((i : ℕ) → g (m + i) ≡ n + step p b (among p rows) i) → ranks_from seen query n (row ∷ rows) ≡ map (moved g) (ranks_from seen query m (cond b (row ∷ filter p rows) (filter p rows)))) [
        | true ↦ λ e at.
            let first : n ≡ g m = (let z : m + 0 ≡ m = omega arith in let w : n + 0 ≡ n = omega arith in sym w ∙ sym (at 0) ∙ ap g z) in
            let rest = ranks_moved rows (n + 1) (m + 1) g (λ i. let a : (m + 1) + i ≡ m + suc i = omega arith in let b : n + suc (among p rows i) ≡ (n + 1) + among p rows i = omega arith in ap g a ∙ at (suc i) ∙ b) in
            elim (passes seen query row) as (λ b. cond b (rank_at n row ∷ ranks_from seen query (n + 1) rows) (ranks_from seen query (n + 1) rows) ≡ map (moved g) (cond b (rank_at m row ∷ ranks_from seen query (m + 1) (filter p rows)) (ranks_from seen query (m + 1) (filter p rows)))) [
              | true ↦ ap₂ (λ (k : ℕ) (ranks : List Rank). rank_at k row ∷ ranks) first rest
              | false ↦ rest
            ]
        | false ↦ λ e at.
            let rest = ranks_moved rows (n + 1) m g (λ i. let b : n + suc (among p rows i) ≡ (n + 1) + among p rows i = omega arith in at i ∙ b) in
            ap (λ b. cond b (rank_at n row ∷ ranks_from seen query (n + 1) rows) (ranks_from seen query (n + 1) rows)) (not_passed row e) ∙ rest
      ] refl at

  -- so the chosen places are those among the rows that p passes, moved
  chosen_moved : (rows : List Row) → chosen_places seen query rows ≡ map (among p rows) (chosen_places seen query (filter p rows))
  chosen_moved rows =
      ap (λ (ranks : List Rank). map (λ r. r.index) (in_order rank_cmp [] ranks)) (ranks_moved rows
      0 0 (among p rows) (λ i. let a : 0 + i ≡ i = omega arith in let b : among p rows i ≡ 0 + among p rows i = omega arith in ap (among p rows) a ∙ b))
      ∙ ap (λ (ranks : List Rank). map (λ r. r.index) ranks) (in_order_mapped rank_cmp (moved (among p rows)) (moved_order (among p rows) (rises p rows)) [] (ranks_from seen query 0 (filter p rows)))
      ∙ index_moved (among p rows) (ranks_chosen seen query (filter p rows))

-- runs of mapped items
module _ {X Y : Type 0} (f : X → Y) (breaks : Y → Y → Bool) where
  abbrev of_items : X → X → Bool
  of_items x y = breaks (f x) (f y)

  put_mapped : (x : X) (runs : List (List X)) → put_before breaks (f x) (map (map f) runs) ≡ map (map f) (put_before of_items x runs)
  put_mapped x [] = refl
  put_mapped x ([] ∷ runs) = refl
  put_mapped x ((y ∷ run) ∷ runs) =
      elim (breaks (f x) (f y)) as (λ b. cond b ((f x ∷ []) ∷ (f y ∷ map f run) ∷ map (map f) runs) ((f x ∷ f y ∷ map f run) ∷ map (map f) runs) ≡ map (map f) (cond b ((x ∷ []) ∷ (y ∷ run) ∷ runs) ((x ∷ y ∷ run) ∷ runs))) [
        | true ↦ refl
        | false ↦ refl
      ]

  runs_mapped : (xs : List X) → runs_by breaks (map f xs) ≡ map (map f) (runs_by of_items xs)
  runs_mapped [] = refl
  runs_mapped (x ∷ xs) = ap (put_before breaks (f x)) (runs_mapped xs) ∙ put_mapped x (runs_by of_items xs)

-- filters and the longest of mapped items, of which all have P
module _ {X Y : Type 0} (f : X → Y) (P : X → Type 0) where
  filter_mapped : (test : Y → Bool) (other : X → Bool) → ((x : X) → P x → test (f x) ≡ other x) → (xs : List X) → AllByRecursion P xs → filter test (map f xs) ≡ map f (filter other xs)
  filter_mapped test other same [] all = refl
  filter_mapped test other same (x ∷ xs) all =
      let rest = filter_mapped test other same xs all.1 in
      ap (λ b. cond b (f x ∷ filter test (map f xs)) (filter test (map f xs))) (same x all.0)
      ∙ elim (other x) as (λ b. cond b (f x ∷ filter test (map f xs)) (filter test (map f xs)) ≡ map f (cond b (x ∷ filter other xs) (filter other xs))) [
        | true ↦ ap (λ (ys : List Y). f x ∷ ys) rest
        | false ↦ rest
      ]

  any_mapped : (test : Y → Bool) (other : X → Bool) → ((x : X) → P x → test (f x) ≡ other x) → (xs : List X) → AllByRecursion P xs → list_any test (map f xs) ≡ list_any other xs
  any_mapped test other same [] all = refl
  any_mapped test other same (x ∷ xs) all = ap₂ (λ a b. a || b) (same x all.0) (any_mapped test other same xs all.1)

  longest_mapped : (alike longer : Y → Y → Bool) (like long : X → X → Bool) → ((x y : X) → P x → P y → alike (f x) (f y) ≡ like x y) → ((x y : X) → P x → P y → longer (f x) (f y) ≡ long x y)
      → (xs : List X) → AllByRecursion P xs → longest_by alike longer (map f xs) ≡ map f (longest_by like long xs)
  longest_mapped alike longer like long one two [] all = refl
  longest_mapped alike longer like long one two (x ∷ xs) all =
      let rest = longest_mapped alike longer like long one two xs all.1 in
      let kept = all_longest like long P xs all.1 in
      let exceeded : is_exceeded alike longer (f x) (map f xs) ≡ is_exceeded like long x xs =
      any_mapped (λ y. alike y (f x) && longer y (f x)) (λ y. like y x && long y x) (λ y h. ap₂ (λ a b. a && b) (one y x h all.0) (two y x h all.0)) xs all.1 in
      let others : filter (λ y. not (alike y (f x))) (map f (longest_by like long xs)) ≡ map f (filter (λ y. not (like y x)) (longest_by like long xs)) =
      filter_mapped (λ y. not (alike y (f x))) (λ y. not (like y x)) (λ y h. ap not (one y x h all.0)) (longest_by like long xs) kept in
      ap₂ (λ b (ys : List Y). cond b ys (f x ∷ filter (λ y. not (alike y (f x))) ys)) exceeded rest
      ∙ elim (is_exceeded like long x xs) as (λ b. cond b (map f (longest_by like long xs)) (f x ∷ filter (λ y. not (alike y (f x))) (map f (longest_by like long xs))) ≡ map f (cond b (longest_by like long xs) (x ∷ filter (λ y. not (like y x)) (longest_by like long xs)))) [
        | true ↦ refl
        | false ↦ ap (λ (ys : List Y). f x ∷ ys) others
      ]

concat_mapped : (g : ℕ → ℕ) (runs : List (List ℕ)) → concat (map (map g) runs) ≡ map g (concat runs)
concat_mapped g [] = refl
concat_mapped g (run ∷ runs) = ap (λ (is : List ℕ). map g run ++ is) (concat_mapped g runs) ∙ sym (map-append g run (concat runs))

abbrev IsSome : List ℕ → Type 0
IsSome s = s ≢ []

-- the same rows at other places
module _ (rows few : List Row) (g : ℕ → ℕ) (same : (i : ℕ) → slice_get rows (g i) ≡ slice_get few i) where
  breaks_same : (λ i j. breaks_at rows (g i) (g j)) ≡ breaks_at few
  breaks_same = λ k i j. breaks_or (same i k) (same j k)

  segments_moved : (places : List ℕ) → segments_of rows (map g places) ≡ map (map g) (segments_of few places)
  segments_moved places = runs_mapped g (breaks_at rows) places ∙ ap (λ (breaks : ℕ → ℕ → Bool). map (map g) (runs_by breaks places)) breaks_same

  last_moved : (i : ℕ) (places : List ℕ) → slice_get rows (slice_index (g i ∷ map g places) (length (g i ∷ map g places) - 1)) ≡ slice_get few (slice_index (i ∷ places) (length (i ∷ places) - 1))
  last_moved i places =
      ap (λ (n : ℕ). slice_get rows (slice_index (g i ∷ map g places) (n - 1))) (length-map (i ∷ places) g)
      ∙ ap (slice_get rows) (get_or-map g (i ∷ places) (length (i ∷ places) - 1) 0 0 (omega arith))
      ∙ same (slice_index (i ∷ places) (length (i ∷ places) - 1))

  length_moved : (s : List ℕ) → IsSome s → segment_length rows (map g s) ≡ segment_length few s
  unfolding segment_length
  length_moved [] some = absurd (some refl)
  length_moved (i ∷ s) some = ap₂ length_or (same i) (last_moved i s)

  name_moved : (s t : List ℕ) → IsSome s → IsSome t → have_one_name rows (map g s) (map g t) ≡ have_one_name few s t
  unfolding have_one_name
  name_moved [] t some other = absurd (some refl)
  name_moved (i ∷ s) [] some other = absurd (other refl)
  name_moved (i ∷ s) (j ∷ t) some other = ap₂ are_same_or (same i) (same j)

  long_moved : (minimum : ℕ) (places : List ℕ) → long_segments rows minimum (map g places) ≡ map (map g) (long_segments few minimum places)
  long_moved minimum places =
      ap (filter (is_long rows minimum)) (segments_moved places)
      ∙ filter_mapped (map g) IsSome (is_long rows minimum) (is_long few minimum) (λ s some. ap (lasts minimum) (length_moved s some)) (segments_of few places) (are_segments few places).some

  longest_moved : (minimum : ℕ) (places : List ℕ) → longest_segments rows minimum (map g places) ≡ map (map g) (longest_segments few minimum places)
  longest_moved minimum places =
      ap (longest_by (have_one_name rows) (is_longer rows)) (long_moved minimum places)
      ∙ longest_mapped (map g) IsSome (have_one_name rows) (is_longer rows) (have_one_name few) (is_longer few) name_moved (λ s t some other. ap₂ exceeds (length_moved s some) (length_moved t other)) (long_segments few minimum places)
      (all_filtered IsSome (is_long few minimum) (segments_of few places) (are_segments few places).some)

  picked_moved : (query : DataQuery) (places : List ℕ) → picked_of query rows (map g places) ≡ map g (picked_of query few places)
  picked_moved query places =
      elim query.longest as (λ b. concat (cond b (longest_segments rows query.minimum (map g places)) (long_segments rows query.minimum (map g places))) ≡ map g (concat (cond b (longest_segments few query.minimum places) (long_segments few query.minimum places)))) [
        | true ↦ ap concat (longest_moved query.minimum places) ∙ concat_mapped g (longest_segments few query.minimum places)
        | false ↦ ap concat (long_moved query.minimum places) ∙ concat_mapped g (long_segments few query.minimum places)
      ]

  images_moved : (places : List ℕ) → images_at rows (map g places) ≡ images_at few places
  images_moved [] = refl
  images_moved (i ∷ places) = ap₂ (λ (xs ys : List ℕ). xs ++ ys) (ap image_of (same i)) (images_moved places)

  body_moved : (max_bytes : ℕ) (places : List ℕ) → body_or_empty max_bytes rows (map g places) ≡ body_or_empty max_bytes few places
  body_moved max_bytes [] = refl
  body_moved max_bytes (i ∷ places) = ap (body_within max_bytes) (images_moved (i ∷ places))

-- the answer over the rows is that over those of them that p passes, where p passes all that are asked for
pub same_answer : (seen : Row → Bool) (query : DataQuery) (max_bytes : ℕ) (p : Row → Bool) → ((row : Row) → passes seen query row ≡ true → p row ≡ true) → (rows : List Row)
    → answer_of seen query max_bytes rows ≡ answer_of seen query max_bytes (filter p rows)
same_answer seen query max_bytes p asked rows =
    let g = among p rows in
    let few = filter p rows in
    let same = stands p rows in
    ap (λ (places : List ℕ). body_or_empty max_bytes rows (picked_of query rows places)) (chosen_moved seen query p asked rows)
    ∙ ap (body_or_empty max_bytes rows) (picked_moved rows few g same query (chosen_places seen query few))
    ∙ body_moved rows few g same max_bytes (picked_places seen query few)

-- rows with equal bytes have equal headers
pub same_header : (a b : Row) → bytes_eq a.image b.image ≡ true → a.header ≡ b.header
same_header a b e =
    let image : a.image ≡ b.image = (bytes_eq-Decides a.image b.image).0 e in
    one_header b.image a.header b.header (subst (λ (bytes : List ℕ). HasHeader bytes a.header) image (record_header a.image a.header a.head)) (record_header b.image b.header b.head)

-- a test that depends on the bytes alone
module _ (p : Row → Bool) (same : (a b : Row) → bytes_eq a.image b.image ≡ true → p a ≡ p b) where
  image_kept : (row : Row) (rows : List Row) → p row ≡ true → has_image row.image (filter p rows) ≡ has_image row.image rows
  image_kept row [] h = refl
  image_kept row (other ∷ rows) h =
      let rest = image_kept row rows h in
      elim (p other) as (λ b. p other ≡ b → has_image row.image (cond b (other ∷ filter p rows) (filter p rows)) ≡ (bytes_eq other.image row.image || has_image row.image rows)) [
        | true ↦ λ _. ap (λ b. bytes_eq other.image row.image || b) rest
        | false ↦ λ e.
            let apart : bytes_eq other.image row.image ≡ false = elim (bytes_eq other.image row.image) as (λ b. bytes_eq other.image row.image ≡ b → b ≡ false) [
              | true ↦ λ k. absurd (let r = same other row k in (cc))
              | false ↦ λ _. refl
            ] refl in
            rest ∙ ap (λ b. b || has_image row.image rows) (sym apart)
      ] refl

  new_kept : (before rows : List Row) → filter p (new_after before rows) ≡ new_after (filter p before) (filter p rows)
  new_kept before [] = refl
  new_kept before (row ∷ rows) =
      let rest = new_kept (before ++ row ∷ []) rows in
      let more : filter p (before ++ row ∷ []) ≡ filter p before ++ filter p (row ∷ []) = filter-append p before (row ∷ []) in
      let head = has_image row.image before in
      let split : filter p (new_after before (row ∷ rows)) ≡ filter p (cond head [] (row ∷ [])) ++ filter p (new_after (before ++ row ∷ []) rows) = filter-append p (cond head [] (row ∷ [])) (new_after (before ++ row ∷ []) rows) in
      elim (p row) as (λ b. p row ≡ b → filter p (new_after before (row ∷ rows)) ≡ new_after (filter p before) (cond b (row ∷ filter p rows) (filter p rows))) [
        | true ↦ λ e.
            let one : filter p (row ∷ []) ≡ row ∷ [] = ap (λ b. cond b (row ∷ []) []) e in
            let first : filter p (cond head [] (row ∷ [])) ≡ cond head [] (row ∷ []) = elim head as (λ b. filter p (cond b [] (row ∷ [])) ≡ cond b [] (row ∷ [])) [ true ↦ refl | false ↦ one ] in
            split
            ∙ ap₂ (λ (xs ys : List Row). xs ++ ys) (first ∙ ap (λ b. cond b [] (row ∷ [])) (sym (image_kept row before e))) (rest ∙ ap (λ (bs : List Row). new_after bs (filter p rows)) (more ∙ ap (λ (xs : List Row). filter p before ++ xs) one))
        | false ↦ λ e.
            let none : filter p (row ∷ []) ≡ [] = ap (λ b. cond b (row ∷ []) []) e in
            let first : filter p (cond head [] (row ∷ [])) ≡ [] = elim head as (λ b. filter p (cond b [] (row ∷ [])) ≡ []) [ true ↦ refl | false ↦ none ] in
            split ∙ ap₂ (λ (xs ys : List Row). xs ++ ys) first (rest ∙ ap (λ (bs : List Row). new_after bs (filter p rows)) (more ∙ ap (λ (xs : List Row). filter p before ++ xs) none ∙ append-nil (filter p before)))
      ] refl

-- the answer over the rows without doubles is that over those of them that the query asks for
pub only_asked : (seen : Row → Bool) (query : DataQuery) (max_bytes : ℕ) (rows : List Row)
    → answer_of seen query max_bytes (held_rows rows) ≡ answer_of seen query max_bytes (held_rows (asked_rows query rows))
only_asked seen query max_bytes rows =
    let p : Row → Bool = λ row. is_asked query row.header in
    same_answer seen query max_bytes p (λ row h. both_right (seen row) (is_asked query row.header) h) (held_rows rows)
    ∙ ap (answer_of seen query max_bytes) (new_kept p (λ a b e. ap (is_asked query) (same_header a b e)) [] rows)
  where
    both_right : (a b : Bool) → (a && b) ≡ true → b ≡ true
    both_right true b h = h
    both_right false b h = absurd (let e = h in (cc))
