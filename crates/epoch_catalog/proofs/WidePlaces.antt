-- Where the wide lines of a family stand.
use Rattle.std.proofs.Common.{◌≡◌, ℕ, zero, suc, ◌+◌, ◌-◌, ◌<◌, ◌≤◌, Bool, true, false, ◌&&◌, List, [], ◌∷◌, ◌++◌, length, take, drop, filter, cond, Some, refl, ap, sym, subst, ◌∙◌, arith}
use Rattle.std.specs.Prelude.{nat_le, nat_lt}
use Rattle.std.specs.List.{AllByRecursion, slice_get}
use Rattle.std.specs.List.Sorted.{IsPartitionedBy}
use Rattle.std.proofs.lemmas.Bool.Decides.{nat_tests}
use Rattle.std.proofs.lemmas.List.{append-nil, length-take-le, length-drop}
use Rattle.epochs.specs.Lines.{LineValues}
use Rattle.epoch_catalog.specs.declared.families.Family.{Family}
use Rattle.epoch_catalog.specs.Families.{is_in}
use Rattle.epoch_catalog.specs.Wide.{is_wide, places_from, wide_places, wide_in, StandAt}
use Rattle.epoch_rules.proofs.Cuts.{IsPlaced, filter_none, filter_whole, filter_joined, halves}
use Rattle.epoch_rules.proofs.Halves.{Rises, parted}

-- a number within a range, by the tests that cut off those before and behind
pub number_placed : (start end n : ℕ) → IsPlaced (λ n. nat_le start n && nat_lt n end) (λ n. nat_lt n start) (λ n. nat_lt n end) n
number_placed start end n = record {
  early = λ h. grind (arith, nat_tests);
  within = λ h k. grind (arith, nat_tests);
  late = λ h. grind (arith, nat_tests);
}

pub numbers_placed : (start end : ℕ) (ns : List ℕ) → AllByRecursion (IsPlaced (λ n. nat_le start n && nat_lt n end) (λ n. nat_lt n start) (λ n. nat_lt n end)) ns
numbers_placed start end [] = tt
numbers_placed start end (n ∷ ns) = (number_placed start end n, numbers_placed start end ns)

all_joined : {X : Type 0} (P : X → Type 0) (xs ys : List X) → AllByRecursion P xs → AllByRecursion P ys → AllByRecursion P (xs ++ ys)
all_joined P [] ys ps qs = qs
all_joined P (x ∷ xs) ys ps qs = (ps.0, all_joined P xs ys ps.1 qs)

all_weaker : {X : Type 0} (P Q : X → Type 0) → ((x : X) → P x → Q x) → (xs : List X) → AllByRecursion P xs → AllByRecursion Q xs
all_weaker P Q step [] all = tt
all_weaker P Q step (x ∷ xs) all = (step x all.0, all_weaker P Q step xs all.1)

-- the places of a list whose first place is n are from n on, and before its end
pub places_between : {X : Type 0} (test : X → Bool) (n : ℕ) (xs : List X) → AllByRecursion (λ p. (n ≤ p) × (p < n + length xs)) (places_from test n xs)
places_between test n [] = tt
places_between test n (x ∷ xs) =
    let later : AllByRecursion (λ p. (n ≤ p) × (p < n + length (x ∷ xs))) (places_from test (n + 1) xs) =
    all_weaker (λ p. (n + 1 ≤ p) × (p < n + 1 + length xs)) (λ p. (n ≤ p) × (p < n + length (x ∷ xs))) (λ p h. (omega (arith, h.0), omega (arith, h.1))) (places_from test (n + 1) xs) (places_between test (n + 1) xs) in
    elim (test x) as (λ b. AllByRecursion (λ p. (n ≤ p) × (p < n + length (x ∷ xs))) (cond b (n ∷ []) [] ++ places_from test (n + 1) xs)) [
      | true ↦ ((omega arith, omega arith), later)
      | false ↦ later
    ]

-- they ascend
places_rise : {X : Type 0} (test : X → Bool) (n : ℕ) (xs : List X) → Rises (λ p q. p < q) (places_from test n xs)
places_rise test n [] = tt
places_rise test n (x ∷ xs) =
    let later = places_rise test (n + 1) xs in
    elim (test x) as (λ b. Rises (λ p q. p < q) (cond b (n ∷ []) [] ++ places_from test (n + 1) xs)) [
      | true ↦ (all_weaker (λ p. (n + 1 ≤ p) × (p < n + 1 + length xs)) (λ p. n < p) (λ p h. omega (arith, h.0)) (places_from test (n + 1) xs) (places_between test (n + 1) xs), later)
      | false ↦ later
    ]

less_stays : (m p q : ℕ) → p < q → nat_lt q m ≡ true → nat_lt p m ≡ true
less_stays m p q up h = grind (arith, nat_tests)

pub places_parted : {X : Type 0} (test : X → Bool) (n m : ℕ) (xs : List X) → IsPartitionedBy (λ p. nat_lt p m) (places_from test n xs)
places_parted test n m xs = parted (λ p q. p < q) (λ p. nat_lt p m) (λ p q up h. less_stays m p q up h) (places_from test n xs) (places_rise test n xs)

behind_one : (n k : ℕ) → n + 1 + k ≡ n + suc k
behind_one n k = omega arith

places_joined : {X : Type 0} (test : X → Bool) (n : ℕ) (xs ys : List X) → places_from test n (xs ++ ys) ≡ places_from test n xs ++ places_from test (n + length xs) ys
places_joined test n [] ys = ap (λ m. places_from test m ys) (omega arith)
places_joined test n (x ∷ xs) ys =
    let later : places_from test (n + 1) (xs ++ ys) ≡ places_from test (n + 1) xs ++ places_from test (n + length (x ∷ xs)) ys =
    places_joined test (n + 1) xs ys ∙ ap (λ m. places_from test (n + 1) xs ++ places_from test m ys) (omega arith) in
    elim (test x) as (λ b. cond b (n ∷ []) [] ++ places_from test (n + 1) (xs ++ ys) ≡ (cond b (n ∷ []) [] ++ places_from test (n + 1) xs) ++ places_from test (n + length (x ∷ xs)) ys) [
      | true ↦ ap (λ ps. n ∷ ps) later
      | false ↦ later
    ]

-- the elements at these places are those that pass
placed_there : {X : Type 0} (test : X → Bool) (all xs : List X) (n : ℕ) → ((k : ℕ) → k < length xs → slice_get all (n + k) ≡ slice_get xs k) → StandAt all (places_from test n xs) (filter test xs)
placed_there test all [] n there = refl
placed_there test all (x ∷ xs) n there =
    let first : slice_get all n ≡ Some x = ap (slice_get all) (omega arith) ∙ there 0 (omega arith) in
    let later : StandAt all (places_from test (n + 1) xs) (filter test xs) = placed_there test all xs (n + 1) (λ k lt. ap (slice_get all) (behind_one n k) ∙ there (suc k) (omega (arith, lt))) in
    elim (test x) as (λ b. StandAt all (cond b (n ∷ []) [] ++ places_from test (n + 1) xs) (cond b (x ∷ filter test xs) (filter test xs))) [
      | true ↦ (λ i. first i ∷ later i)
      | false ↦ later
    ]

one_behind : {X : Type 0} (x : X) (xs : List X) (k : ℕ) → length (x ∷ xs) + k ≡ suc (length xs + k)
one_behind x xs k = omega arith

first_of : (k : ℕ) → 0 + k ≡ k
first_of k = omega arith

got_behind : {X : Type 0} (xs ys zs : List X) (k : ℕ) → k < length ys → slice_get (xs ++ (ys ++ zs)) (length xs + k) ≡ slice_get ys k
got_behind [] [] zs k lt = absurd (omega (arith, lt))
got_behind [] (y ∷ ys) zs zero lt = refl
got_behind [] (y ∷ ys) zs (suc k) lt = ap (slice_get (y ∷ (ys ++ zs))) (first_of (suc k)) ∙ ap (slice_get (ys ++ zs)) (sym (first_of k)) ∙ got_behind [] ys zs k (omega (arith, lt))
got_behind (x ∷ xs) ys zs k lt = ap (slice_get (x ∷ (xs ++ (ys ++ zs)))) (one_behind x xs k) ∙ got_behind xs ys zs k lt

none_early : (a b : ℕ) (ps : List ℕ) → AllByRecursion (λ p. (0 ≤ p) × (p < a)) ps → filter (λ p. nat_le a p && nat_lt p b) ps ≡ []
none_early a b ps h = filter_none _ ps (all_weaker _ (λ p. (nat_le a p && nat_lt p b) ≡ false) (λ p k. let lt = k.1 in grind (arith, nat_tests)) ps h)

none_late : (a b c : ℕ) (ps : List ℕ) → AllByRecursion (λ p. (b ≤ p) × (p < c)) ps → filter (λ p. nat_le a p && nat_lt p b) ps ≡ []
none_late a b c ps h = filter_none _ ps (all_weaker _ (λ p. (nat_le a p && nat_lt p b) ≡ false) (λ p k. let le = k.0 in grind (arith, nat_tests)) ps h)

all_within : (a b : ℕ) (ps : List ℕ) → AllByRecursion (λ p. (a ≤ p) × (p < b)) ps → filter (λ p. nat_le a p && nat_lt p b) ps ≡ ps
all_within a b ps h = filter_whole _ ps (all_weaker _ (λ p. (nat_le a p && nat_lt p b) ≡ true) (λ p k. let le = k.0 in let lt = k.1 in grind (arith, nat_tests)) ps h)

-- of the places of three parts those within the second part's bounds are its own
middle_places : {X : Type 0} (test : X → Bool) (xs ys zs : List X)
    → filter (λ p. nat_le (length xs) p && nat_lt p (length xs + length ys)) (places_from test 0 (xs ++ (ys ++ zs))) ≡ places_from test (length xs) ys
middle_places test xs ys zs =
    let a = length xs in
    let b = length xs + length ys in
    let q : ℕ → Bool = λ p. nat_le a p && nat_lt p b in
    let ps = places_from test 0 xs in
    let qs = places_from test a ys in
    let rs = places_from test b zs in
    let split : places_from test 0 (xs ++ (ys ++ zs)) ≡ ps ++ (qs ++ rs) = places_joined test 0 xs (ys ++ zs) ∙ ap (λ m. ps ++ places_from test m (ys ++ zs)) (first_of a) ∙ ap (λ more. ps ++ more) (places_joined test a ys zs) in
    ap (filter q) split
    ∙ filter_joined q ps (qs ++ rs)
    ∙ (λ i. none_early a b ps (subst (λ m. AllByRecursion (λ p. (0 ≤ p) × (p < m)) ps) (first_of a) (places_between test 0 xs)) i ++ filter_joined q qs rs i)
    ∙ (λ i. all_within a b qs (places_between test a ys) i ++ none_late a b (b + length zs) rs (places_between test b zs) i)
    ∙ append-nil qs

filter_both : {X : Type 0} (p q : X → Bool) (xs : List X) → filter (λ x. p x && q x) xs ≡ filter q (filter p xs)
filter_both p q [] = refl
filter_both p q (x ∷ xs) =
    elim (p x) as (λ b. cond (b && q x) (x ∷ filter (λ x. p x && q x) xs) (filter (λ x. p x && q x) xs) ≡ filter q (cond b (x ∷ filter p xs) (filter p xs))) [
      | true ↦ elim (q x) as (λ b. cond b (x ∷ filter (λ x. p x && q x) xs) (filter (λ x. p x && q x) xs) ≡ cond b (x ∷ filter q (filter p xs)) (filter q (filter p xs))) [
        | true ↦ ap (λ ys. x ∷ ys) (filter_both p q xs)
        | false ↦ filter_both p q xs
      ]
      | false ↦ filter_both p q xs
    ]

-- of the wide places those within a family's bounds are those of its wide lines
pub wide_within : (f : Family) (live : List LineValues) (first count : ℕ) → first + count ≤ length live → take count (drop first live) ≡ filter (is_in f) live
    → StandAt live (filter (λ p. nat_le first p && nat_lt p (first + count)) (wide_places live)) (wide_in f live)
wide_within f live first count fits is =
    let xs = take first live in
    let rest = drop first live in
    let ys = take count rest in
    let zs = drop count rest in
    let whole : xs ++ (ys ++ zs) ≡ live = ap (λ more. xs ++ more) (halves count rest) ∙ halves first live in
    let one : length xs ≡ first = length-take-le first live (omega (arith, fits)) in
    let more : length rest ≡ length live - first = length-drop first live in
    let two : length ys ≡ count = length-take-le count rest (omega (arith, fits, more)) in
    let stand : StandAt (xs ++ (ys ++ zs)) (places_from is_wide (length xs) ys) (filter is_wide ys) = placed_there is_wide (xs ++ (ys ++ zs)) ys (length xs) (λ k lt. got_behind xs ys zs k lt) in
    let found : StandAt (xs ++ (ys ++ zs)) (filter (λ p. nat_le (length xs) p && nat_lt p (length xs + length ys)) (places_from is_wide 0 (xs ++ (ys ++ zs)))) (filter is_wide ys) =
    subst (λ ps. StandAt (xs ++ (ys ++ zs)) ps (filter is_wide ys)) (sym (middle_places is_wide xs ys zs)) stand in
    subst (λ (found : List LineValues). StandAt live (filter (λ p. nat_le first p && nat_lt p (first + count)) (wide_places live)) found) (ap (filter is_wide) is ∙ sym (filter_both (is_in f) is_wide live))
    (subst (λ (m : ℕ × ℕ). StandAt live (filter (λ p. nat_le m.0 p && nat_lt p (m.0 + m.1)) (wide_places live)) (filter is_wide ys)) (λ i. (one i, two i))
    (subst (λ (all : List LineValues). StandAt all (filter (λ p. nat_le (length xs) p && nat_lt p (length xs + length ys)) (places_from is_wide 0 all)) (filter is_wide ys)) whole found))

-- what parts a list parts its rest
pub parted_behind : {X : Type 0} (p : X → Bool) (n : ℕ) (xs : List X) → IsPartitionedBy p xs → IsPartitionedBy p (drop n xs)
parted_behind p zero xs h = h
parted_behind p (suc n) [] h = λ i j d le lt k. absurd (omega (arith, lt))
parted_behind p (suc n) (x ∷ xs) h = parted_behind p n xs (λ i j d le lt k. h (suc i) (suc j) d (omega (arith, le)) (omega (arith, lt)) k)
