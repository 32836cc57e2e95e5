-- Parts of lists, by where a test holds.
use Rattle.std.proofs.Common.{◌≡◌, ℕ, zero, suc, ◌-◌, ◌≤◌, Bool, true, false, List, [], ◌∷◌, ◌++◌, length, take, drop, map, filter, cond, refl, ap, sym, ◌∙◌, arith}
use Rattle.std.specs.List.{AllByRecursion, AllWithin}
use Rattle.std.specs.List.Sorted.{IsPartitionPoint}
use Rattle.std.proofs.lemmas.List.{append-nil, take_all, length-drop}

-- what holds up to a place holds of the elements before it
pub all_front : {X : Type 0} (P : X → Type 0) (xs : List X) (n : ℕ) → AllWithin P xs 0 n → n ≤ length xs → AllByRecursion P (take n xs)
all_front P xs zero h fits = tt
all_front P [] (suc n) h fits = tt
all_front P (x ∷ xs) (suc n) h fits =
    (h 0 x (omega (arith)) (omega (arith)), all_front P xs n (λ k d low high. h (suc k) d (omega (arith)) (omega (arith, high))) (omega (arith, fits)))

-- what holds from a place on holds of the elements behind it
pub all_back : {X : Type 0} (P : X → Type 0) (xs : List X) (n : ℕ) → AllWithin P xs n (length xs) → AllByRecursion P (drop n xs)
all_back P [] zero h = tt
all_back P (x ∷ xs) zero h =
    (h 0 x (omega (arith)) (omega (arith)), all_back P xs zero (λ k d low high. h (suc k) d (omega (arith)) (omega (arith, high))))
all_back P [] (suc n) h = tt
all_back P (x ∷ xs) (suc n) h = all_back P xs n (λ k d low high. h (suc k) d (omega (arith, low)) (omega (arith, high)))

pub filter_none : {X : Type 0} (p : X → Bool) (xs : List X) → AllByRecursion (λ x. p x ≡ false) xs → filter p xs ≡ []
filter_none p [] all = refl
filter_none p (x ∷ xs) all = ap (λ b. cond b (x ∷ filter p xs) (filter p xs)) all.0 ∙ filter_none p xs all.1

pub filter_whole : {X : Type 0} (p : X → Bool) (xs : List X) → AllByRecursion (λ x. p x ≡ true) xs → filter p xs ≡ xs
filter_whole p [] all = refl
filter_whole p (x ∷ xs) all = ap (λ b. cond b (x ∷ filter p xs) (filter p xs)) all.0 ∙ ap (λ ys. x ∷ ys) (filter_whole p xs all.1)

pub filter_joined : {X : Type 0} (p : X → Bool) (xs ys : List X) → filter p (xs ++ ys) ≡ filter p xs ++ filter p ys
filter_joined p [] ys = refl
filter_joined p (x ∷ xs) ys =
    elim (p x) as (λ b. cond b (x ∷ filter p (xs ++ ys)) (filter p (xs ++ ys)) ≡ cond b (x ∷ filter p xs) (filter p xs) ++ filter p ys) [
      | true ↦ ap (λ zs. x ∷ zs) (filter_joined p xs ys)
      | false ↦ filter_joined p xs ys
    ]

pub halves : {X : Type 0} (n : ℕ) (xs : List X) → take n xs ++ drop n xs ≡ xs
halves zero xs = refl
halves (suc n) [] = refl
halves (suc n) (x ∷ xs) = ap (λ ys. x ∷ ys) (halves n xs)

pub filter_mapped : {X Y : Type 0} (f : X → Y) (p : Y → Bool) (xs : List X) → map f (filter (λ x. p (f x)) xs) ≡ filter p (map f xs)
filter_mapped f p [] = refl
filter_mapped f p (x ∷ xs) =
    elim (p (f x)) as (λ b. map f (cond b (x ∷ filter (λ y. p (f y)) xs) (filter (λ y. p (f y)) xs)) ≡ cond b (f x ∷ filter p (map f xs)) (filter p (map f xs))) [
      | true ↦ ap (λ ys. f x ∷ ys) (filter_mapped f p xs)
      | false ↦ filter_mapped f p xs
    ]

pub all_step : {X : Type 0} (P Q : X → Type 0) (xs : List X) → AllByRecursion (λ x. P x → Q x) xs → AllByRecursion P xs → AllByRecursion Q xs
all_step P Q [] step all = tt
all_step P Q (x ∷ xs) step all = (step.0 all.0, all_step P Q xs step.1 all.1)

pub all_taken : {X : Type 0} (P : X → Type 0) (n : ℕ) (xs : List X) → AllByRecursion P xs → AllByRecursion P (take n xs)
all_taken P zero xs all = tt
all_taken P (suc n) [] all = tt
all_taken P (suc n) (x ∷ xs) all = (all.0, all_taken P n xs all.1)

pub all_dropped : {X : Type 0} (P : X → Type 0) (n : ℕ) (xs : List X) → AllByRecursion P xs → AllByRecursion P (drop n xs)
all_dropped P zero xs all = all
all_dropped P (suc n) [] all = tt
all_dropped P (suc n) (x ∷ xs) all = all_dropped P n xs all.1

pub all_mapped : {X Y : Type 0} (P : Y → Type 0) (f : X → Y) (xs : List X) → AllByRecursion P (map f xs) → AllByRecursion (λ x. P (f x)) xs
all_mapped P f [] all = tt
all_mapped P f (x ∷ xs) all = (all.0, all_mapped P f xs all.1)

pub all_two : {X : Type 0} (P Q R : X → Type 0) → ((x : X) → P x → Q x → R x) → (xs : List X) → AllByRecursion P xs → AllByRecursion Q xs → AllByRecursion R xs
all_two P Q R step [] ps qs = tt
all_two P Q R step (x ∷ xs) ps qs = (step x ps.0 qs.0, all_two P Q R step xs ps.1 qs.1)

-- an element before a family isn't of it, one neither before nor behind it is, and one behind it isn't
pub record IsPlaced {X : Type 0} (q before upto : X → Bool) (x : X) : Type 0 where
  pub early : before x ≡ true → q x ≡ false
  pub within : before x ≡ false → upto x ≡ true → q x ≡ true
  pub late : upto x ≡ false → q x ≡ false

-- the elements that pass a test are those between two places, where these cut off those before and behind
pub cut_between : {X : Type 0} (q before upto : X → Bool) (xs : List X) (i j : ℕ) → AllByRecursion (IsPlaced q before upto) xs → i ≤ length xs → j ≤ length (drop i xs)
    → IsPartitionPoint (λ x. before x ≡ true) (λ x. before x ≡ false) xs i
    → IsPartitionPoint (λ x. upto x ≡ true) (λ x. upto x ≡ false) (drop i xs) j
    → take j (drop i xs) ≡ filter q xs
cut_between {X} q before upto xs i j each fits fits2 first rest =
    let P : X → Type 0 = IsPlaced q before upto in
    let ys : List X = drop i xs in
    let behind : AllByRecursion P ys = all_dropped P i xs each in
    let front : filter q (take i xs) ≡ [] =
    filter_none q (take i xs) (all_two P (λ x. before x ≡ true) (λ x. q x ≡ false) (λ x p k. p.early k) (take i xs) (all_taken P i xs each) (all_front _ xs i first.0 fits)) in
    let end : filter q (drop j ys) ≡ [] =
    filter_none q (drop j ys) (all_two P (λ x. upto x ≡ false) (λ x. q x ≡ false) (λ x p k. p.late k) (drop j ys) (all_dropped P j ys behind) (all_back _ ys j rest.1)) in
    let stands : AllByRecursion (λ x. P x × (before x ≡ false)) ys = all_two P (λ x. before x ≡ false) (λ x. P x × (before x ≡ false)) (λ x p k. (p, k)) ys behind (all_back _ xs i first.1) in
    let middle : filter q (take j ys) ≡ take j ys =
    filter_whole q (take j ys) (all_two (λ x. P x × (before x ≡ false)) (λ x. upto x ≡ true) (λ x. q x ≡ true) (λ x p k. p.0.within p.1 k) (take j ys) (all_taken _ j ys stands) (all_front _ ys j rest.0 fits2)) in
    let split : filter q xs ≡ filter q (take i xs) ++ filter q ys = ap (filter q) (sym (halves i xs)) ∙ filter_joined q (take i xs) ys in
    let split2 : filter q ys ≡ filter q (take j ys) ++ filter q (drop j ys) = ap (filter q) (sym (halves j ys)) ∙ filter_joined q (take j ys) (drop j ys) in
    let whole : filter q xs ≡ take j ys ++ [] = split ∙ (λ k. front k ++ split2 k) ∙ (λ k. middle k ++ end k) in
    sym (whole ∙ append-nil (take j ys))

-- as many elements of a list's rest as there are
pub whole_rest : {X : Type 0} (i : ℕ) (xs : List X) → take (length xs - i) (drop i xs) ≡ drop i xs
whole_rest i xs = take_all (length xs - i) (drop i xs) (let e = length-drop i xs in omega (arith, e))
