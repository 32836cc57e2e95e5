-- Which elements of a list pass a test.
use Rattle.std.proofs.Common.{◌≡◌, ◌∙◌, Bool, true, false, ◌||◌, ◌&&◌, ◌⊎◌, inl, inr, List, [], ◌∷◌, refl, sym, ap, subst}
use Rattle.std.specs.List.{list_any, AllByRecursion}
use Rattle.std.proofs.lemmas.Bool.{cases_Bool, or_cases, both_ways}

-- the list has the element
abbrev pub Has : {X : Type 0} → List X → X → Type 0
Has [] x = ⊥
Has (y ∷ ys) x = (y ≡ x) ⊎ Has ys x

pub any_has : {X : Type 0} (test : X → Bool) (xs : List X) (x : X) → Has xs x → test x ≡ true → list_any test xs ≡ true
any_has test [] x has passes = absurd has
any_has test (y ∷ ys) x (inl is) passes = ap (λ b. b || list_any test ys) (ap test is ∙ passes)
any_has test (y ∷ ys) x (inr has) passes =
    elim (test y) as (λ b. (b || list_any test ys) ≡ true) [ true ↦ refl | false ↦ any_has test ys x has passes ]

pub has_any : {X : Type 0} (test : X → Bool) (xs : List X) → list_any test xs ≡ true → (x : X) × Has xs x × (test x ≡ true)
has_any test [] h = cc
has_any test (y ∷ ys) h =
    elim (or_cases (test y) (list_any test ys) h) [
      | inl here ↦ (y, inl refl, here)
      | inr later ↦ (let more = has_any test ys later in (more.0, inr more.1, more.2))
    ]

pub all_has : {X : Type 0} (P : X → Type 0) (xs : List X) (x : X) → AllByRecursion P xs → Has xs x → P x
all_has P [] x all has = absurd has
all_has P (y ∷ ys) x all (inl is) = subst P is all.0
all_has P (y ∷ ys) x all (inr has) = all_has P ys x all.1 has

pub none_has : {X : Type 0} (test : X → Bool) (xs : List X) (x : X) → list_any test xs ≡ false → Has xs x → test x ≡ false
none_has test xs x none has =
    elim (cases_Bool (test x)) [
      | inl passes ↦ absurd (both_ways (list_any test xs) none (any_has test xs x has passes))
      | inr fails ↦ fails
    ]

pub none_from : {X : Type 0} (test : X → Bool) (xs : List X) → ((x : X) → Has xs x → test x ≡ true → ⊥) → list_any test xs ≡ false
none_from test xs out =
    elim (cases_Bool (list_any test xs)) [
      | inl some ↦ (let found = has_any test xs some in absurd (out found.0 found.1 found.2))
      | inr none ↦ none
    ]

-- tests that hold of one another are the same
pub same_bool : (a b : Bool) → (a ≡ true → b ≡ true) → (b ≡ true → a ≡ true) → a ≡ b
same_bool true b f g = sym (f refl)
same_bool false true f g = g refl
same_bool false false f g = refl

pub and_no : (a b : Bool) → (a && b) ≡ false → a ≡ true → b ≡ false
and_no a b h is = sym (ap (λ c. c && b) is) ∙ h

pub and_first : (a b : Bool) → (a && b) ≡ false → b ≡ true → a ≡ false
and_first true b h k = sym k ∙ h
and_first false b h k = refl

pub or_swap : (a b c : Bool) → (a || (b || c)) ≡ (b || (a || c))
or_swap true true c = refl
or_swap true false c = refl
or_swap false b c = refl

pub or_same : (a b : Bool) → (a || b) ≡ (a || (a || b))
or_same true b = refl
or_same false b = refl
