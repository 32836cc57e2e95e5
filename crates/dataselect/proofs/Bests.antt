-- The longest of each kind, one item more.
use Rattle.std.proofs.Common.{◌≡◌, Bool, true, false, not, ◌&&◌, ◌||◌, List, [], ◌∷◌, filter, refl, ap, ◌∙◌, cond}
use Rattle.std.specs.List.{AllByRecursion}
use Rattle.dataselect.specs.Longest.{is_exceeded, longest_by}

pub all_filtered : {X : Type 0} (P : X → Type 0) (test : X → Bool) (xs : List X) → AllByRecursion P xs → AllByRecursion P (filter test xs)
all_filtered P test [] all = tt
all_filtered P test (x ∷ xs) all =
    let rest = all_filtered P test xs all.1 in
    elim (test x) as (λ b. AllByRecursion P (cond b (x ∷ filter test xs) (filter test xs))) [ true ↦ (all.0, rest) | false ↦ rest ]

pub filter_all : {X : Type 0} (test : X → Bool) (xs : List X) → AllByRecursion (λ x. test x ≡ true) xs → filter test xs ≡ xs
filter_all test [] all = refl
filter_all test (x ∷ xs) all = ap (λ b. cond b (x ∷ filter test xs) (filter test xs)) all.0 ∙ ap (λ ys. x ∷ ys) (filter_all test xs all.1)

not_both : (a b c : Bool) → a ≡ false → c ≡ false → ((a && b) || c) ≡ false
not_both true b c e f = (cc)
not_both false b c e f = f

falls : (a b c : Bool) → (a && b) ≡ false → ((a && b) || c) ≡ c
falls true true c e = (cc)
falls true false c e = refl
falls false b c e = refl

filter_twice : {X : Type 0} (p q : X → Bool) → ((x : X) → q x ≡ p x) → (xs : List X) → filter p (filter q xs) ≡ filter p xs
filter_twice p q same [] = refl
filter_twice p q same (x ∷ xs) =
    let rest = filter_twice p q same xs in
    ap (λ b. filter p (cond b (x ∷ filter q xs) (filter q xs))) (same x)
    ∙ elim (p x) as (λ b. p x ≡ b → filter p (cond b (x ∷ filter q xs) (filter q xs)) ≡ cond b (x ∷ filter p xs) (filter p xs)) [
      | true ↦ λ e. ap (λ b. cond b (x ∷ filter p (filter q xs)) (filter p (filter q xs))) e ∙ ap (λ ys. x ∷ ys) rest
      | false ↦ λ _. rest
    ] refl

either_grows : (l m t u : Bool) → (l ≡ true → m ≡ true) → (t ≡ true → u ≡ true) → (a : Bool) → ((a && l) || t) ≡ true → ((a && m) || u) ≡ true
either_grows l m t u one two false h = two h
either_grows true m t u one two true h = ap (λ b. b || u) (one refl)
either_grows false true t u one two true h = refl
either_grows false false t u one two true h = two h

module _ {X : Type 0} (alike longer : X → X → Bool) where
  pub all_longest : (P : X → Type 0) (xs : List X) → AllByRecursion P xs → AllByRecursion P (longest_by alike longer xs)
  all_longest P [] all = tt
  all_longest P (x ∷ xs) all =
      let rest = all_longest P xs all.1 in
      elim (is_exceeded alike longer x xs) as (λ b. AllByRecursion P (cond b (longest_by alike longer xs) (x ∷ filter (λ y. not (alike y x)) (longest_by alike longer xs)))) [
        | true ↦ rest
        | false ↦ (all.0, all_filtered P (λ y. not (alike y x)) (longest_by alike longer xs) rest)
      ]

  none_exceeds : (b : X) (xs : List X) → AllByRecursion (λ y. alike y b ≡ false) xs → is_exceeded alike longer b xs ≡ false
  none_exceeds b [] all = refl
  none_exceeds b (x ∷ xs) all = not_both (alike x b) (longer x b) (is_exceeded alike longer b xs) all.0 (none_exceeds b xs all.1)

  all_apart : (b : X) (xs : List X) → AllByRecursion (λ y. alike y b ≡ false) xs → AllByRecursion (λ y. not (alike y b) ≡ true) xs
  all_apart b [] all = tt
  all_apart b (x ∷ xs) all = (ap not all.0, all_apart b xs all.1)

  -- nothing behind the best is alike
  pub best_stands : (b : X) (xs : List X) → AllByRecursion (λ y. alike y b ≡ false) xs → longest_by alike longer (b ∷ xs) ≡ b ∷ longest_by alike longer xs
  best_stands b xs all =
      ap (λ t. cond t (longest_by alike longer xs) (b ∷ filter (λ y. not (alike y b)) (longest_by alike longer xs))) (none_exceeds b xs all)
      ∙ ap (λ ys. b ∷ ys) (filter_all (λ y. not (alike y b)) (longest_by alike longer xs) (all_apart b (longest_by alike longer xs) (all_longest (λ y. alike y b ≡ false) xs all)))

  -- the next is alike and longer than the best
  pub best_falls : (b s : X) (xs : List X) → alike s b ≡ true → longer s b ≡ true → longest_by alike longer (b ∷ s ∷ xs) ≡ longest_by alike longer (s ∷ xs)
  best_falls b s xs same more =
      ap (λ t. cond ((t && longer s b) || is_exceeded alike longer b xs) (longest_by alike longer (s ∷ xs)) (b ∷ filter (λ y. not (alike y b)) (longest_by alike longer (s ∷ xs)))) same
      ∙ ap (λ t. cond (t || is_exceeded alike longer b xs) (longest_by alike longer (s ∷ xs)) (b ∷ filter (λ y. not (alike y b)) (longest_by alike longer (s ∷ xs)))) more

  -- the next is alike and no longer than the best
  module _ (b s : X) (same : (r : X) → alike r s ≡ alike r b) (further : (r : X) → longer r b ≡ true → longer r s ≡ true) where
    -- what exceeds the best exceeds it too
    exceeded_too : (xs : List X) → is_exceeded alike longer b xs ≡ true → is_exceeded alike longer s xs ≡ true
    exceeded_too [] h = h
    exceeded_too (x ∷ xs) h =
        ap (λ a. (a && longer x s) || is_exceeded alike longer s xs) (same x)
        ∙ either_grows (longer x b) (longer x s) (is_exceeded alike longer b xs) (is_exceeded alike longer s xs) (further x) (exceeded_too xs) (alike x b) h

    apart_behind : (xs : List X) → alike s b ≡ true → filter (λ y. not (alike y b)) (longest_by alike longer (s ∷ xs)) ≡ filter (λ y. not (alike y b)) (longest_by alike longer xs)
    apart_behind xs here =
        let p : X → Bool = λ y. not (alike y b) in
        let q : X → Bool = λ y. not (alike y s) in
        let rest = longest_by alike longer xs in
        elim (is_exceeded alike longer s xs) as (λ t. filter (λ y. not (alike y b)) (cond t (longest_by alike longer xs) (s ∷ filter (λ y. not (alike y s)) (longest_by alike longer xs))) ≡ filter (λ y. not (alike y b)) (longest_by alike longer xs)) [
          | true ↦ refl
          | false ↦ ap (λ t. cond (not t) (s ∷ filter p (filter q rest)) (filter p (filter q rest))) here ∙ filter_twice p q (λ y. ap not (same y)) rest
        ]

    pub best_keeps : (xs : List X) → alike s b ≡ true → longer s b ≡ false → longest_by alike longer (b ∷ s ∷ xs) ≡ longest_by alike longer (b ∷ xs)
    best_keeps xs here less =
        let kept : List X → List X = λ ys. b ∷ filter (λ y. not (alike y b)) ys in
        ap (λ t. cond ((t && longer s b) || is_exceeded alike longer b xs) (longest_by alike longer (s ∷ xs)) (kept (longest_by alike longer (s ∷ xs)))) here
        ∙ ap (λ t. cond (t || is_exceeded alike longer b xs) (longest_by alike longer (s ∷ xs)) (kept (longest_by alike longer (s ∷ xs)))) less
        ∙ elim (is_exceeded alike longer b xs) as (λ t. is_exceeded alike longer b xs ≡ t → cond t (longest_by alike longer (s ∷ xs)) (b ∷ filter (λ y. not (alike y b)) (longest_by alike longer (s ∷ xs))) ≡ cond t (longest_by alike longer xs) (b ∷ filter (λ y. not (alike y b)) (longest_by alike longer xs))) [
          | true ↦ λ e. ap (λ t. cond t (longest_by alike longer xs) (s ∷ filter (λ y. not (alike y s)) (longest_by alike longer xs))) (exceeded_too xs e)
          | false ↦ λ _. ap (λ ys. b ∷ ys) (apart_behind xs here)
        ] refl
