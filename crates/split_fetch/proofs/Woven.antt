-- Putting in order what is in order already, a class of equal items after another.
use Rattle.std.proofs.Common.{◌≡◌, Bool, true, false, ◌||◌, List, [], ◌∷◌, filter, cond, refl, ap, ◌∙◌, Ordering}
use Rattle.std.specs.List.{AllByRecursion}
use Rattle.std.specs.Ordering.{is_lt}
use Rattle.split_fetch.specs.Gathered.{put_behind, put_all_behind}

module _ {X : Type 0} (cmp : X → X → Ordering) where
  -- the list rises: nothing stands before a smaller item
  abbrev pub Rises : List X → Type 0
  Rises [] = Unit {0}
  Rises (x ∷ xs) = AllByRecursion (λ y. is_lt (cmp y x) ≡ false) xs × Rises xs

  pub put_passes : (y : X) (ys : List X) (x : X) → is_lt (cmp x y) ≡ false → put_behind cmp (y ∷ ys) x ≡ y ∷ put_behind cmp ys x
  put_passes y ys x h = ap (λ (b : Bool). cond b (x ∷ y ∷ ys) (y ∷ put_behind cmp ys x)) h

  -- items that aren't smaller than the first go behind it
  all_pass : (y : X) (ys xs : List X) → AllByRecursion (λ x. is_lt (cmp x y) ≡ false) xs → put_all_behind cmp (y ∷ ys) xs
      ≡ y ∷ put_all_behind cmp ys xs
  all_pass y ys [] all = refl
  all_pass y ys (x ∷ xs) all = ap (λ (done : List X). put_all_behind cmp done xs) (put_passes y ys x all.0)
      ∙ all_pass y (put_behind cmp ys x) xs all.1

  pub goes_first : (x : X) (ys : List X) → AllByRecursion (λ y. is_lt (cmp x y) ≡ true) ys → put_behind cmp ys x ≡ x ∷ ys
  goes_first x [] all = refl
  goes_first x (y ∷ ys) all = ap (λ (b : Bool). cond b (x ∷ y ∷ ys) (y ∷ put_behind cmp ys x)) all.0

  all_of : (P : X → Type 0) (p : X → Bool) (xs : List X) → AllByRecursion P xs → AllByRecursion P (filter p xs)
  all_of P p [] all = tt
  all_of P p (x ∷ xs) all =
      let rest = all_of P p xs all.1 in
      elim (p x) as (λ b. AllByRecursion P (cond b (x ∷ filter p xs) (filter p xs))) [ true ↦ (all.0, rest) | false ↦ rest ]

  module _ (p q : X → Bool) where
    -- Two classes: what isn't told apart is in the same one, and nothing is in both.
    pub record AreClasses : Type 0 where
      pub apart : (x : X) → p x ≡ true → q x ≡ false
      pub alike : (x y : X) → q x ≡ true → p y ≡ true → is_lt (cmp y x) ≡ false → is_lt (cmp x y) ≡ true

    module _ (classes : AreClasses) where
      smaller : (x : X) (xs : List X) → q x ≡ true → AllByRecursion (λ y. is_lt (cmp y x) ≡ false) xs
          → AllByRecursion (λ y. is_lt (cmp x y) ≡ true) (filter p xs)
      smaller x [] h all = tt
      smaller x (y ∷ ys) h all =
          let rest = smaller x ys h all.1 in
          elim (p y) as (λ b. p y ≡ b → AllByRecursion (λ z. is_lt (cmp x z) ≡ true) (cond b (y ∷ filter p ys) (filter p ys))) [
            | true ↦ λ e. (classes.alike x y h e all.0, rest)
            | false ↦ λ e. rest
          ] refl

      -- one class, put in order behind the other, gives both in order
      pub woven : (xs : List X) → Rises xs → put_all_behind cmp (filter p xs) (filter q xs) ≡ filter (λ x. p x || q x) xs
      woven [] up = refl
      woven (x ∷ xs) up =
          let rest = woven xs up.1 in
          elim (p x) as (λ b. p x ≡ b → put_all_behind cmp (cond b (x ∷ filter p xs) (filter p xs)) (filter q (x ∷ xs))
          ≡ cond (b || q x) (x ∷ filter (λ y. p y || q y) xs) (filter (λ y. p y || q y) xs)) [
            | true ↦ λ e.
                ap (λ (c : Bool). put_all_behind cmp (x ∷ filter p xs) (cond c (x ∷ filter q xs) (filter q xs))) (classes.apart x e)
                ∙ all_pass x (filter p xs) (filter q xs) (all_of (λ y. is_lt (cmp y x) ≡ false) q xs up.0)
                ∙ ap (λ (ys : List X). x ∷ ys) rest
            | false ↦ λ e.
                elim (q x) as (λ c. q x ≡ c → put_all_behind cmp (filter p xs) (cond c (x ∷ filter q xs) (filter q xs))
                ≡ cond c (x ∷ filter (λ y. p y || q y) xs) (filter (λ y. p y || q y) xs)) [
                  | true ↦ λ h.
                      ap (λ (done : List X). put_all_behind cmp done (filter q xs)) (goes_first x (filter p xs) (smaller x xs h up.0))
                      ∙ all_pass x (filter p xs) (filter q xs) (all_of (λ y. is_lt (cmp y x) ≡ false) q xs up.0)
                      ∙ ap (λ (ys : List X). x ∷ ys) rest
                  | false ↦ λ h. rest
                ] refl
          ] refl
