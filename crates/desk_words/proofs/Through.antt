-- A filter through which all that a second one takes passes.
use Rattle.std.proofs.Common.{◌≡◌, ◌∙◌, ◌&&◌, Bool, true, false, cond, List, [], ◌∷◌, filter, refl, ap}

pub left_holds : (a b : Bool) → (a && b) ≡ true → a ≡ true
left_holds true b h = refl
left_holds false b h = absurd (let e = h in (cc))

pub right_holds : (a b : Bool) → (a && b) ≡ true → b ≡ true
right_holds true b h = h
right_holds false b h = absurd (let e = h in (cc))

module _ {X : Type 0} (f p : X → Bool) (passes : (x : X) → f x ≡ true → p x ≡ true) where
  step : (x : X) (xs : List X) (a b : Bool) → f x ≡ a → p x ≡ b → filter f (filter p xs) ≡ filter f xs → filter f (cond b (x ∷ filter p xs) (filter p xs)) ≡ cond a (x ∷ filter f xs) (filter f xs)
  step x xs true true is through more = (λ i. cond (is i) (x ∷ filter f (filter p xs)) (filter f (filter p xs))) ∙ ap (λ (ys : List X). x ∷ ys) more
  step x xs false true is through more = (λ i. cond (is i) (x ∷ filter f (filter p xs)) (filter f (filter p xs))) ∙ more
  step x xs true false is through more = absurd (let e = passes x is in (cc))
  step x xs false false is through more = more

  pub filter_through : (xs : List X) → filter f (filter p xs) ≡ filter f xs
  filter_through [] = refl
  filter_through (x ∷ xs) = step x xs (f x) (p x) refl refl (filter_through xs)
