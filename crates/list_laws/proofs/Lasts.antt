-- The last element of a list that passes a test.
use Rattle.std.proofs.Common.{◌≡◌, Bool, true, false, cond, List, [], ◌∷◌, ◌++◌, refl, sym, ap, ◌∙◌}
use Rattle.std.specs.List.{AllByRecursion, filter}

module _ {E : Type 0} (test : E → Bool) where
  pub none_filtered : (es : List E) → filter test es ≡ [] → AllByRecursion (λ e. test e ≡ false) es
  none_filtered [] h = tt
  none_filtered (e ∷ es) h =
      elim (test e) as (λ b. test e ≡ b → cond b (e ∷ filter test es) (filter test es) ≡ [] → AllByRecursion (λ e. test e ≡ false) (e ∷ es)) [
        | true ↦ λ _ k. absurd (cc)
        | false ↦ λ f k. (f, none_filtered es k)
      ] refl h

  -- it passes, and none behind it does
  pub Split : List E → E → Type 0
  Split es t = (us : List E) × (vs : List E) × (es ≡ us ++ t ∷ vs) × (test t ≡ true) × AllByRecursion (λ e. test e ≡ false) vs

  one_more : (e : E) (es : List E) (t : E) → Split es t → Split (e ∷ es) t
  unfolding Split
  one_more e es t s = (e ∷ s.0, s.1, ap (λ (xs : List E). e ∷ xs) s.2, s.3, s.4)

  tail_of : (e g : E) (xs ys : List E) → e ∷ xs ≡ g ∷ ys → xs ≡ ys
  tail_of e g xs ys h = cc

  head_of : (e g : E) (xs ys : List E) → e ∷ xs ≡ g ∷ ys → e ≡ g
  head_of e g xs ys h = cc

  here : (e : E) (es : List E) (t : E) → test e ≡ true → e ∷ filter test es ≡ t ∷ [] → Split (e ∷ es) t
  unfolding Split
  here e es t f k = let same : e ≡ t = head_of e t (filter test es) [] k in ([], es, ap (λ (x : E). x ∷ es) same, sym (ap test same) ∙ f, none_filtered es (tail_of e t (filter test es) [] k))

  pub last_split : (es front : List E) (t : E) → filter test es ≡ front ++ t ∷ [] → Split es t
  last_split [] [] t h = absurd (cc)
  last_split [] (f ∷ front) t h = absurd (cc)
  last_split (e ∷ es) [] t h =
      elim (test e) as (λ b. test e ≡ b → cond b (e ∷ filter test es) (filter test es) ≡ t ∷ [] → Split (e ∷ es) t) [
        | true ↦ λ f k. here e es t f k
        | false ↦ λ f k. one_more e es t (last_split es [] t k)
      ] refl h
  last_split (e ∷ es) (g ∷ front) t h =
      elim (test e) as (λ b. test e ≡ b → cond b (e ∷ filter test es) (filter test es) ≡ g ∷ (front ++ t ∷ []) → Split (e ∷ es) t) [
        | true ↦ λ f k. one_more e es t (last_split es front t (tail_of e g (filter test es) (front ++ t ∷ []) k))
        | false ↦ λ f k. one_more e es t (last_split es (g ∷ front) t k)
      ] refl h
