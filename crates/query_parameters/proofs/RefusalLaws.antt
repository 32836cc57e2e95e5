-- The first refused element is one alone, and there is one where not all are taken.
use Rattle.std.proofs.Common.{◌≡◌, ◌⊎◌, inl, inr, List, [], ◌∷◌, ◌++◌, refl, sym, subst, ◌∙◌}
use Rattle.std.proofs.lemmas.List.{append_assoc, append-nil}
use Rattle.query_parameters.specs.FirstRefusals.{AreTaken, IsFirstRefusal}

pub taken_more : {A : Type 0} (Takes : List A → A → Type 0) (before xs : List A) (x : A) → AreTaken Takes before xs → Takes (before ++ xs) x → AreTaken Takes before (xs ++ x ∷ [])
taken_more Takes before [] x all last = (subst (λ (bs : List _). Takes bs x) (append-nil before) last, tt)
taken_more Takes before (y ∷ xs) x all last =
    (all.0, taken_more Takes (before ++ y ∷ []) xs x all.1 (subst (λ (bs : List _). Takes bs x) (sym (append_assoc before (y ∷ []) xs)) last))

module _ {A F : Type 0} (Takes : List A → A → Type 0) (Refuses : List A → A → F → Type 0)
    (apart : (before : List A) (x : A) (fault : F) → Takes before x → Refuses before x fault → ⊥)
    (one : (before : List A) (x : A) (f g : F) → Refuses before x f → Refuses before x g → f ≡ g) where
  not_all : (front before : List A) (here : A) (after : List A) (fault : F) → AreTaken Takes front (before ++ here ∷ after) → Refuses (front ++ before) here fault → ⊥
  not_all front [] here after fault all refused = apart front here fault all.0 (subst (λ (bs : List A). Refuses bs here fault) (append-nil front) refused)
  not_all front (b ∷ before) here after fault all refused =
      not_all (front ++ b ∷ []) before here after fault all.1 (subst (λ (bs : List A). Refuses bs here fault) (sym (append_assoc front (b ∷ []) before)) refused)

  -- where all are taken, none is refused
  pub none_refused : (xs : List A) (fault : F) → AreTaken Takes [] xs → IsFirstRefusal Takes Refuses xs fault → ⊥
  none_refused xs fault all h = not_all [] h.before h.here h.after fault (subst (λ (ys : List A). AreTaken Takes [] ys) h.split all) h.refused

  one_at : (front before later : List A) (x y : A) (after rest : List A) (f g : F) → AreTaken Takes front before → AreTaken Takes front later
      → Refuses (front ++ before) x f → Refuses (front ++ later) y g → before ++ x ∷ after ≡ later ++ y ∷ rest → f ≡ g
  one_at front [] [] x y after rest f g all each h k same =
      let here : x ≡ y = cc in
      one (front ++ []) y f g (subst (λ (z : A). Refuses (front ++ []) z f) here h) k
  one_at front [] (l ∷ later) x y after rest f g all each h k same =
      let here : x ≡ l = cc in
      absurd (apart front l f each.0 (subst (λ (z : A). Refuses front z f) here (subst (λ (bs : List A). Refuses bs x f) (append-nil front) h)))
  one_at front (b ∷ before) [] x y after rest f g all each h k same =
      let here : y ≡ b = cc in
      absurd (apart front b g all.0 (subst (λ (z : A). Refuses front z g) here (subst (λ (bs : List A). Refuses bs y g) (append-nil front) k)))
  one_at front (b ∷ before) (l ∷ later) x y after rest f g all each h k same =
      let first : l ≡ b = cc in
      let others : before ++ x ∷ after ≡ later ++ y ∷ rest = cc in
      let moved : AreTaken Takes (front ++ b ∷ []) later = subst (λ (z : A). AreTaken Takes (front ++ z ∷ []) later) first each.1 in
      let last : Refuses (front ++ b ∷ later) y g = subst (λ (z : A). Refuses (front ++ z ∷ later) y g) first k in
      one_at (front ++ b ∷ []) before later x y after rest f g all.1 moved
      (subst (λ (bs : List A). Refuses bs x f) (sym (append_assoc front (b ∷ []) before)) h) (subst (λ (bs : List A). Refuses bs y g) (sym (append_assoc front (b ∷ []) later)) last) others

  -- a first fault is one alone
  pub one_refused : (xs : List A) (f g : F) → IsFirstRefusal Takes Refuses xs f → IsFirstRefusal Takes Refuses xs g → f ≡ g
  one_refused xs f g h k = one_at [] h.before k.before h.here k.here h.after k.after f g h.taken k.taken h.refused k.refused (sym h.split ∙ k.split)

-- where each element is taken or refused, a list is taken whole or has a first refusal
module _ {A F : Type 0} (Takes : List A → A → Type 0) (Refuses : List A → A → F → Type 0)
    (each : (before : List A) (x : A) → Takes before x ⊎ ((fault : F) × Refuses before x fault)) where
  rest_or_refused : (done xs : List A) → AreTaken Takes [] done → AreTaken Takes [] (done ++ xs) ⊎ ((fault : F) × IsFirstRefusal Takes Refuses (done ++ xs) fault)
  rest_or_refused done [] all = inl (subst (λ (ys : List A). AreTaken Takes [] ys) (sym (append-nil done)) all)
  rest_or_refused done (x ∷ xs) all =
      elim (each done x) [
        | inr wrong ↦ inr (wrong.0, record { before = done; here = x; after = xs; split = refl; taken = all; refused = wrong.1 })
        | inl right ↦ subst (λ (ys : List A). AreTaken Takes [] ys ⊎ ((fault : F) × IsFirstRefusal Takes Refuses ys fault)) (append_assoc done (x ∷ []) xs)
            (rest_or_refused (done ++ x ∷ []) xs (taken_more Takes [] done x all right))
      ]

  pub taken_or_refused : (xs : List A) → AreTaken Takes [] xs ⊎ ((fault : F) × IsFirstRefusal Takes Refuses xs fault)
  taken_or_refused xs = rest_or_refused [] xs tt
