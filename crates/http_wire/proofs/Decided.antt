-- What can be decided of texts: each question has an answer, yes or no.
use Rattle.std.proofs.Common.{◌≡◌, ◌∙◌, ◌⊎◌, inl, inr, ℕ, zero, suc, ◌<◌, ◌≤◌, Bool, true, false, List, [], ◌∷◌, ◌++◌, length, length-append, refl, sym, ap, subst, arith}
use Rattle.std.specs.Prelude.{All}
use Rattle.std.specs.List.{flat_map}
use Rattle.std.proofs.lemmas.Bool.{cases_eq, false≢true}
use Rattle.std.proofs.lemmas.List.Elements.{All-nil, All-cons, All-head, All-tail}

-- it is so, or it isn't
abbrev pub OrNot : Type 0 → Type 0
OrNot P = P ⊎ (P → ⊥)

pub both : {P Q : Type 0} → OrNot P → OrNot Q → OrNot (P × Q)
both (inl p) (inl q) = inl (p, q)
both (inl p) (inr n) = inr (λ h. n h.1)
both (inr n) q = inr (λ h. n h.0)

pub either : {P Q : Type 0} → OrNot P → OrNot Q → OrNot (P ⊎ Q)
either (inl p) q = inl (inl p)
either (inr n) (inl q) = inl (inr q)
either (inr n) (inr m) = inr (λ h. elim h [ inl p ↦ n p | inr q ↦ m q ])

pub alike : {P Q : Type 0} → (P → Q) → (Q → P) → OrNot P → OrNot Q
alike to from (inl p) = inl (to p)
alike to from (inr n) = inr (λ q. n (from q))

pub passes : (b : Bool) → OrNot (b ≡ true)
passes true = inl refl
passes false = inr (λ e. false≢true e)

-- two texts are one
pub same_text : (xs ys : List ℕ) → OrNot (xs ≡ ys)
same_text [] [] = inl refl
same_text [] (y ∷ ys) = inr (λ e. absurd cc)
same_text (x ∷ xs) [] = inr (λ e. absurd cc)
same_text (x ∷ xs) (y ∷ ys) = elim (cases_eq x y) [
  | inr ne ↦ inr (λ e. absurd (ne cc))
  | inl same ↦ alike (λ e. cc) (λ e. cc) (same_text xs ys)
]

-- the text is a front that is so, and a rest that is so
abbrev pub Splits : (List ℕ → Type 0) → (List ℕ → Type 0) → List ℕ → Type 0
Splits P Q text = (front : List ℕ) × (rest : List ℕ) × (text ≡ front ++ rest) × P front × Q rest

pub splits : (P Q : List ℕ → Type 0) → ((text : List ℕ) → OrNot (P text)) → ((text : List ℕ) → OrNot (Q text)) → (text : List ℕ) → OrNot (Splits P Q text)
splits P Q p q [] = alike (λ h. ([], [], refl, h.0, h.1)) (λ h. none h.0 h.1 h.2 h.3 h.4) (both (p []) (q []))
  where
    none : (front rest : List ℕ) → [] ≡ front ++ rest → P front → Q rest → P [] × Q []
    none [] rest e hp hq = (hp, subst Q (sym e) hq)
    none (x ∷ front) rest e hp hq = absurd cc
splits P Q p q (x ∷ xs) =
    alike to (λ h. from h.0 h.1 h.2 h.3 h.4) (either (both (p []) (q (x ∷ xs))) (splits (λ a. P (x ∷ a)) Q (λ a. p (x ∷ a)) q xs))
  where
    to : (P [] × Q (x ∷ xs)) ⊎ Splits (λ a. P (x ∷ a)) Q xs → Splits P Q (x ∷ xs)
    to (inl h) = ([], x ∷ xs, refl, h.0, h.1)
    to (inr h) = (x ∷ h.0, h.1, ap (λ (t : List ℕ). x ∷ t) h.2, h.3, h.4)

    from : (front rest : List ℕ) → x ∷ xs ≡ front ++ rest → P front → Q rest → (P [] × Q (x ∷ xs)) ⊎ Splits (λ a. P (x ∷ a)) Q xs
    from [] rest e hp hq = inl (hp, subst Q (sym e) hq)
    from (y ∷ front) rest e hp hq =
        let head : y ≡ x = cc in
        let tail : xs ≡ front ++ rest = cc in
        inr (front, rest, tail, subst (λ (k : ℕ). P (k ∷ front)) head hp, hq)

-- the text is this byte and a rest that is so
abbrev pub Begins : ℕ → (List ℕ → Type 0) → List ℕ → Type 0
Begins byte Q text = (rest : List ℕ) × (text ≡ byte ∷ rest) × Q rest

pub begins : (byte : ℕ) (Q : List ℕ → Type 0) → ((text : List ℕ) → OrNot (Q text)) → (text : List ℕ) → OrNot (Begins byte Q text)
begins byte Q q [] = inr (λ h. (let e : [] ≡ byte ∷ h.0 = h.1 in absurd cc))
begins byte Q q (x ∷ xs) = elim (cases_eq x byte) [
  | inr ne ↦ inr (λ h. (let e : x ∷ xs ≡ byte ∷ h.0 = h.1 in absurd (ne cc)))
  | inl same ↦ alike (λ h. (xs, ap (λ (k : ℕ). k ∷ xs) same, h)) (λ h. (let e : x ∷ xs ≡ byte ∷ h.0 = h.1 in let tail : h.0 ≡ xs = cc in subst Q tail h.2)) (q xs)
]

-- things that are printed one behind another, each some bytes
module _ {T : Type 0} (Valid : T → Type 0) (print : T → List ℕ) (some : (x : T) → 0 < length (print x)) where
  abbrev One : List ℕ → Type 0
  One text = (x : T) × Valid x × (text ≡ print x)

  abbrev pub Prints : List ℕ → Type 0
  Prints text = (xs : List T) × All Valid xs × (text ≡ flat_map print xs)

  -- at most n of them
  abbrev Pieces : ℕ → List ℕ → Type 0
  Pieces zero text = text ≡ []
  Pieces (suc n) text = (text ≡ []) ⊎ Splits One (Pieces n) text

  pieces : ((text : List ℕ) → OrNot (One text)) → (n : ℕ) (text : List ℕ) → OrNot (Pieces n text)
  pieces one zero text = same_text text []
  pieces one (suc n) text = either (same_text text []) (splits One (Pieces n) one (pieces one n) text)

  printed : (n : ℕ) (text : List ℕ) → Pieces n text → Prints text
  printed zero text none = ([], All-nil Valid, none)
  printed (suc n) text (inl none) = ([], All-nil Valid, none)
  printed (suc n) text (inr h) =
      let one = h.3 in
      let more = printed n h.1 h.4 in (
        one.0 ∷ more.0,
        All-cons Valid one.0 more.0 one.1 more.1,
        h.2 ∙ ap (λ (t : List ℕ). t ++ h.1) one.2 ∙ ap (λ (t : List ℕ). print one.0 ++ t) more.2,
      )

  cut_up : (xs : List T) (n : ℕ) → length (flat_map print xs) ≤ n → All Valid xs → Pieces n (flat_map print xs)
  cut_up [] zero le all = refl
  cut_up [] (suc n) le all = inl refl
  cut_up (x ∷ xs) zero le all = absurd (omega (arith, le, some x, length-append (print x) (flat_map print xs)))
  cut_up (x ∷ xs) (suc n) le all =
      inr (print x, flat_map print xs, refl, (x, All-head Valid x xs all, refl), cut_up xs n (omega (arith, le, some x, length-append (print x) (flat_map print xs))) (All-tail Valid x xs all))

  pub prints : ((text : List ℕ) → OrNot (One text)) → (text : List ℕ) → OrNot (Prints text)
  prints one text =
      alike (printed (length text) text)
      (λ h. subst (λ (t : List ℕ). Pieces (length text) t) (sym h.2) (cut_up h.0 (length text) (omega (arith, ap length h.2)) h.1))
      (pieces one (length text) text)
