-- Steps of the match of a glob.
use Rattle.std.proofs.Common.{◌≡◌, ◌≢◌, ℕ, ◌+◌, ◌-◌, ◌≤◌, ◌↔◌, ◌⊎◌, suc, zero, List, [], ◌∷◌, length, get_or, take, drop, refl, sym, ap, subst, ◌∙◌, arith}
use Rattle.std.proofs.lemmas.Bool.{ne_eqb, MatchBool-at_false}
use Rattle.std.proofs.lemmas.List.{drop-drop, drop_all, take_rest}
use Rattle.channel_globs.specs.Matching.{Takes, Matches, LeadsTo}

pub start : (pattern code : List ℕ) → LeadsTo pattern code pattern code
start pattern code =
    let none : length code - length code ≡ 0 = omega arith in
    record {
      shorter = omega arith;
      within = omega arith;
      suffix = rw none refl;
      enough = λ h. h;
      needed = λ xs h. rw none h;
    }

-- a character other than * takes a byte
pub one_in : (p : ℕ) (ps code : List ℕ) → p ≢ 42 → Matches (p ∷ ps) code → Takes p code × Matches ps (drop 1 code)
one_in p ps code other h = MatchBool-at_false ((n : ℕ) × Matches ps (drop n code)) (Takes p code × Matches ps (drop 1 code)) (ne_eqb p 42 other) h

pub one_from : (p : ℕ) (ps code : List ℕ) → p ≢ 42 → Takes p code → Matches ps (drop 1 code) → Matches (p ∷ ps) code
one_from p ps code other takes h = rw (ne_eqb p 42 other) (takes, h)

pub step : (pattern code : List ℕ) (p : ℕ) (ps : List ℕ) (c : ℕ) (cs : List ℕ) → LeadsTo pattern code (p ∷ ps) (c ∷ cs) → p ≢ 42 → (p ≡ 63) ⊎ (p ≡ c) → LeadsTo pattern code ps cs
step pattern code p ps c cs h other takes =
    let more : length code - length cs ≡ (length code - suc (length cs)) + 1 = omega (arith, h.within) in
    record {
      shorter = omega (arith, h.shorter);
      within = omega (arith, h.within);
      suffix = rw (more, ← drop-drop 1 (length code - suc (length cs)) code, ← h.suffix) refl;
      enough = λ k. h.enough (one_from p ps (c ∷ cs) other takes k);
      needed = λ xs k. rw (more, ← drop-drop 1 (length code - suc (length cs)) xs) (one_in p ps _ other (h.needed xs k)).1;
    }

-- what is left decides
pub decided : (pattern code glob left : List ℕ) → LeadsTo pattern code glob left → Matches glob left ↔ Matches pattern code
decided pattern code glob left h = (h.enough, λ k. subst (λ (xs : List ℕ). Matches glob xs) (sym h.suffix) (h.needed code k))

-- the same in the words of a slice pattern
pub step_at : (pattern code glob left : List ℕ) → LeadsTo pattern code glob left → 1 ≤ length glob → 1 ≤ length left → get_or glob 0 0 ≢ 42 → (get_or glob 0 0 ≡ 63) ⊎ (get_or glob 0 0 ≡ get_or left 0 0) → LeadsTo pattern code (take (length glob - 1) (drop 1 glob)) (take (length left - 1) (drop 1 left))
step_at pattern code [] left h some more other takes = absurd (omega arith)
step_at pattern code (p ∷ ps) [] h some more other takes = absurd (omega arith)
step_at pattern code (p ∷ ps) (c ∷ cs) h some more other takes = rw (take_rest (p ∷ ps) 1, take_rest (c ∷ cs) 1) (step pattern code p ps c cs h other takes)

-- behind a *, the pattern that comes to another * comes to that alone
pub star_again : (ps code qs left : List ℕ) → LeadsTo ps code (42 ∷ qs) left → Matches (42 ∷ ps) code ↔ Matches (42 ∷ qs) left
star_again ps code qs left h = (
  λ k.
      let n = length code - length left in
      let found = h.needed (drop k.0 code) k.1 in
      let shifted : k.0 + n ≡ n + k.0 = omega arith in
      let moved : drop n (drop k.0 code) ≡ drop k.0 left = drop-drop n k.0 code ∙ ap (λ i. drop i code) shifted ∙ sym (drop-drop k.0 n code) ∙ ap (drop k.0) (sym h.suffix) in
      (k.0 + found.0, subst (λ (xs : List ℕ). Matches qs xs) (ap (drop found.0) moved ∙ drop-drop found.0 k.0 left) found.1),
  λ k. (0, h.enough k),
)

-- where the pattern fails here, its match begins later
later : (ps : List ℕ) (c : ℕ) (cs : List ℕ) → (Matches ps (c ∷ cs) → ⊥) → (n : ℕ) → Matches ps (drop n (c ∷ cs)) → Matches (42 ∷ ps) cs
later ps c cs fails zero h = absurd (fails h)
later ps c cs fails (suc n) h = (n, h)

pub star_on : (ps left : List ℕ) → (Matches ps left → ⊥) → 1 ≤ length left → Matches (42 ∷ ps) left ↔ Matches (42 ∷ ps) (take (length left - 1) (drop 1 left))
star_on ps [] fails some = absurd (omega arith)
star_on ps (c ∷ cs) fails some = rw (take_rest (c ∷ cs) 1) (λ k. later ps c cs fails k.0 k.1, λ k. (suc k.0, k.1))

pub star_end : (ps left : List ℕ) → (Matches ps left → ⊥) → length left ≡ 0 → Matches (42 ∷ ps) left → ⊥
star_end ps [] fails none k = fails (subst (λ (xs : List ℕ). Matches ps xs) (drop_all k.0 [] (omega arith)) k.1)
star_end ps (c ∷ cs) fails none k = absurd (omega arith)
