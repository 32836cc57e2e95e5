-- Cutting a text at its line feeds.
use Rattle.std.proofs.Common.{◌≡◌, ℕ, ◌+◌, ◌<◌, ◌≤◌, ◌==◌, suc, Bool, true, false, cond, not, List, [], ◌∷◌, Some, None, length, take, drop, refl, sym, ap, ◌∙◌, arith, ltb, position, inl, inr}
use Rattle.std.specs.List.{slice_split, position_or_len, before_first, after_first}
use Rattle.std.specs.Str.Lines.{lines, lines_of_parts, strip_carriage_return}
use Rattle.std.proofs.lemmas.Bool.{ltb-true, ltb-false, cases_Bool, ne_eqb}
use Rattle.std.proofs.lemmas.List.Sums.{prefix_len-le-length}
use Rattle.std.proofs.lemmas.List.Splits.{slice_split_first, length-slice_split}

pub found : {A : Type 0} (b : Bool) (x y : A) → cond b (Some x) None ≡ Some y → (b ≡ true) × (x ≡ y)
found true x y e = (refl, cc)
found false x y e = absurd (let f : None ≡ Some y = e in cc)

pub missed : {A : Type 0} (b : Bool) (x : A) → cond b (Some x) None ≡ None → b ≡ false
missed true x e = absurd (let f : Some x ≡ None = e in cc)
missed false x e = refl

unsplit : {A : Type 0} (p : A → Bool) (xs : List A) → length xs ≤ position_or_len p xs → slice_split p xs ≡ xs ∷ []
unsplit p [] h = refl
unsplit p (x ∷ xs) h = elim (cases_Bool (p x)) [
  | inl e ↦ absurd (let n : position_or_len p (x ∷ xs) ≡ 0 = rw e refl in omega (arith, n))
  | inr e ↦ let n : position_or_len p (x ∷ xs) ≡ 1 + position_or_len p xs = rw e refl in rw (e, unsplit p xs (omega (arith, n))) refl
]

lines-cons : (x : List ℕ) (parts : List (List ℕ)) → 0 < length parts → lines_of_parts (x ∷ parts) ≡ strip_carriage_return x ∷ lines_of_parts parts
lines-cons x [] some = absurd (omega arith)
lines-cons x (y ∷ more) some = refl

pub cut_at : (text : List ℕ) (i : ℕ) → position (λ b. b == 10) text ≡ Some i → lines text ≡ strip_carriage_return (take i text) ∷ lines (drop (i + 1) text)
cut_at text i e =
    let p = λ (b : ℕ). b == 10 in
    let f = found (ltb (position_or_len p text) (length text)) (position_or_len p text) i e in
    let s = slice_split_first p text 0 (ltb-true _ _ f.0) in
    let n = length-slice_split p (after_first p text) in
    ap lines_of_parts s ∙ lines-cons (before_first p text) (slice_split p (after_first p text)) (omega (arith, n)) ∙ ap (λ j. strip_carriage_return (take j text) ∷ lines (drop (j + 1) text)) f.1

pub uncut : (text : List ℕ) → position (λ b. b == 10) text ≡ None → 0 < length text → lines text ≡ text ∷ []
uncut text e some =
    let p = λ (b : ℕ). b == 10 in
    let m = ltb-false _ _ (missed (ltb (position_or_len p text) (length text)) (position_or_len p text) e) in
    ap lines_of_parts (unsplit p text m) ∙ last text some
  where
    last : (xs : List ℕ) → 0 < length xs → lines_of_parts (xs ∷ []) ≡ xs ∷ []
    last [] some = absurd (omega arith)
    last (x ∷ xs) some = ap (λ b. cond b [] ((x ∷ xs) ∷ [])) (ne_eqb (suc (length xs)) 0 (λ e. omega (arith, e)))

-- the place of the first element that passes, or the length
pub place_found : {A : Type 0} (p : A → Bool) (xs : List A) (i : ℕ) → position p xs ≡ Some i → i ≡ position_or_len p xs
place_found p xs i e = sym (found (ltb (position_or_len p xs) (length xs)) (position_or_len p xs) i e).1

pub place_missed : {A : Type 0} (p : A → Bool) (xs : List A) → position p xs ≡ None → length xs ≡ position_or_len p xs
place_missed p xs e =
    let m = ltb-false _ _ (missed (ltb (position_or_len p xs) (length xs)) (position_or_len p xs) e) in
    let most = prefix_len-le-length (λ x. not (p x)) xs in
    omega (arith, m, most)
