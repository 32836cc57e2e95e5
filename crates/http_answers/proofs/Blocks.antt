-- Lines without CR and LF, each with at least one byte, and an empty line behind them: the empty line alone ends a block.
use Rattle.std.proofs.Common.{◌≡◌, ◌⊎◌, inl, inr, ℕ, ◌<◌, ◌==◌, ◌&&◌, Bool, true, List, [], ◌∷◌, ◌++◌, length, take, drop, refl, sym, ◌∙◌, ap, subst, arith, append_assoc, length-append, length-drop}
use Rattle.std.specs.Prelude.{not}
use Rattle.std.specs.List.{list_all, AllByRecursion}
use Rattle.std.proofs.lemmas.Bool.{and_parts}
use Rattle.std.proofs.lemmas.Bool.Decides.{nat_tests}
use Rattle.std.proofs.lemmas.List.{take-append-drop, take_all}
use Rattle.http_wire.specs.Blocks.{EndsBlock, IsBlock}

-- neither CR nor LF
abbrev pub is_quiet : ℕ → Bool
is_quiet b = not (b == 13) && not (b == 10)

-- a line of such bytes, one at least
abbrev pub IsLine : List ℕ → Type 0
IsLine [] = ⊥
IsLine (b ∷ line) = list_all is_quiet (b ∷ line) ≡ true

abbrev pub lines_text : List (List ℕ) → List ℕ
lines_text [] = 13 ∷ 10 ∷ []
lines_text (line ∷ lines) = line ++ 13 ∷ 10 ∷ lines_text lines

not_lf : (b : ℕ) → is_quiet b ≡ true → b ≡ 10 → ⊥
not_lf b h e = grind (arith, nat_tests)

not_cr : (b : ℕ) → is_quiet b ≡ true → b ≡ 13 → ⊥
not_cr b h e = grind (arith, nat_tests)

first_is : {A : Type 0} (x y : A) (xs ys : List A) → x ∷ xs ≡ y ∷ ys → x ≡ y
first_is x y xs ys e = cc

rest_is : {A : Type 0} (x y : A) (xs ys : List A) → x ∷ xs ≡ y ∷ ys → xs ≡ ys
rest_is x y xs ys e = cc

-- an LF behind the beginning of a line is the one at its end, or stands further on
past_line : (line rest front tail : List ℕ) → list_all is_quiet line ≡ true → line ++ 13 ∷ 10 ∷ rest ≡ front ++ 10 ∷ tail
    → (rest ≡ tail) ⊎ ((behind : List ℕ) × (rest ≡ behind ++ 10 ∷ tail))
past_line [] rest [] tail quiet e = absurd (let bad : 13 ≡ 10 = first_is 13 10 (10 ∷ rest) tail e in omega (arith, bad))
past_line [] rest (a ∷ []) tail quiet e = inl (rest_is 10 10 rest tail (rest_is 13 a (10 ∷ rest) (10 ∷ tail) e))
past_line [] rest (a ∷ b ∷ front) tail quiet e = inr (front, rest_is 10 b rest (front ++ 10 ∷ tail) (rest_is 13 a (10 ∷ rest) (b ∷ (front ++ 10 ∷ tail)) e))
past_line (b ∷ line) rest [] tail quiet e =
    absurd (not_lf b (and_parts (is_quiet b) (list_all is_quiet line) quiet).0 (first_is b 10 (line ++ 13 ∷ 10 ∷ rest) tail e))
past_line (b ∷ line) rest (a ∷ front) tail quiet e =
    past_line line rest front tail (and_parts (is_quiet b) (list_all is_quiet line) quiet).1 (rest_is b a (line ++ 13 ∷ 10 ∷ rest) (front ++ 10 ∷ tail) e)

is_quiet_line : (line : List ℕ) → IsLine line → list_all is_quiet line ≡ true
is_quiet_line [] h = refl
is_quiet_line (b ∷ line) h = h

-- no line begins with LF, and none with CR but the empty one
no_lf : (lines : List (List ℕ)) (more : List ℕ) → AllByRecursion IsLine lines → lines_text lines ≡ 10 ∷ more → ⊥
no_lf [] more all e = let bad : 13 ≡ 10 = first_is 13 10 (10 ∷ []) more e in omega (arith, bad)
no_lf ([] ∷ lines) more all e = all.0
no_lf ((b ∷ line) ∷ lines) more all e =
    not_lf b (and_parts (is_quiet b) (list_all is_quiet line) all.0).0 (first_is b 10 (line ++ 13 ∷ 10 ∷ lines_text lines) more e)

cr_ends : (lines : List (List ℕ)) (more : List ℕ) → AllByRecursion IsLine lines → lines_text lines ≡ 13 ∷ 10 ∷ more → more ≡ []
cr_ends [] more all e = sym (rest_is 10 10 [] more (rest_is 13 13 (10 ∷ []) (10 ∷ more) e))
cr_ends ([] ∷ lines) more all e = absurd all.0
cr_ends ((b ∷ line) ∷ lines) more all e =
    absurd (not_cr b (and_parts (is_quiet b) (list_all is_quiet line) all.0).0 (first_is b 13 (line ++ 13 ∷ 10 ∷ lines_text lines) (10 ∷ more) e))

none_is : (front tail : List ℕ) → [] ≡ front ++ 10 ∷ tail → ⊥
none_is front tail e = omega (arith, ap length e, length-append front (10 ∷ tail))

-- two LF never follow each other
pub never_two : (lines : List (List ℕ)) (front more : List ℕ) → AllByRecursion IsLine lines → lines_text lines ≡ front ++ 10 ∷ 10 ∷ more → ⊥
never_two [] front more all e = elim (past_line [] [] front (10 ∷ more) refl e) [
  | inl at ↦ none_is [] more at
  | inr further ↦ none_is further.0 (10 ∷ more) further.1
]
never_two (line ∷ lines) front more all e = elim (past_line line (lines_text lines) front (10 ∷ more) (is_quiet_line line all.0) e) [
  | inl at ↦ no_lf lines more all.1 at
  | inr further ↦ never_two lines further.0 more all.1 further.1
]

-- an empty line is the last one
pub empty_last : (lines : List (List ℕ)) (front more : List ℕ) → AllByRecursion IsLine lines → lines_text lines ≡ front ++ 10 ∷ 13 ∷ 10 ∷ more → more ≡ []
empty_last [] front more all e = elim (past_line [] [] front (13 ∷ 10 ∷ more) refl e) [
  | inl at ↦ absurd (none_is (13 ∷ []) more at)
  | inr further ↦ absurd (none_is further.0 (13 ∷ 10 ∷ more) further.1)
]
empty_last (line ∷ lines) front more all e = elim (past_line line (lines_text lines) front (13 ∷ 10 ∷ more) (is_quiet_line line all.0) e) [
  | inl at ↦ cr_ends lines more all.1 at
  | inr further ↦ empty_last lines further.0 more all.1 further.1
]

-- so the lines are one block, which is all of them
pub one_block : (lines : List (List ℕ)) → AllByRecursion IsLine lines → EndsBlock (lines_text lines) → IsBlock (lines_text lines) (length (lines_text lines))
one_block lines all ends =
    let text = lines_text lines in
    record {
      within = omega arith;
      ends = subst EndsBlock (sym (take_all (length text) text (omega arith))) ends;
      first = λ m lt at. early m lt at;
    }
  where
    split : (m : ℕ) (front back : List ℕ) → take m (lines_text lines) ≡ front ++ back → lines_text lines ≡ front ++ (back ++ drop m (lines_text lines))
    split m front back e =
        sym (take-append-drop m (lines_text lines)) ∙ ap (λ (l : List ℕ). l ++ drop m (lines_text lines)) e ∙ append_assoc front back (drop m (lines_text lines))

    early : (m : ℕ) → m < length (lines_text lines) → EndsBlock (take m (lines_text lines)) → ⊥
    early m lt (front, inl e) = never_two lines front (drop m (lines_text lines)) all (split m front (10 ∷ 10 ∷ []) e)
    early m lt (front, inr e) =
        let none = empty_last lines front (drop m (lines_text lines)) all (split m front (10 ∷ 13 ∷ 10 ∷ []) e) in
        omega (arith, lt, ap length none, length-drop m (lines_text lines))
