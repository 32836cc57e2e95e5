-- A pattern without wildcards matches itself alone.
use Rattle.std.proofs.Common.{◌≡◌, ℕ, Bool, true, false, ◌==◌, ◌&&◌, ◌||◌, not, nat_eq, List, [], ◌∷◌, length, get_or, ap, refl, sym, arith}
use Rattle.std.proofs.lemmas.Bool.{and_parts}
use Rattle.std.proofs.lemmas.Bool.Decides.{nat_tests}
use Rattle.std.specs.List.{list_all}
use Rattle.std.specs.Cmp.Lexicographic.{pointwise}
use Rattle.channel_globs.specs.Matching.{is_match, is_match_any, is_plain, star, question_mark}

no_star : (a b : Bool) → not (a || b) ≡ true → a ≡ false
no_star true b h = sym h
no_star false b h = refl

no_mark : (a b : Bool) → not (a || b) ≡ true → b ≡ false
no_mark true b h = absurd cc
no_mark false true h = sym h
no_mark false false h = refl

pub plain_matches : (pattern other : List ℕ) → list_all is_plain pattern ≡ true → is_match pattern other ≡ pointwise nat_eq pattern other
plain_matches [] [] h = refl
plain_matches [] (c ∷ cs) h = grind (arith, nat_tests)
plain_matches (p ∷ ps) [] h =
    let parts = and_parts (is_plain p) (list_all is_plain ps) h in
    rw (no_star (p == star) (p == question_mark) parts.0) refl
plain_matches (p ∷ ps) (c ∷ cs) h =
    let parts = and_parts (is_plain p) (list_all is_plain ps) h in
    rw (no_star (p == star) (p == question_mark) parts.0, no_mark (p == star) (p == question_mark) parts.0)
    (ap (λ b. nat_eq p c && b) (plain_matches ps cs parts.1))

or_none : (b : Bool) → (b || false) ≡ b
or_none true = refl
or_none false = refl

-- and so does a list of that pattern alone
pub single_matches : (items : List (List ℕ)) (item other : List ℕ) → length items ≡ 1 → item ≡ get_or items 0 item → list_all is_plain item ≡ true
    → is_match_any items other ≡ pointwise nat_eq item other
single_matches [] item other one at plain = absurd (omega arith)
single_matches (x ∷ []) item other one at plain =
    let same : x ≡ item = cc in
    rw (or_none (is_match x other), same) (plain_matches item other plain)
single_matches (x ∷ y ∷ xs) item other one at plain = absurd (omega arith)
