-- What is left of a list of pieces, when one is skipped and when some of its bytes are given.
use Rattle.std.proofs.Common.{◌≡◌, ℕ, ◌+◌, ◌-◌, ◌<◌, ◌≤◌, ◌==◌, not, List, [], ◌∷◌, ◌++◌, length, get_or, take, drop, refl, sym, ◌∙◌, ap, suc, arith, add-one, drop-cons, length-drop}
use Rattle.std.specs.List.{flat_map}
use Rattle.std.proofs.Math.Seq.{drop-append-add, take-length}
use Rattle.std.proofs.lemmas.List.{take-append-drop, drop-append-le}
use Rattle.std.proofs.lemmas.Grind.{common_steps}
use Rattle.std.proofs.lemmas.List.Elements.{filter-append}
use Rattle.streams.specs.Pieces.{bytes_behind, with_bytes, without_front, pieces_behind}

-- the bytes of the pieces after the one at `at`
abbrev after : List (List ℕ) → ℕ → List ℕ
after ps at = flat_map (λ v. v) (drop (at + 1) ps)

opened : (ps : List (List ℕ)) (at from : ℕ) (p : List ℕ) → at < length ps → p ≡ get_or ps at p
    → bytes_behind ps at from ≡ drop from (p ++ after ps at)
opened ps at from p h e = rw (add-one, drop-cons ps at p) (ap (λ (q : List ℕ). drop from (q ++ flat_map (λ v. v) (drop (suc at) ps))) (sym e))

pub skipped : (ps : List (List ℕ)) (at from : ℕ) (p : List ℕ) → at < length ps → p ≡ get_or ps at p
    → length p ≤ from → bytes_behind ps (at + 1) (from - length p) ≡ bytes_behind ps at from
skipped ps at from p h e le =
    let split : length p + (from - length p) ≡ from = omega arith in
    sym (opened ps at from p h e ∙ ap (λ n. drop n (p ++ after ps at)) (sym split) ∙ drop-append-add p (after ps at) (from - length p))

front : (xs ys : List ℕ) (from n : ℕ) → from + n ≤ length xs
    → drop from (xs ++ ys) ≡ take n (drop from xs) ++ drop (from + n) (xs ++ ys)
front xs ys from n le = grind (arith, common_steps, drop-append-le from xs ys, drop-append-le (from + n) xs ys, take-append-drop n (drop from xs))

pub gave : (ps : List (List ℕ)) (at from n : ℕ) (p : List ℕ) → at < length ps → p ≡ get_or ps at p
    → from + n ≤ length p → bytes_behind ps at from ≡ take n (drop from p) ++ bytes_behind ps at (from + n)
gave ps at from n p h e le =
    opened ps at from p h e ∙ front p (after ps at) from n le
    ∙ ap (λ rest. take n (drop from p) ++ rest) (sym (opened ps at (from + n) p h e))

-- a slice to the end, given in part
pub given_part : (d p into : List ℕ) (from n : ℕ) → d ≡ p → from ≤ length p
    → take n into ≡ take n (take (length d - from) (drop from d)) → take n (drop from p) ≡ take n into
given_part d p into from n e le h =
    let whole : take (length d - from) (drop from d) ≡ drop from d = grind (arith, common_steps, length-drop from d, take-length (drop from d)) in
    sym (h ∙ ap (take n) (whole ∙ ap (drop from) e))

-- no bytes in front are gone
pub all_pieces : (ps : List (List ℕ)) → without_front 0 ps ≡ ps
all_pieces [] = refl
all_pieces (p ∷ ps) =
    let none : 0 - length p ≡ 0 = omega arith in
    ap (λ (n : ℕ). p ∷ without_front n ps) none ∙ ap (λ (rest : List (List ℕ)). p ∷ rest) (all_pieces ps)

-- the pieces from the one at `at` on
pieces_opened : (ps : List (List ℕ)) (at from : ℕ) (p : List ℕ) → at < length ps → p ≡ get_or ps at p
    → pieces_behind ps at from ≡ with_bytes (drop from p ∷ []) ++ with_bytes (without_front (from - length p) (drop (at + 1) ps))
pieces_opened ps at from p h e =
    let front : drop at ps ≡ p ∷ drop (at + 1) ps = rw (add-one, drop-cons ps at p) (ap (λ (q : List ℕ). q ∷ drop (suc at) ps) (sym e)) in
    ap (λ (qs : List (List ℕ)). with_bytes (without_front from qs)) front
    ∙ filter-append (λ piece. not (length piece == 0)) (drop from p ∷ []) (without_front (from - length p) (drop (at + 1) ps))

no_bytes : (p : List ℕ) → length p ≡ 0 → with_bytes (p ∷ []) ≡ []
no_bytes [] e = refl
no_bytes (x ∷ p) e = absurd (omega arith)

-- a piece that is spent is no piece that is left
pub piece_skipped : (ps : List (List ℕ)) (at from : ℕ) (p : List ℕ) → at < length ps → p ≡ get_or ps at p
    → length p ≤ from → pieces_behind ps (at + 1) (from - length p) ≡ pieces_behind ps at from
piece_skipped ps at from p h e le =
    let size : length (drop from p) ≡ 0 = omega (arith, length-drop from p) in
    sym (pieces_opened ps at from p h e ∙ ap (λ (qs : List (List ℕ)). qs ++ with_bytes (without_front (from - length p) (drop (at + 1) ps))) (no_bytes (drop from p) size))
