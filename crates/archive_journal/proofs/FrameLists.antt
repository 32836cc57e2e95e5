-- Frames one after another, and where their gates stand.
use Rattle.std.proofs.Common.{◌≡◌, ℕ, ◌+◌, List, [], ◌∷◌, ◌++◌, length, get_or, take, zero, suc, ◌<◌, sym, ◌∙◌, ap, arith, append_assoc, length-append}
use Rattle.std.proofs.lemmas.List.{append-nil}
use Rattle.std.specs.List.{AllByRecursion}
use Rattle.archive_journal.specs.Frames.{magic, open_gate, body_of, frames, front_of}
use Rattle.archive_journal.specs.Journal.{gates_from, HasGatesAt}

pub length-body_of : (p : List ℕ) → length (body_of p) ≡ length p + 4
length-body_of p = omega arith

-- what holds of each, and of one more
pub all_push : {A : Type 0} (P : A → Type 0) (xs : List A) (x : A) → AllByRecursion P xs → P x → AllByRecursion P (xs ++ x ∷ [])
all_push P [] x all here = (here, tt)
all_push P (y ∷ ys) x all here = (all.0, all_push P ys x all.1 here)

pub frames-push : (ps : List (List ℕ)) (p rest : List ℕ) → frames (ps ++ p ∷ []) ++ rest ≡ frames ps ++ (open_gate ∷ body_of p ++ rest)
frames-push [] p rest = ap (λ (l : List ℕ). open_gate ∷ l ++ rest) (append-nil (body_of p))
frames-push (q ∷ ps) p rest =
    ap (λ (l : List ℕ). open_gate ∷ l)
    (append_assoc (body_of q) (frames (ps ++ p ∷ [])) rest
    ∙ ap (λ (l : List ℕ). body_of q ++ l) (frames-push ps p rest)
    ∙ sym (append_assoc (body_of q) (frames ps) (open_gate ∷ body_of p ++ rest)))

-- the frame behind a front makes the next front
pub front_of-push : (ps : List (List ℕ)) (p rest : List ℕ) → front_of (ps ++ p ∷ []) ++ rest ≡ front_of ps ++ (open_gate ∷ body_of p ++ rest)
unfolding front_of
front_of-push ps p rest = ap (λ (l : List ℕ). magic ++ l) (frames-push ps p rest)

pub length-front_of-push : (ps : List (List ℕ)) (p : List ℕ) → length (front_of (ps ++ p ∷ [])) ≡ length (front_of ps) + 5 + length p
length-front_of-push ps p =
    omega (arith, ap length (front_of-push ps p []), length-append (front_of (ps ++ p ∷ [])) [], length-append (front_of ps) (open_gate ∷ body_of p ++ []), length-append (body_of p) [], length-body_of p)

-- the gate of one more payload stands behind all others
gates_from-more : (at : ℕ) (ps : List (List ℕ)) (p : List ℕ) → gates_from at (ps ++ p ∷ []) ≡ gates_from at ps ++ (at + length (frames ps)) ∷ []
gates_from-more at [] p = let e : at ≡ at + 0 = omega arith in ap (λ (n : ℕ). n ∷ []) e
gates_from-more at (q ∷ ps) p =
    let e : at + 5 + length q + length (frames ps) ≡ at + length (frames (q ∷ ps)) = omega (arith, length-append (body_of q) (frames ps), length-body_of q) in
    ap (λ (l : List ℕ). at ∷ l) (gates_from-more (at + 5 + length q) ps p ∙ ap (λ (n : ℕ). gates_from (at + 5 + length q) ps ++ n ∷ []) e)

pub gates_from-push : (ps : List (List ℕ)) (p : List ℕ) → gates_from 16 (ps ++ p ∷ []) ≡ gates_from 16 ps ++ length (front_of ps) ∷ []
unfolding front_of
gates_from-push ps p = let e : 16 + length (frames ps) ≡ length (magic ++ frames ps) = omega (arith, length-append magic (frames ps)) in gates_from-more 16 ps p ∙ ap (λ (n : ℕ). gates_from 16 ps ++ n ∷ []) e

get_or-gates_from : (at : ℕ) (ps : List (List ℕ)) (k d : ℕ) → k < length ps → get_or (gates_from at ps) k d ≡ at + length (frames (take k ps))
get_or-gates_from at [] k d lt = absurd (omega arith)
get_or-gates_from at (p ∷ ps) zero d lt = omega arith
get_or-gates_from at (p ∷ ps) (suc k) d lt = omega (arith, get_or-gates_from (at + 5 + length p) ps k d (omega arith), length-append (body_of p) (frames (take k ps)), length-body_of p)

-- each payload's gate stands behind those before it
pub gate_at : (ps : List (List ℕ)) (offsets : List ℕ) (end : ℕ) → HasGatesAt ps offsets end → (k d : ℕ) → k < length ps → get_or offsets k d ≡ length (front_of (take k ps))
unfolding front_of
gate_at ps offsets end placed k d lt = ap (λ (l : List ℕ). get_or l k d) placed.offsets_are ∙ get_or-gates_from 16 ps k d lt ∙ omega (arith, length-append magic (frames (take k ps)))
