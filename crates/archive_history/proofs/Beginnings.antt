-- Beginnings of one list.
use Rattle.std.proofs.Common.{◌≡◌, ℕ, zero, suc, ◌≤◌, List, [], ◌∷◌, ◌++◌, length, Some, slice_get, refl, ap, sym, ◌∙◌, arith, append_assoc, length-append}
use mathlib.Core.List.{IsPrefix}

-- each list begins with itself
pub begins_itself : {A : Type 0} (xs : List A) → IsPrefix xs xs
begins_itself [] = ([], refl)
begins_itself (x ∷ xs) = let rest = begins_itself xs in (rest.0, ap (λ ys. x ∷ ys) rest.1)

-- what begins a beginning begins the whole
pub begins_on : {A : Type 0} (xs ys zs : List A) → IsPrefix xs ys → IsPrefix ys zs → IsPrefix xs zs
begins_on xs ys zs p q = (p.0 ++ q.0, sym (append_assoc xs p.0 q.0) ∙ (ap (λ rest. rest ++ q.0) p.1 ∙ q.1))

-- of two beginnings of one list the longer begins with the shorter
pub shorter_begins : {A : Type 0} (xs ys zs : List A) → IsPrefix xs zs → IsPrefix ys zs → length xs ≤ length ys → IsPrefix xs ys
shorter_begins [] ys zs p q le = (ys, refl)
shorter_begins (x ∷ xs) [] zs p q le = absurd (omega arith)
shorter_begins (x ∷ xs) (y ∷ ys) [] p q le = absurd (cc (p.1))
shorter_begins (x ∷ xs) (y ∷ ys) (z ∷ zs) p q le =
    let heads : x ≡ y = cc (p.1, q.1) in
    let rest = shorter_begins xs ys zs (p.0, cc (p.1)) (q.0, cc (q.1)) (omega arith) in
    (rest.0, cc (heads, rest.1))

-- a beginning that is no shorter is the whole
pub whole_beginning : {A : Type 0} (xs ys : List A) → IsPrefix xs ys → length ys ≤ length xs → xs ≡ ys
whole_beginning [] [] p le = refl
whole_beginning [] (y ∷ ys) p le = absurd (omega arith)
whole_beginning (x ∷ xs) [] p le = absurd (cc (p.1))
whole_beginning (x ∷ xs) (y ∷ ys) p le = let rest = whole_beginning xs ys (p.0, cc (p.1)) (omega arith) in cc (p.1, rest)

pub beginning_length : {A : Type 0} (xs ys : List A) → IsPrefix xs ys → length xs ≤ length ys
beginning_length xs ys p = omega (arith, sym (ap length p.1) ∙ length-append xs p.0)

-- what stands in a beginning stands at that place in the whole
pub beginning_get : {A : Type 0} (xs ys : List A) (k : ℕ) (x : A) → IsPrefix xs ys → slice_get xs k ≡ Some x → slice_get ys k ≡ Some x
beginning_get [] ys k x p at = absurd cc
beginning_get (y ∷ xs) [] k x p at = absurd (cc (p.1))
beginning_get (y ∷ xs) (z ∷ ys) zero x p at = cc (p.1, at)
beginning_get (y ∷ xs) (z ∷ ys) (suc k) x p at = beginning_get xs ys k x (p.0, cc (p.1)) at
