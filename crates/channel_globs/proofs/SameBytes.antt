-- Codes that are as long are the same where their eight bytes are.
use Rattle.std.proofs.Common.{◌≡◌, ℕ, zero, suc, ◌≤◌, ◌&&◌, nat_eq, List, [], ◌∷◌, length, take, drop, sym, ap, ◌∙◌, arith}
use Rattle.std.specs.Cmp.Lexicographic.{pointwise, nat_list_eq_equiv}

-- the ends are the same: then the lists are where their fronts are
pub same_fronts : (n : ℕ) (xs ys : List ℕ) → n ≤ length xs → n ≤ length ys → drop n xs ≡ drop n ys → pointwise nat_eq xs ys ≡ pointwise nat_eq (take n xs) (take n ys)
same_fronts zero xs ys h k e = ap (pointwise nat_eq xs) (sym e) ∙ nat_list_eq_equiv.refl xs
same_fronts (suc n) [] ys h k e = absurd (omega (arith, h))
same_fronts (suc n) (x ∷ xs) [] h k e = absurd (omega (arith, k))
same_fronts (suc n) (x ∷ xs) (y ∷ ys) h k e = ap (λ b. nat_eq x y && b) (same_fronts n xs ys (omega (arith, h)) (omega (arith, k)) e)
