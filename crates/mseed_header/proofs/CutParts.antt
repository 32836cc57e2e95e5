-- A part of a body that is cut where a record begins.
use Rattle.std.proofs.Common.{◌≡◌, ℕ, ◌+◌, ◌-◌, List, ◌++◌, length, take, drop, slice_range, sym, ap, ◌∙◌, arith, length-append}
use Rattle.std.proofs.Math.Seq.{drop-append_seam}

-- it is what the rest begins with
pub part_of_rest : (body bytes front rest : List ℕ) (n : ℕ) → bytes ≡ body → bytes ≡ front ++ rest
    → slice_range body (length bytes - length rest) (length bytes - length rest + n) ≡ take n rest
part_of_rest body bytes front rest n same split =
    let sizes : length bytes ≡ length front + length rest = ap length split ∙ length-append front rest in
    let at : length bytes - length rest ≡ length front = omega arith in
    let left : drop (length bytes - length rest) body ≡ rest =
    ap (drop (length bytes - length rest)) (sym same) ∙ ap (λ k. drop k bytes) at ∙ ap (drop (length front)) split ∙ drop-append_seam front rest in
    let size : length bytes - length rest + n - (length bytes - length rest) ≡ n = omega arith in
    ap (λ k. take k (drop (length bytes - length rest) body)) size ∙ ap (take n) left
