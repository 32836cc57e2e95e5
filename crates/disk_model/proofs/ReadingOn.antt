-- A slice that is filled by one read after another.
use Rattle.std.proofs.Common.{◌≡◌, ℕ, ◌+◌, ◌-◌, ◌≤◌, List, ◌++◌, length, take, sym, ◌∙◌, ap, subst, refl, append_assoc, arith, Option, Some, None}
use Rattle.std.proofs.lemmas.List.{length-take, take-take, places}
use Rattle.std.proofs.lemmas.Slice.{take-put_mid}
use Rattle.std.proofs.Math.Seq.{take-append-add}
use Rattle.std.specs.Io.KnownBytes.{Consumes}
use borrow.Rule.Slice.PartMut.{put_mid}

-- what stands in the slice after one read more
filled_on : (into buf : List ℕ) (done count : ℕ) → done ≤ length into → length buf ≡ length into - done → count ≤ length buf → take (done + count) (put_mid done (length into - done) into buf) ≡ take done into ++ take count buf
filled_on into buf done count inside long few =
    let end = done + length buf in
    let size : length (take done into) ≡ done = omega (arith, length-take done into) in
    sym (take-take (done + count) end (put_mid done (length into - done) into buf) (omega arith)) ∙ ap (take (done + count)) (take-put_mid done (length into - done) into buf end refl inside) ∙ ap (λ n. take (n + count) (take done into ++ buf)) (sym size) ∙ take-append-add (take done into) buf count

-- what was consumed, and then more
consumes_on : (a b c : Option (List ℕ)) (xs ys : List ℕ) → Consumes a b xs → Consumes b c ys → Consumes a c (xs ++ ys)
consumes_on None b c xs ys first second = tt
consumes_on (Some s) None c xs ys first second = absurd first
consumes_on (Some s) (Some t) None xs ys first second = second
consumes_on (Some s) (Some t) (Some u) xs ys first second = first ∙ ap (λ l. xs ++ l) second ∙ sym (append_assoc xs ys u)

pub read_more : (a b c : Option (List ℕ)) (into buf : List ℕ) (done count n : ℕ) → done ≤ length into → length buf ≡ length into - done → count ≤ length buf → n ≡ done + count → Consumes a b (take done into) → Consumes b c (take count buf)
    → Consumes a c (take n (put_mid done (length into - done) into buf))
read_more a b c into buf done count n inside long few is first second =
    subst (Consumes a c) (sym (ap (λ m. take m (put_mid done (length into - done) into buf)) is ∙ filled_on into buf done count inside long few)) (consumes_on a b c (take done into) (take count buf) first second)

-- the slice is as long as before
pub more_inside : (into buf : List ℕ) (done count : ℕ) → done ≤ length into → length buf ≡ length into - done → count ≤ length buf → done + count ≤ length (put_mid done (length into - done) into buf)
more_inside into buf done count inside long few = grind (arith, places)
