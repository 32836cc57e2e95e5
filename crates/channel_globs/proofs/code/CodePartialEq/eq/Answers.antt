use Rattle.std.proofs.Common.{◌≡◌, ◌-◌, ◌∙◌, sym, ap, ap₂, arith, nat_eq, drop, take, replicate, ℕ, List}
use Rattle.std.specs.Cmp.Lexicographic.{pointwise}
use Rattle.channel_globs.proofs.SameBytes.{same_fronts}
use Rattle.channel_globs.proofs.code.CodePartialEq.eq.Goals as goal

pub returns-then-self-other : goal.returns-then-self-other
returns-then-self-other c =
    let n = c.self.inside.len in
    let xs = c.self.inside.bytes in
    let ys = c.other.inside.bytes in
    let one = c.self.invariant in
    let two = c.other.invariant in
    let same : c.other.inside.len ≡ c.self.inside.len = sym c.if-self-other.true in
    let ends : drop n xs ≡ drop n ys = one.3 ∙ ap (λ (k : ℕ). replicate (8 - k) 0) (sym same) ∙ sym two.3 ∙ ap (λ (k : ℕ). drop k ys) same in
    let other : take n ys ≡ c.args.other.now = ap (λ (k : ℕ). take k ys) (sym same) ∙ c.other.view_is in
    c.eq.ensures ∙ same_fronts n xs ys (omega (arith, one.1, one.2)) (omega (arith, same, two.1, two.2)) ends
    ∙ ap₂ (λ (a b : List ℕ). pointwise nat_eq a b) c.self.view_is other
