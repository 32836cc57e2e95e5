use Rattle.std.proofs.Common.{ℤ, ◌≤◌, subst, unsigned_abs}
use Rattle.std.proofs.lemmas.Bool.{iff_false}
use Rattle.query_parameters.proofs.Minimums.{one_decimal, no_decimal}
use Rattle.query_parameters.proofs.values.read_degrees.Goals as goal

pub returns-in_default : goal.returns-in_default
returns-in_default c = record { exact = λ n h. no_decimal c.args.text.now c.read.result c.read.ensures.exact c.in_default.not-Ok n h.decimal }

pub returns-then-not-is_at_most : goal.returns-then-not-is_at_most
returns-then-not-is_at_most c = record {
  exact = λ n h.
      let same = one_decimal c.args.text.now n c.in-Ok.degrees.millionths h.decimal c.in-Ok.ensures.exact.right in
      iff_false c.is_at_most.ensures c.if-not-is_at_most.true (subst (λ (m : ℤ). unsigned_abs m ≤ c.args.most) same h.within);
}
