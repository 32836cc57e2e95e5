use Rattle.std.proofs.Common.{rules, sym, subst, ◌∙◌, ℤ}
use Rattle.std.specs.Prelude.{int_le, IsTrue, ◌↔◌}
use Rattle.std.specs.Int.{w128}
use Rattle.std.proofs.lemmas.Int.{to_z-of_z}
use Rattle.exact_time.specs.SampleTime.{IsGapAtMost}
use Rattle.exact_time.proofs.Wholes.{reach_is}
use Rattle.exact_time.proofs.whole.reach.Goals as goal

pub returns-clause-exact : goal.returns-clause-exact
returns-clause-exact c = λ q.
    subst (λ (m : ℤ). IsTrue (int_le q m) ↔ IsGapAtMost c.args.next q c.args.slack) (sym (to_z-of_z w128 c.reach_of.result (search rules) ∙ c.reach_of.ensures))
    (reach_is c.args.next c.args.slack q)
