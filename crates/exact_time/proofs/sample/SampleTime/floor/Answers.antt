use Rattle.std.proofs.Common.{ap, ◌∙◌}
use Rattle.std.specs.Prelude.{int_le}
use Rattle.exact_time.proofs.Wholes.{floor_is}
use Rattle.exact_time.proofs.sample.SampleTime.floor.Goals as goal

pub returns-clause-exact : goal.returns-clause-exact
returns-clause-exact c = λ q h. ap (int_le q) c.floor_of.ensures ∙ floor_is c.args.self.now q h
