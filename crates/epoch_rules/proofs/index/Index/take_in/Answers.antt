use Rattle.std.proofs.Common.{◌∙◌}
use Rattle.epoch_rules.proofs.index.Index.take_in.Goals as goal

pub returns-clause-ok : goal.returns-clause-ok
returns-clause-ok c = record {
  counted = c.in_ok-changes.ensures.counted;
  ended = λ test. c.in_ok-lay.ensures.ok test ∙ c.in_ok-changes.ensures.ended test;
}
