use Rattle.std.proofs.Common.{◌∙◌, sym}
use Rattle.time_index.proofs.Mending.{within_is}
use Rattle.time_index.proofs.kept.behind.Goals as goal

pub returns : goal.returns
returns c = record {
  others = c.next.new.self;
  is = sym (within_is c.args.home c.args.reach c.args.spans.now.entries) ∙ sym (c.range.ensures.between tt) ∙ c.in_ok-key.ensures.steps;
}
