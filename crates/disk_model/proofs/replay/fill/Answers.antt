use Rattle.std.proofs.Common.{◌-◌, arith, rules}
use Rattle.disk_model.proofs.Fills.{set_within}
use Rattle.disk_model.proofs.replay.fill.Goals as goal

pub returns-then-at-end : goal.returns-then-at-end
returns-then-at-end c k lt = set_within c.args.image.now c.fill.new.self c.args.at (c.min-end.result - c.args.at) c.args.len k c.args.byte (search rules) (omega arith) lt
