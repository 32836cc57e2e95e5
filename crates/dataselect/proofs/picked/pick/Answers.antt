use Rattle.std.proofs.Common.{rules, sym}
use Rattle.dataselect.proofs.Wholes.{all_are_picked}
use Rattle.dataselect.proofs.picked.pick.Goals as goal

pub returns-then-query-eq0 : goal.returns-then-query-eq0
returns-then-query-eq0 c = record { picked = sym (all_are_picked c.args.query.now c.args.rows.now c.args.places (search rules) c.if-query.false) }
