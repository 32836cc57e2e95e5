use Rattle.std.proofs.Common.{rules, arith, ap, ◌≡◌, length}
use Rattle.dataselect.specs.Rows.{with_rows}
use Rattle.dataselect.proofs.Held.{length_all}
use Rattle.dataselect.proofs.plain.PlainShelfShelf.insert_all.Goals as goal

pub invariant_of-self-2 : goal.invariant_of-self-2
invariant_of-self-2 c =
    let now : c.put_new.new.rows.items ≡ with_rows c.args.self.now.rows.items c.args.more = search rules in
    record { few = omega (arith, ap length now, length_all c.args.self.now.rows.items c.args.more, c.requires) }
