use Rattle.std.proofs.Common.{sym}
use Rattle.archive_state.proofs.Numbers.{one_number_more}
use Rattle.archive_state.proofs.authors.put_number.Goals as goal

pub returns-in-Some : goal.returns-in-Some
returns-in-Some c =
    one_number_more c.args.authors.now (c.get_mut.follows.lender c.push_reserved.new.self) c.args.author.now c.in-Some.numbers.now c.push_reserved.new.self (sym c.in-Some.ensures.value)
    (c.get_mut.follows.holds c.push_reserved.new.self).0 c.args.number c.push_reserved.ensures.items
