use Rattle.std.proofs.Common.{sym}
use Rattle.archive_state.proofs.Numbers.{same_numbers}
use Rattle.archive_state.proofs.authors.make_room.Goals as goal

pub returns-in_err-reserve-clause-same : goal.returns-in_err-reserve-clause-same
returns-in_err-reserve-clause-same c =
    same_numbers c.args.authors.now (c.get_mut.follows.lender c.reserve.new.self) c.args.author.now c.in-Some.numbers.now c.reserve.new.self (sym c.in-Some.ensures.value) (c.get_mut.follows.holds c.reserve.new.self).0 c.reserve.ensures.items

pub returns-in-Some-clause-same : goal.returns-in-Some-clause-same
returns-in-Some-clause-same c =
    same_numbers c.args.authors.now (c.get_mut.follows.lender c.reserve.new.self) c.args.author.now c.in-Some.numbers.now c.reserve.new.self (sym c.in-Some.ensures.value) (c.get_mut.follows.holds c.reserve.new.self).0 c.reserve.ensures.items
