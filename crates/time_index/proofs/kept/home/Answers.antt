use Rattle.std.proofs.Common.{◌∙◌, sym}
use Rattle.time_index.proofs.Mending.{none_home, short_home, home_is, less_from, not_less_from}
use Rattle.time_index.proofs.kept.home.Goals as goal

pub returns-in_err-key : goal.returns-in_err-key
returns-in_err-key c =
    let listed = sym (c.range.ensures.between tt) ∙ c.in_err-key.ensures.steps.0 in
    rw c.from_residual.ensures (none_home c.args.start.micros c.args.spans.now.entries c.requires.spread listed)

pub returns-then-lt : goal.returns-then-lt
returns-then-lt c =
    let listed = sym (c.range.ensures.between tt) ∙ c.in_ok-key.ensures.steps in
    short_home c.args.start.micros c.args.spans.now.entries c.requires.spread c.next_back.new.self (c.in_ok-key.key.now, c.in_ok-key.kept.now) listed (less_from c.in_ok-key.kept.now.reach.micros c.args.start.micros (sym c.lt.ensures ∙ c.if-lt.true))

pub returns : goal.returns
returns c =
    let listed = sym (c.range.ensures.between tt) ∙ c.in_ok-key.ensures.steps in
    home_is c.args.start.micros c.args.spans.now.entries c.requires.spread c.next_back.new.self (c.in_ok-key.key.now, c.in_ok-key.kept.now) listed (not_less_from c.in_ok-key.kept.now.reach.micros c.args.start.micros (sym c.lt.ensures ∙ c.if-lt.false))
