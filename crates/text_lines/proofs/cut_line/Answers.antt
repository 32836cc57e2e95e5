use Rattle.std.proofs.Common.{sym, ◌+◌}
use Rattle.std.proofs.lemmas.List.{take_rest}
use Rattle.text_lines.proofs.LineCuts.{cut_at, uncut}
use Rattle.text_lines.proofs.cut_line.Goals as goal

pub returns-in_default-clause-cut : goal.returns-in_default-clause-cut
returns-in_default-clause-cut c = uncut c.args.text.now (sym c.in_default.ensures.value) c.requires

pub returns-clause-cut : goal.returns-clause-cut
returns-clause-cut c = rw (take_rest c.args.text.now (c.in-Some.end + 1), c.without_return.ensures) (cut_at c.args.text.now c.in-Some.end (sym c.in-Some.ensures.value))
