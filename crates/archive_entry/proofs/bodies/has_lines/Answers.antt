use Rattle.std.proofs.Common.{sym, ◌∙◌}
use Rattle.archive_entry.proofs.Readings.{lines_told}
use Rattle.archive_entry.proofs.bodies.has_lines.Goals as goal

pub returns-in-Some : goal.returns-in-Some
returns-in-Some c = lines_told c.args.body.now c.read_revision-answer.result c.in-Some.is' c.read_revision-answer.ensures.exact (sym c.told_lines-told.ensures ∙ c.in-Some.is)
