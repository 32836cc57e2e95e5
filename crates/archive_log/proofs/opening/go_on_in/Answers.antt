use Rattle.std.proofs.Common.{◌∙◌}
use Rattle.disk_model.specs.View.{file_of}
use Rattle.archive_log.specs.Opening.{outcome_of}
use Rattle.archive_log.proofs.Openings.{explains_read}
use Rattle.archive_log.proofs.opening.go_on_in.Goals as goal

pub returns-in-Ok-clause-fault : goal.returns-in-Ok-clause-fault
returns-in-Ok-clause-fault g c told =
    explains_read (outcome_of c.read_from.result) (file_of (g.D.Disk.view c.args.disk)) c.in-Ok.journal.payloads (c.in-Ok.ensures.payloads told)
    c.read_from.ensures.whole (c.read_from.ensures.damaged (c.in-Ok.ensures.disk.tells ∙ told))
