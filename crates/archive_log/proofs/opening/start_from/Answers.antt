use Rattle.std.proofs.Common.{arith}
use Rattle.archive_log.proofs.Openings.{no_entry}
use Rattle.archive_log.proofs.opening.start_from.Goals as goal

pub returns-then-count-eq0-clause-damaged : goal.returns-then-count-eq0-clause-damaged
returns-then-count-eq0-clause-damaged g c told at is =
    no_entry c.args.journal.payloads (omega (arith, (c.count.ensures.kept told).counted, c.count.ensures.count, c.if-count-eq0.true)) at (cc (is))
