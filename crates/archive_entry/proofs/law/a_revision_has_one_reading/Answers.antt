use Rattle.archive_entry.specs.Bodies.{revision_of-only}
use Rattle.archive_entry.proofs.law.a_revision_has_one_reading.Goals as goal

pub returns : goal.returns
returns c = revision_of-only
