use Rattle.centre_desk.specs.Replies.{told_of}
use Rattle.centre_desk.proofs.Statuses.{going_of, with_memory}
use Rattle.centre_desk.proofs.law.no_request_is_told_of_disk_or_memory.Goals as goal

pub returns-clause-disk : goal.returns-clause-disk
returns-clause-disk c s h r m added = going_of h r m s added

pub returns-clause-memory : goal.returns-clause-memory
returns-clause-memory c s h r m added = with_memory (told_of h r m s added)
