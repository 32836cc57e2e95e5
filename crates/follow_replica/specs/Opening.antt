-- What opening a replica gives back.
use Rattle.std.specs.Prelude.{Result, Ok, Err}
use Rattle.archive_log.specs.Archive.{Archived}

-- the disk that an opening gives back, with the replica or with its fault; and what it answers
abbrev pub disk_left : {D F : Type 0} → Result (Archived D) (D × F) → D
disk_left (Ok follower) = follower.disk
disk_left (Err refused) = refused.0

abbrev pub outcome_left : {T D F : Type 0} → Result T (D × F) → Result T F
outcome_left (Ok follower) = Ok follower
outcome_left (Err refused) = Err refused.1
