-- How a session over streams ends.
use Rattle.std.specs.Prelude.{Bool, true, false, Result, Ok, Err}
use Rattle.archive_log.specs.declared.fault.StartFault.{StartFault}
use Rattle.archive_log.specs.declared.fault.StartFault.TheVariants as start
use Rattle.centre_session.specs.declared.ending.SessionEnd.{SessionEnd}
use Rattle.centre_session.specs.declared.ending.SessionEnd.TheVariants.{Closed, Cut, LinkFault, Memory}
use Rattle.centre_talk.specs.declared.ending.TalkStop.{TalkStop}
use Rattle.centre_talk.specs.declared.ending.TalkStop.TheVariants.{ReadFault, WriteFault, DiskFault, OutOfMemory, RequestCut, NotAJournal, Damaged}

-- how a fault of opening ends it
abbrev pub stop_for_start : StartFault → TalkStop
stop_for_start start.DiskFault = DiskFault
stop_for_start start.NotAJournal = NotAJournal
stop_for_start (start.Damaged at) = Damaged at
stop_for_start start.OutOfMemory = OutOfMemory

abbrev pub ending_for : SessionEnd → Result (Unit {0}) TalkStop
ending_for Closed = Ok tt
ending_for Cut = Err RequestCut
ending_for LinkFault = Err OutOfMemory
ending_for Memory = Err OutOfMemory

-- A stopped command counts before a fault of the source, that before one of the sink, and these before how the session
-- ended.
abbrev pub ending_of : (stopped read write : Bool) → SessionEnd → Result (Unit {0}) TalkStop
ending_of true read write end = Err DiskFault
ending_of false true write end = Err ReadFault
ending_of false false true end = Err WriteFault
ending_of false false false end = ending_for end
