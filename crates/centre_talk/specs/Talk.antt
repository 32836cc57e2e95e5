-- One session over a source and a sink, on the archive of a disk.
use Rattle.std.specs.Prelude.{◌≡◌, ◌⊎◌, ◌+◌, ◌<◌, ◌≤◌, true, List, length, Option, None, Some, Result, Ok, Err}
use Rattle.exact_time.specs.Causes.{Rose}
use Rattle.exact_time.specs.declared.moment.Moment.{Moment}
use Rattle.disk_model.specs.View.{DiskView, WhereTold, is_told, file_of}
use Rattle.disk_model.specs.Effects.{WritesNothing}
use Rattle.archive_log.specs.Histories.{IsHistoryOf}
use Rattle.archive_log.specs.Opening.{ExplainsStart}
use Rattle.archive_log.specs.declared.fault.StartFault.{StartFault}
use Rattle.archive_log.specs.declared.fault.StartFault.TheVariants as start
use Rattle.desk_words.specs.Setting.{Setting}
use Rattle.desk_words.specs.Stand.{Stand, nothing}
use Rattle.http_wire.specs.declared.turn.Turn.{Turn}
use Rattle.archive_post.specs.Leaving.{LeavesLeft, KeepsHistory}
use Rattle.streams.specs.View.{StreamView}
use Rattle.centre_session.specs.Session.{scene, SessionRow}
use Rattle.centre_session.specs.declared.ending.SessionEnd.{SessionEnd}
use Rattle.centre_session.specs.declared.ending.SessionEnd.TheVariants as session
use Rattle.centre_talk.specs.Link.{joined}
use Rattle.centre_talk.specs.declared.ending.TalkStop.{TalkStop}
use Rattle.centre_talk.specs.declared.ending.TalkStop.TheVariants.{ReadFault, WriteFault, DiskFault, OutOfMemory, RequestCut, NotAJournal, Damaged}

-- what is known at one moment of all that a session over streams uses: the source, the sink, the moments that the clock
-- gave, and the disk
pub record Place : Type 1 where
  pub source : StreamView
  pub sink : StreamView
  pub given : Option (List Moment)
  pub disk : DiskView

abbrev pub place : StreamView → StreamView → Option (List Moment) → DiskView → Place
place source sink given disk = record { source = source; sink = sink; given = given; disk = disk }

-- a desk that was just opened: nobody else lengthens its history, nothing is left, and nothing was stopped
pub record IsFresh (desk : Stand) : Type 0 where
  pub alone : desk.alone ≡ true
  pub left : desk.left ≡ nothing
  pub stops : desk.stops ≡ 0

-- A session that ended so. It was served by a desk over the archive that the disk's file holds: what the desk saw first is
-- the history that the file's bytes spell. Every file that a crash then leaves is a journal of what the desk saw last, with
-- or without what it left, and that is a history in which what was left comes next: so each of them opens. It stopped a command
-- only where the disk failed.
pub record HasTalked (s : Setting) (before after : Place) (turns : List Turn) (end : SessionEnd) : Type 0 where
  pub first : Stand
  pub last : Stand
  pub fresh : IsFresh first
  pub row : SessionRow (scene first (joined before.source before.sink) before.given) (scene last (joined after.source after.sink) after.given) s turns end
  pub history : WhereTold before.disk (IsHistoryOf (file_of before.disk) first.seen)
  pub some : 1 ≤ length first.seen
  pub images : WhereTold before.disk (LeavesLeft after.disk.may_leave last.seen last.left)
  pub keeps : WhereTold before.disk (KeepsHistory last.seen last.left)
  pub tells : is_told after.disk ≡ is_told before.disk
  pub stops : 0 < last.stops → Rose before.disk.faults after.disk.faults

-- The archive wasn't opened, for this fault: nothing was read from the source or written on the sink, the clock wasn't
-- asked, and the disk was given no write.
pub record NotOpened (before after : Place) (trail : Option (List Turn)) (fault : StartFault) : Type 0 where
  pub no_trail : trail ≡ None
  pub source : after.source ≡ before.source
  pub sink : after.sink ≡ before.sink
  pub given : after.given ≡ before.given
  pub disk : WritesNothing before.disk after.disk (fault ≡ start.DiskFault)
  pub why : WhereTold before.disk (ExplainsStart (file_of before.disk) fault)

-- a session that ended so, with its turns, in which no command was stopped by the disk
pub record Calm (s : Setting) (before after : Place) (trail : Option (List Turn)) (end : SessionEnd) : Type 0 where
  pub turns : List Turn
  pub trail_is : trail ≡ Some turns
  pub talked : HasTalked s before after turns end
  pub no_stop : talked.last.stops ≡ 0

-- a session in which a command was stopped by the disk, however it ended
pub record Stopped (s : Setting) (before after : Place) (trail : Option (List Turn)) : Type 0 where
  pub turns : List Turn
  pub trail_is : trail ≡ Some turns
  pub end : SessionEnd
  pub talked : HasTalked s before after turns end
  pub stopped : 0 < talked.last.stops

-- neither the source nor the sink failed
pub record NoneFailed (before after : Place) : Type 0 where
  pub source : Rose before.source.faults after.source.faults → ⊥
  pub sink : Rose before.sink.faults after.sink.faults → ⊥

-- a session without a stop and without a fault of a stream, that ended so
pub record Undisturbed (s : Setting) (before after : Place) (trail : Option (List Turn)) (end : SessionEnd) : Type 0 where
  pub calm : Calm s before after trail end
  pub none : NoneFailed before after

-- a session without a stop, in which the source failed
pub record ReadFailed (s : Setting) (before after : Place) (trail : Option (List Turn)) : Type 0 where
  pub end : SessionEnd
  pub calm : Calm s before after trail end
  pub rose : Rose before.source.faults after.source.faults

-- a session without a stop, in which the sink failed, and the source didn't
pub record WriteFailed (s : Setting) (before after : Place) (trail : Option (List Turn)) : Type 0 where
  pub end : SessionEnd
  pub calm : Calm s before after trail end
  pub source : Rose before.source.faults after.source.faults → ⊥
  pub rose : Rose before.sink.faults after.sink.faults

-- the counts of the source and the sink had no room together for another fault, so that it isn't known which of them
-- failed
pub record HasLostCount (s : Setting) (before after : Place) (trail : Option (List Turn)) : Type 0 where
  pub undisturbed : Undisturbed s before after trail session.LinkFault
  pub full : 18_446_744_073_709_551_615 ≤ before.source.faults + before.sink.faults

-- How it ends, and what that leaves: the archive isn't opened; else a stopped command counts before a fault of the source,
-- that before one of the sink, that before want of memory, and that before a request that is cut.
abbrev pub TalkRow : Setting → Place → Place → Option (List Turn) → Result (Unit {0}) TalkStop → Type 0
TalkRow s before after trail (Ok done) = Undisturbed s before after trail session.Closed
TalkRow s before after trail (Err RequestCut) = Undisturbed s before after trail session.Cut
TalkRow s before after trail (Err ReadFault) = ReadFailed s before after trail
TalkRow s before after trail (Err WriteFault) = WriteFailed s before after trail
TalkRow s before after trail (Err DiskFault) = NotOpened before after trail start.DiskFault ⊎ Stopped s before after trail
TalkRow s before after trail (Err OutOfMemory) =
    NotOpened before after trail start.OutOfMemory ⊎ (Undisturbed s before after trail session.Memory ⊎ HasLostCount s before after trail)
TalkRow s before after trail (Err NotAJournal) = NotOpened before after trail start.NotAJournal
TalkRow s before after trail (Err (Damaged at)) = NotOpened before after trail (start.Damaged at)
