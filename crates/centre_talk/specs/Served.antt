-- A session over a desk and two streams, and what it leaves.
use Rattle.std.specs.Prelude.{◌≡◌, ◌↔◌, ◌<◌, Bool, true, List, Option, IsTrue}
use Rattle.exact_time.specs.Causes.{Rose}
use Rattle.exact_time.specs.declared.moment.Moment.{Moment}
use Rattle.desk_words.specs.Setting.{Setting}
use Rattle.desk_words.specs.Stand.{Stand}
use Rattle.disk_model.specs.View.{DiskView, is_told}
use Rattle.http_wire.specs.declared.turn.Turn.{Turn}
use Rattle.archive_post.specs.Leaving.{LeavesLeft, KeepsHistory}
use Rattle.streams.specs.View.{StreamView}
use Rattle.centre_session.specs.Session.{Scene, scene, SessionRow}
use Rattle.centre_session.specs.declared.ending.SessionEnd.{SessionEnd}

-- a session over a desk and two streams that ended so
pub record RowOver (s : Setting) (before after : Scene) (turns : List Turn) (end : SessionEnd) : Type 0 where
  pub row : SessionRow before after s turns end

-- A session from this moment on that ended so, with the link and the clock as they are then, and the disk that the desk
-- gave back. Every file that a crash then leaves is a journal of what the desk saw last, with or without what it left, and that
-- is a history in which what was left comes next.
-- Whether a command was stopped is known; one was only where the disk failed since it was opened.
pub record ServedOver (s : Setting) (before : Scene) (link : StreamView) (given : Option (List Moment)) (disk : DiskView) (turns : List Turn) (end : SessionEnd) (stopped : Bool) : Type 0 where
  pub last : Stand
  pub over : RowOver s before (scene last link given) turns end
  pub images : last.footing.told ≡ true → LeavesLeft disk.may_leave last.seen last.left
  pub keeps : last.footing.told ≡ true → KeepsHistory last.seen last.left
  pub tells : is_told disk ≡ last.footing.told
  pub cause : 0 < last.stops → Rose last.footing.faults disk.faults
  pub stopped_is : IsTrue stopped ↔ (0 < last.stops)
