-- For which history an archive takes commands.
use Rattle.std.specs.Prelude.{◌≡◌, true, false, List, ◌++◌, length}
use Rattle.disk_model.specs.View.{DiskView, WhereTold}
use Rattle.archive_entry.specs.declared.entry.Entry.{Entry}
use Rattle.archive_state.specs.Admits.{IsAdmit}
use Rattle.archive_state.specs.Lawful.{IsLawful, is_next}
use Rattle.archive_post.specs.Waiting.{are_both, committed, noted_of, waits}
use Rattle.archive_post.specs.declared.kept.Intake.{Intake}

-- The intake stands for a lawful history: the one that was taken over. What waits comes next in it; the journal holds
-- both; judging stands for the history, with what waits once that is noted; and nothing waits where a commit failed.
pub record StandsFor {D : Type 0} (view : D → DiskView) (intake : Intake D) (h : List Entry) : Type 0 where
  pub lawful : IsLawful h
  pub waits : waits h intake.waiting ≡ true
  pub judges : IsAdmit intake.admit (h ++ noted_of intake.noted intake.waiting)
  pub counted : intake.archive.count ≡ length (committed h intake.waiting)
  pub history : WhereTold (view intake.archive.disk) (intake.archive.history ≡ committed h intake.waiting)
  pub apart : are_both intake.waiting intake.archive.hand ≡ false

-- it stands for some history
abbrev pub StandsForSome : {D : Type 0} (view : D → DiskView) (intake : Intake D) → Type 0
StandsForSome view intake = (h : List Entry) × StandsFor view intake h

-- the entry comes next in a history for which it stands
pub record ComesNext {D : Type 0} (view : D → DiskView) (intake : Intake D) (e : Entry) : Type 0 where
  pub history : List Entry
  pub stands : StandsFor view intake history
  pub next : is_next history e ≡ true
