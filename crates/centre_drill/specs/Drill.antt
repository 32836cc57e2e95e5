-- What a drill leaves, by how it ended.
use Rattle.std.specs.Prelude.{◌≡◌, ℕ, ◌<◌, List, [], length, Result, Ok, Err}
use Rattle.exact_time.specs.Causes.{Rose}
use Rattle.disk_model.specs.Disk.{Leaves}
use Rattle.disk_model.specs.View.{DiskView, DiskRun, file_of}
use Rattle.archive_entry.specs.declared.entry.Entry.{Entry}
use Rattle.archive_log.specs.Histories.{Recovers, IsHistoryOf}
use Rattle.archive_log.specs.declared.fault.FoundFault.{FoundFault}
use Rattle.archive_log.specs.declared.fault.FoundFault.TheVariants as found
use Rattle.streams.specs.View.{StreamView}
use Rattle.streams.specs.Effects.{Grew, WritesPart}
use Rattle.centre_drill.specs.Figures.{figures_of, figures_text}
use Rattle.centre_drill.specs.History.{made_history}
use Rattle.centre_drill.specs.Making.{IsKept}
use Rattle.centre_drill.specs.declared.figures.Figures.{Figures}
use Rattle.centre_drill.specs.declared.ending.DrillStop.{DrillStop}
use Rattle.centre_drill.specs.declared.ending.DrillStop.TheVariants.{WriteFault, DiskFault, NotEmpty, OutOfMemory}

-- how a fault of founding ends it
abbrev pub stop_for_founding : FoundFault → DrillStop
stop_for_founding found.DiskFault = DiskFault
stop_for_founding (found.NotEmpty length) = NotEmpty length
stop_for_founding found.OutOfMemory = OutOfMemory

-- figures were written, or a first part of them where the sink failed; with no other stop anything was
abbrev pub TellsFigures : Figures → StreamView → StreamView → Result (Unit {0}) DrillStop → Type 0
TellsFigures figures old new (Ok done) = Grew old.written new.written (figures_text figures)
TellsFigures figures old new (Err WriteFault) =
    Rose old.faults new.faults × WritesPart old.written new.written (figures_text figures)
TellsFigures figures old new (Err OutOfMemory) = new ≡ old
TellsFigures figures old new (Err _) = ⊥

-- the file is a journal of this history, and so is every image
pub record HoldsHistory (view : DiskView) (h : List Entry) : Type 0 where
  pub history : IsHistoryOf (file_of view) h
  pub images : Leaves view.may_leave (Recovers h)

-- the archive of so many records was made in an empty file
pub record IsArchiveMade (count : ℕ) (old new : DiskView) : Type 0 where
  pub empty : file_of old ≡ []
  pub holds : HoldsHistory new (made_history count)

-- all is done, or the sink failed when the archive was made: it is on the disk
pub record HasDrilled (count : ℕ) (sink sunk : StreamView) (disk left : DiskView) (ending : Result (Unit {0}) DrillStop) : Type 0 where
  pub made : DiskRun disk left ⊥ (IsArchiveMade count disk left)
  pub told : TellsFigures (figures_of (made_history count)) sink sunk ending

-- nothing was written on the sink; the disk failed where this is so, and else this is so, where it tells
pub record HasStopped (sink sunk : StreamView) (disk left : DiskView) (Failed Told : Type 0) : Type 0 where
  pub silent : sunk ≡ sink
  pub run : DiskRun disk left Failed Told

-- the file had so many bytes, and is as it was
pub record WasNotEmpty (disk left : DiskView) (len : ℕ) : Type 0 where
  pub len_is : len ≡ length (file_of disk)
  pub some : 0 < len
  pub kept : IsKept disk left

-- How it ends, and what that leaves.
abbrev pub DrillRow : ℕ → (sink sunk : StreamView) → (disk left : DiskView) → Result (Unit {0}) DrillStop → Type 0
DrillRow count sink sunk disk left (Ok done) = HasDrilled count sink sunk disk left (Ok done)
DrillRow count sink sunk disk left (Err WriteFault) = HasDrilled count sink sunk disk left (Err WriteFault)
DrillRow count sink sunk disk left (Err DiskFault) = HasStopped sink sunk disk left (Unit {0}) (Unit {0})
DrillRow count sink sunk disk left (Err (NotEmpty len)) = HasStopped sink sunk disk left ⊥ (WasNotEmpty disk left len)
DrillRow count sink sunk disk left (Err OutOfMemory) = HasStopped sink sunk disk left ⊥ (Unit {0})
