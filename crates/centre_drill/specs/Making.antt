-- What is known while an archive is made.
use Rattle.std.specs.Prelude.{◌≡◌, ℕ, ◌<◌, List, [], length, true, false, None, Result, Ok, Err, IfErr, OnOk, IsErrOf, ⊤}
use Rattle.disk_model.specs.Disk.{Leaves}
use Rattle.disk_model.specs.View.{DiskView, DiskRun, file_of}
use Rattle.archive_entry.specs.declared.entry.Entry.{Entry}
use Rattle.archive_post.specs.Intake.{StandsFor}
use Rattle.archive_post.specs.declared.kept.Intake.{Intake}
use Rattle.centre_drill.specs.declared.ending.DrillStop.{DrillStop}
use Rattle.centre_drill.specs.declared.ending.DrillStop.TheVariants.{WriteFault, DiskFault, NotEmpty, OutOfMemory}
use Rattle.centre_drill.specs.declared.making.Making.{Making}

-- an archive that runs and takes commands for the history of a state, which has all that was committed
pub record IsUnderWay {D : Type 0} (view : D → DiskView) (intake : Intake D) (state : List Entry) : Type 0 where
  pub running : intake.archive.stopped ≡ false
  pub stands : StandsFor view intake state
  pub nothing : (intake.waiting ≡ None) × (intake.noted ≡ true)

-- some calls of a disk, which failed where this is so
abbrev pub Runs : DiskView → DiskView → Type 0 → Type 0
Runs old new Failed = DiskRun old new Failed ⊤

-- the stops that come when an archive is begun: the disk's failure and want of memory
abbrev pub IsMakingStop : DrillStop → Type 0
IsMakingStop WriteFault = ⊥
IsMakingStop DiskFault = ⊤
IsMakingStop (NotEmpty len) = ⊥
IsMakingStop OutOfMemory = ⊤

-- the sink is called when the archive is made
abbrev pub IsSilentStop : DrillStop → Type 0
IsSilentStop WriteFault = ⊥
IsSilentStop DiskFault = ⊤
IsSilentStop (NotEmpty len) = ⊤
IsSilentStop OutOfMemory = ⊤

-- why none is begun in a file: it has bytes, so many
abbrev pub ExplainsStop : List ℕ → DrillStop → Type 0
ExplainsStop file WriteFault = ⊥
ExplainsStop file DiskFault = ⊤
ExplainsStop file (NotEmpty len) = (len ≡ length file) × (0 < len)
ExplainsStop file OutOfMemory = ⊤

-- the file reads as before, and the images are the same
pub record IsKept (old new : DiskView) : Type 0 where
  pub content : file_of new ≡ file_of old
  pub fewer : Leaves new.may_leave old.may_leave
  pub more : Leaves old.may_leave new.may_leave

-- an archive is begun in an empty file alone; a file with bytes stays as it is
pub record IsBegun {T : Type 0} (old new : DiskView) (outcome : Result T DrillStop) : Type 0 where
  pub empty : OnOk outcome (file_of old ≡ [])
  pub fault : IfErr outcome (ExplainsStop (file_of old))
  pub kept : (len : ℕ) → IsErrOf outcome (NotEmpty len) → IsKept old new

-- the calls of a disk that make an archive, or some first entries of it
abbrev pub Begins : {T : Type 0} → DiskView → DiskView → Result T DrillStop → Type 0
Begins old new outcome = DiskRun old new (IsErrOf outcome DiskFault) (IsBegun old new outcome)

-- the disk that is given back, with what is made or with why it isn't, and the answer without the disk
abbrev pub disk_left : {D : Type 0} → Result (Making D) (D × DrillStop) → D
disk_left (Ok making) = making.intake.archive.disk
disk_left (Err refused) = refused.0

abbrev pub outcome_of : {T D : Type 0} → Result T (D × DrillStop) → Result T DrillStop
outcome_of (Ok made) = Ok made
outcome_of (Err refused) = Err refused.1
