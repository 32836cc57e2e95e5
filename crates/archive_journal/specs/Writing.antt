-- What the writes of a journal do to its file, and a crash leaves of it.
use Rattle.std.specs.Prelude.{◌≡◌, ℕ, List, [], ◌∷◌, ◌++◌, length, Result, OnOk, OnErr, IfErr, IsErr, IsErrOf}
use Rattle.disk_model.specs.Disk.{Torn, Leaves}
use Rattle.disk_model.specs.View.{DiskView, IsSynced, AlwaysLeaves, DiskRun, file_of}
use Rattle.archive_journal.specs.Frames.{magic, closed_gate, front_of, IsJournal}
use Rattle.archive_journal.specs.Journal.{added_to, IsJournalWithOrWithout}
use Rattle.archive_journal.specs.Faults.{ExplainsInit}
use Rattle.archive_journal.specs.declared.fault.InitFault.{InitFault}
use Rattle.archive_journal.specs.declared.fault.InitFault.TheVariants.{DiskFault, NotEmpty}

-- An empty journal is made in an empty file: the magic and a closed gate, all of it on the disk. A file with
-- bytes stays as it is; where the disk failed, any part of the first 17 bytes may have been written.
pub record IsMadeEmpty {T : Type 0} (old new : DiskView) (outcome : Result T InitFault) : Type 0 where
  pub empty : OnOk outcome (file_of old ≡ [])
  pub written : OnOk outcome (file_of new ≡ magic ++ closed_gate ∷ [])
  pub synced : OnOk outcome (IsSynced new)
  pub fault : IfErr outcome (ExplainsInit (file_of old))
  pub kept : (len : ℕ) → IsErrOf outcome (NotEmpty len) → (file_of new ≡ file_of old) × Leaves new.may_leave old.may_leave × Leaves old.may_leave new.may_leave
  pub torn : OnErr outcome (Torn 0 17 (file_of old) (file_of new))

-- the calls that make it
abbrev pub MakesEmpty : {T : Type 0} → DiskView → DiskView → Result T InitFault → Type 0
MakesEmpty old new outcome = DiskRun old new (IsErrOf outcome DiskFault) (IsMadeEmpty old new outcome)

-- A frame is added at the closed gate of a journal, which stands there: at every moment every image is a
-- journal of its payloads, or of these and the frame's.
pub record IsFrameAdded {T E : Type 0} (gate : ℕ) (payload : List ℕ) (old new : DiskView) (result : Result T E) : Type 0 where
  pub written : OnOk result (file_of new ≡ added_to (file_of old) gate payload)
  pub durable : OnOk result (IsSynced new)
  pub any_moment : (payloads : List (List ℕ)) → IsJournal payloads (file_of old) → gate ≡ length (front_of payloads) → AlwaysLeaves old new (IsJournalWithOrWithout payloads payload)
  pub now : (payloads : List (List ℕ)) → IsJournal payloads (file_of old) → gate ≡ length (front_of payloads) → Leaves new.may_leave (IsJournalWithOrWithout payloads payload)

-- the calls that add it
abbrev pub AddsFrame : {T E : Type 0} → ℕ → List ℕ → DiskView → DiskView → Result T E → Type 0
AddsFrame gate payload old new result = DiskRun old new (IsErr result) (IsFrameAdded gate payload old new result)
