-- Why an archive isn't opened.
use Rattle.std.specs.Prelude.{◌≡◌, ◌≢◌, ◌⊎◌, ℕ, ◌+◌, ◌-◌, ◌<◌, ◌≤◌, List, [], length, take, Some, None, slice_get, false, Result, Ok, Err, ⊤}
use Rattle.disk_model.specs.Effects.{IsNotWritten}
use Rattle.disk_model.specs.View.{DiskView, WhereTold, IsOnlyImage, file_of}
use Rattle.archive_journal.specs.Frames.{no_journal, damaged_at, Holds, reading_of}
use Rattle.archive_journal.specs.Journal.{gate_of}
use Rattle.archive_journal.specs.declared.fault.ReadFault.{ReadFault}
use Rattle.archive_journal.specs.declared.fault.ReadFault.TheVariants as read
use Rattle.archive_journal.specs.declared.fault.RecoverFault.{RecoverFault}
use Rattle.archive_journal.specs.declared.fault.RecoverFault.TheVariants as recover
use Rattle.archive_entry.specs.declared.entry.Entry.{Entry}
use Rattle.archive_state.specs.Admits.{IsAdmit}
use Rattle.archive_state.specs.declared.admit.Admit.{Admit}
use Rattle.archive_log.specs.Archive.{Archived}
use Rattle.archive_log.specs.Histories.{IsHistory, SpellsNext, IsHistoryOf, payloads_of}
use Rattle.archive_log.specs.declared.fault.EntryReadFault.{EntryReadFault}
use Rattle.archive_log.specs.declared.fault.EntryReadFault.TheVariants as entry
use Rattle.archive_log.specs.declared.fault.StartFault.{StartFault}
use Rattle.archive_log.specs.declared.fault.StartFault.TheVariants.{DiskFault, NotAJournal, Damaged, OutOfMemory}

-- the payload spells no entry that may come next
abbrev pub SpellsNoNext : List Entry → List ℕ → Type 0
SpellsNoNext h payload = (e : Entry) → ¬ SpellsNext h payload e

-- payload n spells no entry that may come next, and its gate is at this offset
pub record IsBadPayload (h : List Entry) (payloads : List (List ℕ)) (n at : ℕ) : Type 0 where
  pub at_is : at ≡ gate_of payloads n
  pub no_next : (payload : List ℕ) → slice_get payloads (n - 1) ≡ Some payload → SpellsNoNext h payload

-- The first payloads, as many as it has entries, spell a history, and the one behind them, whose gate is at this
-- offset, spells no entry that may come next; or there is no payload.
pub record IsBadAt (payloads : List (List ℕ)) (at : ℕ) : Type 0 where
  pub history : List Entry
  pub is_history : IsHistory history
  pub before : payloads_of history ≡ take (length history) payloads
  pub bad : IsBadPayload history payloads (length history + 1) at
  pub there : (length history < length payloads) ⊎ (payloads ≡ [])

-- the file opens with this history, which has at least one entry
pub record OpensWith (file : List ℕ) (h : List Entry) : Type 0 where
  pub history : IsHistoryOf file h
  pub some : 1 ≤ length h

-- there are payloads, and they are bad at this offset
pub record IsBadJournal (file : List ℕ) (at : ℕ) : Type 0 where
  pub payloads : List (List ℕ)
  pub holds : Holds payloads file
  pub bad : IsBadAt payloads at

-- the file's bytes have the fault; those that the bytes don't have are free or can't come
abbrev pub HasFaultOr : (Other : Type 0) → List ℕ → StartFault → Type 0
HasFaultOr Other file DiskFault = Other
HasFaultOr Other file NotAJournal = reading_of file ≡ no_journal
HasFaultOr Other file (Damaged at) = (reading_of file ≡ damaged_at at) ⊎ IsBadJournal file at
HasFaultOr Other file OutOfMemory = Other

-- why the file's bytes are no archive
abbrev pub IsStartFault : List ℕ → StartFault → Type 0
IsStartFault file fault = HasFaultOr ⊥ file fault

-- a fault that the file's bytes have, or that has another cause: the disk's, or want of memory
abbrev pub ExplainsStart : List ℕ → StartFault → Type 0
ExplainsStart file fault = HasFaultOr ⊤ file fault

-- how a fault of the journal is told
abbrev pub from_read : ReadFault → StartFault
from_read read.DiskFault = DiskFault
from_read read.OutOfMemory = OutOfMemory

abbrev pub told_of_read : ReadFault → EntryReadFault
told_of_read read.DiskFault = entry.DiskFault
told_of_read read.OutOfMemory = entry.OutOfMemory

abbrev pub from_recover : RecoverFault → StartFault
from_recover recover.DiskFault = DiskFault
from_recover recover.NotAJournal = NotAJournal
from_recover (recover.Damaged at) = Damaged at
from_recover recover.OutOfMemory = OutOfMemory

-- a file of a replica: without a byte it is one of no entry yet, and else it is a journal of a history, of no entry too
abbrev pub IsReplicaOf : List ℕ → List Entry → Type 0
IsReplicaOf file h = ((file ≡ []) × (h ≡ [])) ⊎ IsHistoryOf file h

-- why the bytes of a file are no replica: there are bytes, and they are no journal; or the journal is damaged, or one of its
-- payloads spells no entry that may come next
abbrev pub ExplainsOpen : List ℕ → StartFault → Type 0
ExplainsOpen file DiskFault = ⊤
ExplainsOpen file NotAJournal = (1 ≤ length file) × (reading_of file ≡ no_journal)
ExplainsOpen file (Damaged at) = (reading_of file ≡ damaged_at at) ⊎ ((bad : IsBadJournal file at) × (1 ≤ length bad.payloads))
ExplainsOpen file OutOfMemory = ⊤

-- a file with bytes is given no write and no cut
abbrev pub OpensUnwritten : DiskView → DiskView → Type 0
OpensUnwritten old new = 1 ≤ length (file_of old) → IsNotWritten old new

-- What an opening gives that is done: an archive that runs, with nothing in hand, its entries, which are a history, and what
-- judges the next one.
pub record IsOpened {D : Type 0} (view : D → DiskView) (archive : Archived D) (entries : List Entry) (admit : Admit) : Type 0 where
  pub history : IsHistory entries
  pub admits : IsAdmit admit entries
  pub counted : archive.count ≡ length entries
  pub same : WhereTold (view archive.disk) (archive.history ≡ entries)
  pub running : archive.stopped ≡ false
  pub hand : archive.hand ≡ None
  pub faults : archive.faults ≤ (view archive.disk).faults

-- What a start gives that is done: the same, with one entry at least.
pub record IsStarted {D : Type 0} (view : D → DiskView) (archive : Archived D) (entries : List Entry) (admit : Admit) : Type 0 where
  pub history : IsHistory entries
  pub some : 1 ≤ length entries
  pub admits : IsAdmit admit entries
  pub counted : archive.count ≡ length entries
  pub same : WhereTold (view archive.disk) (archive.history ≡ entries)
  pub running : archive.stopped ≡ false
  pub hand : archive.hand ≡ None
  pub faults : archive.faults ≤ (view archive.disk).faults

-- the disk that a start gives back, with the archive or with its fault
abbrev pub disk_of : {D A B F : Type 0} → Result (Archived D × A × B) (D × F) → D
disk_of (Ok opened) = opened.0.disk
disk_of (Err refused) = refused.0

-- what a start answers, without the disk that its fault gives back
abbrev pub outcome_of : {T D F : Type 0} → Result T (D × F) → Result T F
outcome_of (Ok opened) = Ok opened
outcome_of (Err refused) = Err refused.1

-- unless the disk failed, the one image is this file
abbrev pub IsSyncedUnlessFailed : {T : Type 0} → DiskView → List ℕ → Result T StartFault → Type 0
IsSyncedUnlessFailed view file (Ok opened) = IsOnlyImage view file
IsSyncedUnlessFailed view file (Err fault) = fault ≢ DiskFault → IsOnlyImage view file
