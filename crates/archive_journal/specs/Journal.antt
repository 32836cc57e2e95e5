-- An open journal, as contracts see it, and what its type keeps.
use Rattle.std.specs.Prelude.{◌≡◌, ◌⊎◌, ℕ, ◌+◌, ◌-◌, ◌^◌, ◌<◌, ◌≤◌, List, [], ◌∷◌, ◌++◌, length, take, Bool, true, false, Result, Ok, Err, OnOk, OnErr, IfOk}
use Rattle.std.specs.List.{AllByRecursion}
use Rattle.exact_time.specs.Causes.{Rose}
use Rattle.disk_model.specs.Disk.{overwritten, Leaves}
use Rattle.disk_model.specs.View.{DiskView, WhereTold, IsSynced, AlwaysLeaves, file_of}
use Rattle.disk_model.specs.Effects.{OnlyReads}
use Rattle.archive_journal.specs.Frames.{Reading, holding, reading_of, open_gate, closed_gate, body_of, front_of, IsSized, IsJournal, Holds, HoldsWithOrWithout}

-- A journal that is open: its disk, its payloads and their number, for how many more it has room, whether
-- a commit failed, and how often the disk had failed when it was opened. The payloads are those of a disk
-- that tells.
pub record Opened (D : Type 0) : Type 0 where
  pub disk : D
  pub payloads : List (List ℕ)
  pub count : ℕ
  pub spare : ℕ
  pub stopped : Bool
  pub faults : ℕ

-- the offset of the gate of payload n, counted from 1
abbrev pub gate_of : List (List ℕ) → ℕ → ℕ
gate_of payloads n = length (front_of (take (n - 1) payloads))

-- the disk that a call gives back, with the journal or with its fault
abbrev pub disk_in : {D F : Type 0} → Result (Opened D) (D × F) → D
disk_in (Ok journal) = journal.disk
disk_in (Err refused) = refused.0

-- what a call answers, without the disk that its fault gives back
abbrev pub outcome_in : {D F : Type 0} → Result (Opened D) (D × F) → Result (Opened D) F
outcome_in (Ok journal) = Ok journal
outcome_in (Err refused) = Err refused.1

-- a file to which a frame was added at its closed gate: the frame and the next closed gate are written
-- behind it, and then it is opened
abbrev pub added_to : List ℕ → ℕ → List ℕ → List ℕ
added_to file gate payload = overwritten (overwritten file (gate + 1) (body_of payload ++ closed_gate ∷ [])) gate (open_gate ∷ [])

-- What an open journal is, over a disk that tells: it counts its payloads, and a crash now leaves them; or,
-- where a commit failed, these, or these and the one that was in hand. A call that gives the disk nothing
-- keeps at every moment what a commit of any payload would keep.
pub record Keeps {D : Type 0} (view : D → DiskView) (journal : Opened D) : Type 0 where
  pub counted : journal.count ≡ length journal.payloads
  pub running : journal.stopped ≡ false → Leaves (view journal.disk).may_leave (Holds journal.payloads)
  pub rest : journal.stopped ≡ false → (payload : List ℕ) → AlwaysLeaves (view journal.disk) (view journal.disk) (HoldsWithOrWithout journal.payloads payload)
  pub halted : journal.stopped ≡ true → (hand : List ℕ) × Leaves (view journal.disk).may_leave (HoldsWithOrWithout journal.payloads hand)

-- From one moment to another a journal was only read: it has the same payloads, and gave its disk neither a
-- write nor a sync, so that the images are the same, neither more nor fewer. What says that the disk failed
-- is given. The relation is closed under "and then" (`proofs/JournalReads.antt`).
pub record WasRead {D : Type 0} (view : D → DiskView) (old new : Opened D) (Failed : Type 0) : Type 0 where
  pub disk : OnlyReads (view old.disk) (view new.disk) Failed
  pub payloads : WhereTold (view old.disk) (new.payloads ≡ old.payloads)
  pub same : new ≡ record old { disk = new.disk; payloads = new.payloads }

-- What a commit does, over a disk that tells. Unless an earlier one had failed, at every moment since its
-- start every image has the payloads of before, or those with this one; so it is where the disk failed, too.
-- After Ok every image has the payload.
pub record IsCommit {D E : Type 0} (view : D → DiskView) (payload : List ℕ) (old new : Opened D) (result : Result ℕ E) : Type 0 where
  pub any_moment : old.stopped ≡ false → AlwaysLeaves (view old.disk) (view new.disk) (HoldsWithOrWithout old.payloads payload)
  pub left : old.stopped ≡ false → Leaves (view new.disk).may_leave (HoldsWithOrWithout old.payloads payload)
  pub added : OnOk result (new.payloads ≡ old.payloads ++ payload ∷ [])
  pub durable : OnOk result (Leaves (view new.disk).may_leave (Holds new.payloads))
  pub written : OnOk result (file_of (view new.disk) ≡ added_to (file_of (view old.disk)) (gate_of old.payloads (old.count + 1)) payload)
  pub last : IfOk result (λ n. n ≡ length new.payloads)
  pub payloads : OnErr result (new.payloads ≡ old.payloads)

-- the offset of each payload's gate, where the first stands here
abbrev pub gates_from : ℕ → List (List ℕ) → List ℕ
gates_from at [] = []
gates_from at (payload ∷ payloads) = at ∷ gates_from (at + 5 + length payload) payloads

-- the payloads that a reading holds
abbrev pub payloads_in : Reading → List (List ℕ)
payloads_in (holding payloads) = payloads
payloads_in _ = []

-- the first payloads of a file, so many
abbrev pub first_payloads : ℕ → List ℕ → List (List ℕ)
first_payloads count file = take count (payloads_in (reading_of file))

-- where the gates of these payloads stand, and the closed gate behind them
pub record HasGatesAt (payloads : List (List ℕ)) (offsets : List ℕ) (end : ℕ) : Type 0 where
  pub sized : AllByRecursion IsSized payloads
  pub offsets_are : offsets ≡ gates_from 16 payloads
  pub end_is : end ≡ length (front_of payloads)

-- the file is a journal of these payloads, or of these and one more
abbrev pub IsJournalWithOrWithout : List (List ℕ) → List ℕ → List ℕ → Type 0
IsJournalWithOrWithout payloads payload file = IsJournal payloads file ⊎ IsJournal (payloads ++ payload ∷ []) file

-- a read gives a journal of these payloads, and all of it is on the disk
pub record IsOnDisk (view : DiskView) (payloads : List (List ℕ)) (offsets : List ℕ) (end : ℕ) : Type 0 where
  pub placed : HasGatesAt payloads offsets end
  pub journal : IsJournal payloads (file_of view)
  pub synced : IsSynced view

-- each image is a journal of these payloads, or of these and the one that was in hand when a commit failed
pub record IsHalted (view : DiskView) (payloads : List (List ℕ)) (offsets : List ℕ) (end : ℕ) : Type 0 where
  pub placed : HasGatesAt payloads offsets end
  pub hand : List ℕ
  pub either : Leaves view.may_leave (IsJournalWithOrWithout payloads hand)

-- what the type of a journal keeps of its disk, which had failed so often when it was opened
pub record IsOpenJournal (view : DiskView) (faults : ℕ) (offsets : List ℕ) (end : ℕ) (stopped : Bool) : Type 0 where
  pub fits : end < 2 ^ 63
  pub settled : WhereTold view (stopped ≡ false → IsOnDisk view (first_payloads (length offsets) (file_of view)) offsets end)
  pub halted : WhereTold view (stopped ≡ true → IsHalted view (first_payloads (length offsets) (file_of view)) offsets end)
  pub later : faults ≤ view.faults
  pub cause : stopped ≡ true → Rose faults view.faults
