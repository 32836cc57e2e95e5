-- What each verdict says of the history and of the command.
use Rattle.std.specs.Prelude.{◌≡◌, ◌⊎◌, ℕ, ◌+◌, ◌<◌, ◌≤◌, true, false, List, [], length, Some, None}
use Rattle.epochs.specs.Lines.{LineValues}
use Rattle.epochs.specs.Revisions.{IsRevision, IsRevisionFault}
use Rattle.epochs.specs.declared.fault.LineFault.{LineFault}
use Rattle.epochs.specs.declared.fault.RevisionFault.TheVariants as revision
use Rattle.epoch_rules.specs.Kept.{AreKept, IsFirstBroken}
use Rattle.epoch_rules.specs.declared.rule.Rule.{Rule}
use Rattle.mseed_header.specs.Records.{HasRecordCount, IsRefusedFirst}
use Rattle.mseed_header.specs.declared.header.RecordFault.{RecordFault}
use Rattle.mseed_header.specs.declared.header.RecordFault.TheVariants.{Short}
use Rattle.archive_entry.specs.declared.entry.Entry.{Entry}
use Rattle.archive_entry.specs.declared.entry.Kind.TheVariants.{Batch, Revise}
use Rattle.archive_state.specs.History.{live_of, records_of, bytes_of, earlier_of, last_seq, may_post}
use Rattle.archive_state.specs.Lines.{line_number}
use Rattle.archive_state.specs.Verdicts.{Command}
use Rattle.archive_state.specs.declared.limits.Limits.{Limits}
use Rattle.archive_state.specs.declared.verdict.Verdict.{Verdict}
use Rattle.archive_state.specs.declared.verdict.Verdict.TheVariants.{Denied, Role, Repeat, OtherBody, Gap, BadRecord, BadLine, Broken, FullRecords, FullBytes, Accept}

-- the author's entry with that sequence number, which has this number
pub record IsEarlier (h : List Entry) (c : Command) (number : ℕ) (e : Entry) : Type 0 where
  pub found : earlier_of h c.author c.seq ≡ Some e
  pub number_is : e.number ≡ number

-- it brought the same
abbrev pub BringsSame : Entry → Command → Type 0
BringsSame e c = (e.kind ≡ c.kind) × (e.body ≡ c.body)

-- the command is new, and it is the next one of its author, or earlier
pub record IsNew (h : List Entry) (c : Command) : Type 0 where
  pub none : earlier_of h c.author c.seq ≡ None
  pub follows : c.seq ≤ last_seq h c.author + 1

-- the body is a batch of so many records, at least one
pub record IsBatchOf (c : Command) (count : ℕ) : Type 0 where
  pub kind_is : c.kind ≡ Batch
  pub some : ¬ (c.body ≡ [])
  pub records : HasRecordCount c.body count

-- the body is a revision of lines that keep the rules
pub record IsRevisionOf (h : List Entry) (c : Command) (lines : List LineValues) : Type 0 where
  pub kind_is : c.kind ≡ Revise
  pub spelled : IsRevision c.body lines
  pub kept : AreKept (live_of h) lines

-- no record, or one is refused
abbrev pub IsBadBatch : List ℕ → ℕ × RecordFault → Type 0
IsBadBatch body found = ((body ≡ []) × (found ≡ (0, Short))) ⊎ IsRefusedFirst body found

-- the line of this number spells nothing
pub record IsBadLine (c : Command) (line : ℕ) (fault : LineFault) : Type 0 where
  pub kind_is : c.kind ≡ Revise
  pub bad : IsRevisionFault c.body (revision.Bad line fault)

-- the line of this number is the first that breaks a rule
pub record IsBrokenLine (h : List Entry) (c : Command) (line : ℕ) (rule : Rule) : Type 0 where
  pub kind_is : c.kind ≡ Revise
  pub lines : List LineValues
  pub spelled : IsRevision c.body lines
  pub place : ℕ
  pub broken : IsFirstBroken (live_of h) lines place rule
  pub number_is : line ≡ line_number c.body place

-- all records with these are within the limit, as those of a revision are
abbrev pub FitsRecords : List Entry → Limits → Command → Type 0
FitsRecords h limits c =
    ((count : ℕ) × IsBatchOf c count × (records_of h + count ≤ limits.max_records))
    ⊎ ((lines : List LineValues) × IsRevisionOf h c lines)

-- all bodies with this one have so many bytes
abbrev pub bytes_with : List Entry → Command → ℕ
bytes_with h c = bytes_of h + length c.body

-- what the verdict on a command of an author says who may post it
abbrev pub SaysBeside : List Entry → Limits → Command → Verdict → Type 0
SaysBeside h limits c (Denied denial) = ⊥
SaysBeside h limits c Role = ⊥
SaysBeside h limits c (Repeat n) = (e : Entry) × IsEarlier h c n e × BringsSame e c
SaysBeside h limits c (OtherBody n) = (e : Entry) × IsEarlier h c n e × (¬ (BringsSame e c))
SaysBeside h limits c (Gap last) = (earlier_of h c.author c.seq ≡ None) × (last ≡ last_seq h c.author) × (last + 1 < c.seq)
SaysBeside h limits c (BadRecord at fault) = IsNew h c × (c.kind ≡ Batch) × IsBadBatch c.body (at, fault)
SaysBeside h limits c (BadLine line fault) = IsNew h c × IsBadLine c line fault
SaysBeside h limits c (Broken line rule) = IsNew h c × IsBrokenLine h c line rule
SaysBeside h limits c (FullRecords n) = IsNew h c × ((count : ℕ) × IsBatchOf c count × (n ≡ records_of h + count)) × (limits.max_records < n)
SaysBeside h limits c (FullBytes n) = IsNew h c × FitsRecords h limits c × (n ≡ bytes_with h c) × (limits.max_archive < n)
SaysBeside h limits c (Accept n) = IsNew h c × FitsRecords h limits c × (bytes_with h c ≤ limits.max_archive) × (n ≡ length h + 1)

-- what a verdict on a command of an author says
abbrev pub Says : List Entry → Limits → Command → Verdict → Type 0
Says h limits c verdict =
    ((may_post (live_of h) c.author c.kind ≡ false) × (verdict ≡ Role))
    ⊎ ((may_post (live_of h) c.author c.kind ≡ true) × SaysBeside h limits c verdict)
