-- What the body of an entry says, by its kind.
use Rattle.std.specs.Prelude.{◌≡◌, ◌≤◌, length, ℕ, Bool, true, false, List, Option, Some, None, is_none, Result, Ok, Err}
use Rattle.list_laws.specs.Only.{IsOnly}
use Rattle.epochs.specs.Lines.{LineValues}
use Rattle.epochs.specs.Revisions.{IsRevision, IsRevisionFault}
use Rattle.epochs.specs.declared.fault.RevisionFault.{RevisionFault}
use Rattle.epochs.specs.declared.fault.RevisionFault.TheVariants as revision
use Rattle.epochs.proofs.OneRevision.{revision_or_fault}
use Rattle.archive_entry.specs.Batches.{batch_of, batch_fault}
use Rattle.archive_entry.specs.declared.entry.Kind.{Kind}
use Rattle.archive_entry.specs.declared.entry.Kind.TheVariants.{Batch, Revise}

-- The lines that a revision's body spells, or its first fault: the one right answer, which each body has (the law
-- `a_body_is_one_revision_or_one_fault` of the crate `epochs`).
unfoldable pub revision_of : List ℕ → Result (List LineValues) RevisionFault
revision_of body = (revision_or_fault body).0

pub revision_of-only : (body : List ℕ) → IsOnly (IsRevision body) (IsRevisionFault body) (revision_of body)
unfolding revision_of
revision_of-only body = (revision_or_fault body).1

abbrev pub has_lines : Result (List LineValues) RevisionFault → Bool
has_lines (Ok lines) = true
has_lines (Err fault) = false

-- the body reads by the kind: as records end to end, or as the lines of a revision
abbrev pub is_body : Kind → List ℕ → Bool
is_body Batch body = is_none (batch_fault body)
is_body Revise body = has_lines (revision_of body)

-- what an answer tells of that; want of memory tells nothing
abbrev pub told_lines : Result (List LineValues) RevisionFault → Option Bool
told_lines (Ok lines) = Some true
told_lines (Err (revision.Bad line fault)) = Some false
told_lines (Err revision.OutOfMemory) = None

-- the body of a batch is so many records, end to end; a revision has none
abbrev pub HasRecords : Kind → List ℕ → ℕ → Type 0
HasRecords Batch body n = batch_of body ≡ Ok n
HasRecords Revise body n = n ≡ 0

-- a body of the kind has so many records, each with a byte at least
pub record IsCounted (kind : Kind) (body : List ℕ) (n : ℕ) : Type 0 where
  pub count : HasRecords kind body n
  pub few : n ≤ length body
