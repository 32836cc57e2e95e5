-- The verdict on a command that is posted over a history: the first of these that holds.
use Rattle.std.specs.Prelude.{ℕ, ◌+◌, ◌==◌, ◌&&◌, Bool, true, false, List, length, Option, None, Some, Result, Ok, Err, nat_lt, if◌then◌else◌}
use Rattle.std.specs.Str.{bytes_eq}
use Rattle.exact_time.specs.declared.moment.Moment.{Moment}
use Rattle.epochs.specs.Kinds.{Text}
use Rattle.epochs.specs.Lines.{LineValues}
use Rattle.epochs.specs.declared.fault.LineFault.TheVariants.{NoLine}
use Rattle.epochs.specs.declared.fault.RevisionFault.{RevisionFault}
use Rattle.epochs.specs.declared.fault.RevisionFault.TheVariants as revision
use Rattle.epoch_rules.specs.Kept.{first_broken}
use Rattle.epoch_rules.specs.declared.rule.Rule.{Rule}
use Rattle.mseed_header.specs.declared.header.RecordFault.{RecordFault}
use Rattle.mseed_header.specs.declared.header.RecordFault.TheVariants.{Short}
use Rattle.http_digest.specs.declared.secret.Secret.{Secret}
use Rattle.access_digest.specs.Who.{who_of}
use Rattle.access_digest.specs.declared.denial.Denial.{Denial}
use Rattle.archive_entry.specs.Batches.{batch_of}
use Rattle.archive_entry.specs.Bodies.{revision_of}
use Rattle.archive_entry.specs.declared.entry.Entry.{Entry}
use Rattle.archive_entry.specs.declared.entry.Kind.{Kind}
use Rattle.archive_entry.specs.declared.entry.Kind.TheVariants.{Batch, Revise}
use Rattle.archive_state.specs.History.{live_of, records_of, bytes_of, earlier_of, last_seq, may_post}
use Rattle.archive_state.specs.Lines.{line_number}
use Rattle.archive_state.specs.declared.limits.Limits.{Limits}
use Rattle.archive_state.specs.declared.posted.Posted.{Posted}
use Rattle.archive_state.specs.declared.verdict.Verdict.{Verdict}
use Rattle.archive_state.specs.declared.verdict.Verdict.TheVariants.{Denied, Role, Repeat, OtherBody, Gap, BadRecord, BadLine, Broken, FullRecords, FullBytes, Accept}

-- a command, apart from who sent it by which credentials
pub record Command : Type 0 where
  pub author : Text
  pub seq : ℕ
  pub kind : Kind
  pub body : List ℕ

abbrev pub command : Text → ℕ → Kind → List ℕ → Command
command author seq kind body = record { author = author; seq = seq; kind = kind; body = body }

-- the command that an entry was
abbrev pub command_of : Entry → Command
command_of e = command e.author e.seq e.kind e.body

abbrev pub is_kind : Kind → Kind → Bool
is_kind Batch Batch = true
is_kind Revise Revise = true
is_kind Batch Revise = false
is_kind Revise Batch = false

-- what of a history decides on a body: its live lines, and how many entries, records and bytes it has
pub record Totals : Type 0 where
  pub live : List LineValues
  pub count : ℕ
  pub records : ℕ
  pub bytes : ℕ

abbrev pub totals : List LineValues → (count records bytes : ℕ) → Totals
totals live count records bytes = record { live = live; count = count; records = records; bytes = bytes }

abbrev pub totals_of : List Entry → Totals
totals_of h = totals (live_of h) (length h) (records_of h) (bytes_of h)

-- FullBytes: all bodies with this one have more bytes than an archive may
abbrev pub within_bytes : Totals → Limits → List ℕ → Verdict
within_bytes t limits body =
    if nat_lt limits.max_archive (t.bytes + length body) then FullBytes (t.bytes + length body)
    else Accept (t.count + 1)

-- FullRecords: all records with these are more than an archive may have
abbrev pub within_records : Totals → Limits → List ℕ → ℕ → Verdict
within_records t limits body more =
    if nat_lt limits.max_records (t.records + more) then FullRecords (t.records + more)
    else within_bytes t limits body

-- BadRecord: some record is refused
abbrev pub batch_verdict : Totals → Limits → List ℕ → Result ℕ (ℕ × RecordFault) → Verdict
batch_verdict t limits body (Err bad) = BadRecord bad.0 bad.1
batch_verdict t limits body (Ok count) = within_records t limits body count

-- Broken: a line breaks a rule over the live lines with those before it
abbrev pub kept_verdict : Totals → Limits → List ℕ → Option (ℕ × Rule) → Verdict
kept_verdict t limits body (Some broken) = Broken (line_number body broken.0) broken.1
kept_verdict t limits body None = within_bytes t limits body

-- BadLine: a line spells nothing. Want of memory is no fault of a body.
abbrev pub revise_verdict : Totals → Limits → List ℕ → Result (List LineValues) RevisionFault → Verdict
revise_verdict t limits body (Ok lines) = kept_verdict t limits body (first_broken t.live lines)
revise_verdict t limits body (Err (revision.Bad line fault)) = BadLine line fault
revise_verdict t limits body (Err revision.OutOfMemory) = BadLine 1 NoLine

-- a batch has at least one record, and a revision one line
abbrev pub body_verdict : Totals → Limits → Kind → List ℕ → Verdict
body_verdict t limits Batch body = if length body == 0 then BadRecord 0 Short else batch_verdict t limits body (batch_of body)
body_verdict t limits Revise body = revise_verdict t limits body (revision_of body)

-- Repeat, OtherBody, Gap: the author's entry with this sequence number decides where there is one; `last` is the
-- author's last number
abbrev pub beside : Totals → Limits → Command → Option Entry → (last : ℕ) → Verdict
beside t limits c (Some e) last = if is_kind e.kind c.kind && bytes_eq e.body c.body then Repeat e.number else OtherBody e.number
beside t limits c None last = if nat_lt (last + 1) c.seq then Gap last else body_verdict t limits c.kind c.body

-- Role: the author is no live user who may post this
abbrev pub judged : Totals → Limits → Command → Option Entry → (last : ℕ) → Verdict
judged t limits c earlier last = if may_post t.live c.author c.kind then beside t limits c earlier last else Role

-- the verdict on a command of that author
unfoldable pub judged_of : List Entry → Limits → Command → Verdict
judged_of h limits c = judged (totals_of h) limits c (earlier_of h c.author c.seq) (last_seq h c.author)

-- Denied: the credentials name no user
abbrev pub verdict_by : List Entry → Limits → Posted → Result Text Denial → Verdict
verdict_by h limits posted (Ok author) = judged_of h limits (command author posted.seq posted.kind posted.body)
verdict_by h limits posted (Err denial) = Denied denial

-- the verdict on what was posted at a moment
abbrev pub verdict_of : List Entry → Posted → Moment → Secret → Limits → Verdict
verdict_of h posted moment secret limits = verdict_by h limits posted (who_of (live_of h) posted.credentials moment secret)

-- the entry that an accepted command becomes
abbrev pub entry_of : List Entry → Command → Moment → Entry
entry_of h c moment = record { number = length h + 1; moment = moment; author = c.author; seq = c.seq; kind = c.kind; body = c.body }
