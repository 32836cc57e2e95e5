-- Commands of new sequence numbers that are accepted.
use Rattle.std.proofs.Common.{◌≡◌, ◌==◌, ℕ, ◌+◌, ◌≤◌, Bool, true, false, cond, List, length, Option, None, Result, Ok, refl, sym, subst, arith}
use Rattle.std.specs.Prelude.{nat_lt}
use Rattle.std.proofs.lemmas.Bool.Decides.{nat_tests}
use Rattle.mseed_header.specs.declared.header.RecordFault.{RecordFault}
use Rattle.mseed_header.specs.declared.header.RecordFault.TheVariants.{Short}
use Rattle.epochs.specs.Kinds.{Text}
use Rattle.epochs.specs.Lines.{LineValues}
use Rattle.epochs.specs.declared.fault.RevisionFault.{RevisionFault}
use Rattle.epoch_rules.specs.declared.rule.Rule.{Rule}
use Rattle.epoch_rules.specs.Kept.{first_broken}
use Rattle.archive_entry.specs.Batches.{batch_of}
use Rattle.archive_entry.specs.Bodies.{revision_of}
use Rattle.archive_entry.specs.declared.entry.Entry.{Entry}
use Rattle.archive_entry.specs.declared.entry.Kind.{Kind}
use Rattle.archive_entry.specs.declared.entry.Kind.TheVariants.{Batch, Revise}
use Rattle.archive_state.specs.declared.verdict.Verdict.{Verdict}
use Rattle.archive_state.specs.declared.verdict.Verdict.TheVariants.{Role, Gap, BadRecord, FullRecords, FullBytes, Accept}
use Rattle.archive_state.specs.History.{live_of, records_of, bytes_of, earlier_of, last_seq, may_post}
use Rattle.archive_state.specs.Lawful.{is_accept, full}
use Rattle.archive_state.specs.Verdicts.{Totals, totals_of, command, within_bytes, batch_verdict, kept_verdict, revise_verdict, body_verdict, beside, judged_of}

-- of a choice the other side
pub other : (b : Bool) (v w : Verdict) → b ≡ false → is_accept w ≡ true → is_accept (cond b v w) ≡ true
other true v w apart h = absurd cc
other false v w apart h = h

one : (b : Bool) (v w : Verdict) → b ≡ true → is_accept v ≡ true → is_accept (cond b v w) ≡ true
one true v w is h = h
one false v w is h = absurd cc

no_less : (m n : ℕ) → n ≤ m → nat_lt m n ≡ false
no_less m n h = grind (arith, nat_tests)

fits : (t : Totals) (body : List ℕ) → t.bytes + length body ≤ 536_870_912 → is_accept (within_bytes t full body) ≡ true
fits t body few = other (nat_lt 536_870_912 (t.bytes + length body)) (FullBytes (t.bytes + length body)) (Accept (t.count + 1)) (no_less 536_870_912 (t.bytes + length body) few) refl

-- the command is new, and its author may post it
module _ (h : List Entry) (author : Text) (seq : ℕ) (kind : Kind) (body : List ℕ) (may : may_post (live_of h) author kind ≡ true) (none : earlier_of h author seq ≡ None) (next : seq ≤ last_seq h author + 1) where
  pub accepted_by : is_accept (body_verdict (totals_of h) full kind body) ≡ true → is_accept (judged_of h full (command author seq kind body)) ≡ true
  unfolding judged_of
  accepted_by body_is =
      let t = totals_of h in
      let c = command author seq kind body in
      let last = last_seq h author in
      let new : is_accept (beside t full c None last) ≡ true = other (nat_lt (last + 1) seq) (Gap last) (body_verdict t full kind body) (no_less (last + 1) seq next) body_is in
      one (may_post (live_of h) author kind) (beside t full c (earlier_of h author seq) last) Role may (subst (λ (o : Option Entry). is_accept (beside t full c o last) ≡ true) (sym none) new)

-- a batch of so many records
pub batch_accepted : (h : List Entry) (body : List ℕ) (n : ℕ) → batch_of body ≡ Ok n → 1 ≤ length body → records_of h + n ≤ 2_097_152 → bytes_of h + length body ≤ 536_870_912
    → is_accept (body_verdict (totals_of h) full Batch body) ≡ true
batch_accepted h body n batch some few small =
    let t = totals_of h in
    let not_empty : (length body == 0) ≡ false = grind (arith, nat_tests) in
    let read : is_accept (batch_verdict t full body (Ok n)) ≡ true =
    other (nat_lt 2_097_152 (records_of h + n)) (FullRecords (records_of h + n)) (within_bytes t full body) (no_less 2_097_152 (records_of h + n) few) (fits t body small) in
    other (length body == 0) (BadRecord 0 Short) (batch_verdict t full body (batch_of body)) not_empty
    (subst (λ (r : Result ℕ (ℕ × RecordFault)). is_accept (batch_verdict t full body r) ≡ true) (sym batch) read)

-- a revision of these lines
pub revision_accepted : (h : List Entry) (body : List ℕ) (lines : List LineValues) → revision_of body ≡ Ok lines → first_broken (live_of h) lines ≡ None → bytes_of h + length body ≤ 536_870_912
    → is_accept (body_verdict (totals_of h) full Revise body) ≡ true
revision_accepted h body lines read kept small =
    let t = totals_of h in
    let keeps : is_accept (kept_verdict t full body (first_broken (live_of h) lines)) ≡ true = subst (λ (o : Option (ℕ × Rule)). is_accept (kept_verdict t full body o) ≡ true) (sym kept) (fits t body small) in
    subst (λ (r : Result (List LineValues) RevisionFault). is_accept (revise_verdict t full body r) ≡ true) (sym read) keeps
