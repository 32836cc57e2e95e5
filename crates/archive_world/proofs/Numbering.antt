-- The number that an accepted or a repeated command is told is one of an entry.
use Rattle.std.proofs.Common.{◌≡◌, ◌==◌, ◌&&◌, ℕ, suc, ◌+◌, ◌≤◌, Bool, true, false, cond, List, [], ◌∷◌, ◌++◌, length, Option, None, Some, Result, Ok, Err, refl, sym, subst, arith, length-append, if◌then◌else◌}
use Rattle.std.specs.Prelude.{nat_lt, find, slice_get, ⊤}
use Rattle.std.specs.Str.{bytes_eq}
use Rattle.mseed_header.specs.declared.header.RecordFault.{RecordFault}
use Rattle.mseed_header.specs.declared.header.RecordFault.TheVariants.{Short}
use Rattle.epochs.specs.Kinds.{Text}
use Rattle.epochs.specs.Lines.{LineValues}
use Rattle.epochs.specs.declared.fault.RevisionFault.{RevisionFault}
use Rattle.epochs.specs.declared.fault.RevisionFault.TheVariants as revision
use Rattle.epoch_rules.specs.Kept.{first_broken}
use Rattle.epoch_rules.specs.declared.rule.Rule.{Rule}
use Rattle.exact_time.specs.declared.moment.Moment.{Moment}
use Rattle.access_digest.specs.Who.{who_of}
use Rattle.access_digest.specs.declared.denial.Denial.{Denial}
use Rattle.archive_entry.specs.Batches.{batch_of}
use Rattle.archive_entry.specs.Bodies.{revision_of}
use Rattle.archive_entry.specs.declared.entry.Entry.{Entry}
use Rattle.archive_entry.specs.declared.entry.Kind.{Kind}
use Rattle.archive_entry.specs.declared.entry.Kind.TheVariants.{Batch, Revise}
use Rattle.archive_state.specs.History.{live_of, earlier_of, is_by, last_seq, may_post}
use Rattle.archive_state.specs.Lawful.{IsLawful}
use Rattle.archive_state.specs.Verdicts.{Command, command, is_kind, Totals, totals_of, within_bytes, batch_verdict, kept_verdict, revise_verdict, body_verdict, beside, judged_of, verdict_by}
use Rattle.archive_state.specs.declared.limits.Limits.{Limits}
use Rattle.archive_state.specs.declared.posted.Posted.{Posted}
use Rattle.archive_state.specs.declared.verdict.Verdict.{Verdict}
use Rattle.archive_state.specs.declared.verdict.Verdict.TheVariants.{Denied, Role, Repeat, OtherBody, Gap, BadRecord, BadLine, Broken, FullRecords, FullBytes, Accept}
use Rattle.archive_state.proofs.Sendings.{number_at}
use Rattle.desk_words.specs.Posting.{added_by, command_by, entry_by, listed, posted_entry, ruling}
use Rattle.desk_words.specs.Setting.{Setting}
use Rattle.archive_world.specs.Submitting.{told_by}
use Rattle.archive_world.proofs.Calling.{CanBeTold}

-- the number of a verdict is one of so many entries, or of the next one where it accepts
abbrev Within : ℕ → Verdict → Type 0
Within count (Accept n) = n ≡ count + 1
Within count (Repeat n) = (1 ≤ n) × (n ≤ count)
Within count (Denied denial) = ⊤
Within count Role = ⊤
Within count (OtherBody n) = ⊤
Within count (Gap n) = ⊤
Within count (BadRecord at fault) = ⊤
Within count (BadLine line fault) = ⊤
Within count (Broken line rule) = ⊤
Within count (FullRecords n) = ⊤
Within count (FullBytes n) = ⊤

within_if : (count : ℕ) (b : Bool) (v w : Verdict) → Within count v → Within count w → Within count (cond b v w)
within_if count true v w first second = first
within_if count false v w first second = second

bytes_within : (t : Totals) (limits : Limits) (body : List ℕ) → Within t.count (within_bytes t limits body)
bytes_within t limits body = within_if t.count (nat_lt limits.max_archive (t.bytes + length body)) (FullBytes (t.bytes + length body)) (Accept (t.count + 1)) tt refl

batch_within : (t : Totals) (limits : Limits) (body : List ℕ) (r : Result ℕ (ℕ × RecordFault)) → Within t.count (batch_verdict t limits body r)
batch_within t limits body (Err bad) = tt
batch_within t limits body (Ok more) = within_if t.count (nat_lt limits.max_records (t.records + more)) (FullRecords (t.records + more)) (within_bytes t limits body) tt (bytes_within t limits body)

kept_within : (t : Totals) (limits : Limits) (body : List ℕ) (broken : Option (ℕ × Rule)) → Within t.count (kept_verdict t limits body broken)
kept_within t limits body (Some broken) = tt
kept_within t limits body None = bytes_within t limits body

revise_within : (t : Totals) (limits : Limits) (body : List ℕ) (r : Result (List LineValues) RevisionFault) → Within t.count (revise_verdict t limits body r)
revise_within t limits body (Ok lines) = kept_within t limits body (first_broken t.live lines)
revise_within t limits body (Err (revision.Bad line fault)) = tt
revise_within t limits body (Err revision.OutOfMemory) = tt

body_within : (t : Totals) (limits : Limits) (kind : Kind) (body : List ℕ) → Within t.count (body_verdict t limits kind body)
body_within t limits Batch body = within_if t.count (length body == 0) (BadRecord 0 Short) (batch_verdict t limits body (batch_of body)) tt (batch_within t limits body (batch_of body))
body_within t limits Revise body = revise_within t limits body (revision_of body)

beside_within : (t : Totals) (limits : Limits) (p : Command) (earlier : Option Entry) (last : ℕ) → ((e : Entry) → earlier ≡ Some e → (1 ≤ e.number) × (e.number ≤ t.count)) → Within t.count (beside t limits p earlier last)
beside_within t limits p (Some e) last found = within_if t.count (is_kind e.kind p.kind && bytes_eq e.body p.body) (Repeat e.number) (OtherBody e.number) (found e refl) tt
beside_within t limits p None last found = within_if t.count (nat_lt (last + 1) p.seq) (Gap last) (body_verdict t limits p.kind p.body) tt (body_within t limits p.kind p.body)

-- what is found stands at some place
found_at : (p : Entry → Bool) (h : List Entry) (e : Entry) → find p h ≡ Some e → (n : ℕ) × (n + 1 ≤ length h) × (slice_get h n ≡ Some e)
found_at p [] e is = absurd (cc (is))
found_at p (x ∷ h) e is = by (p x) is (found_at p h e)
  where
    by : (b : Bool) → (if b then Some x else find p h) ≡ Some e → (find p h ≡ Some e → (n : ℕ) × (n + 1 ≤ length h) × (slice_get h n ≡ Some e)) → (n : ℕ) × (n + 1 ≤ length (x ∷ h)) × (slice_get (x ∷ h) n ≡ Some e)
    by true is rest = (0, omega arith, is)
    by false is rest = let at = rest is in (suc at.0, omega (arith, at.1), at.2)

module _ (h : List Entry) (lawful : IsLawful h) where
  found_within : (author : Text) (seq : ℕ) (e : Entry) → earlier_of h author seq ≡ Some e → (1 ≤ e.number) × (e.number ≤ length h)
  found_within author seq e is =
      let at = found_at (λ x. is_by author x && x.seq == seq) h e is in
      let number = number_at h at.0 e lawful at.2 in
      (omega (arith, number), omega (arith, number, at.1))

  judged_within : (limits : Limits) (p : Command) → Within (length h) (judged_of h limits p)
  unfolding judged_of
  judged_within limits p =
      let t = totals_of h in
      let earlier = earlier_of h p.author p.seq in
      within_if (length h) (may_post (live_of h) p.author p.kind) (beside t limits p earlier (last_seq h p.author)) Role
      (beside_within t limits p earlier (last_seq h p.author) (found_within p.author p.seq)) tt

  ruling_within : (p : Posted) (m : Moment) (s : Setting) → Within (length h) (ruling h p m s)
  ruling_within p m s = by (who_of (live_of h) p.credentials m s.secret)
    where
      by : (r : Result Text Denial) → Within (length h) (verdict_by h s.limits p r)
      by (Ok author) = judged_within s.limits (command author p.seq p.kind p.body)
      by (Err denial) = tt

  -- an accepted command has an entry
  accepts_one : (p : Posted) (m : Moment) (s : Setting) (n : ℕ) → ruling h p m s ≡ Accept n → length (listed (posted_entry h p m s)) ≡ 1
  accepts_one p m s n is = by (who_of (live_of h) p.credentials m s.secret) is
    where
      by : (r : Result Text Denial) → verdict_by h s.limits p r ≡ Accept n → length (listed (entry_by h m (command_by p r))) ≡ 1
      by (Ok author) is = refl
      by (Err denial) is = absurd (cc (is))

  -- a caller who has seen what it added can be told so
  pub verdict_told : (p : Posted) (m : Moment) (s : Setting) (v : Verdict) (front : ℕ) → v ≡ ruling h p m s → front ≡ length (h ++ added_by v (posted_entry h p m s)) → CanBeTold (told_by v front) (length (h ++ added_by v (posted_entry h p m s)))
  verdict_told p m s v front is all = by v (subst (Within (length h)) (sym is) (ruling_within p m s)) is all
    where
      seen : Verdict → ℕ
      seen w = length (h ++ added_by w (posted_entry h p m s))

      by : (w : Verdict) → Within (length h) w → w ≡ ruling h p m s → front ≡ seen w → CanBeTold (told_by w front) (seen w)
      by (Accept n) number is all =
          let one = accepts_one p m s n (sym is) in
          let long = length-append h (listed (posted_entry h p m s)) in
          (omega (arith, number), omega (arith, number, one, long))
      by (Repeat n) number is all = let long = length-append h [] in (number.0, omega (arith, number.1, long))
      by (Denied denial) number is all = all
      by Role number is all = all
      by (OtherBody n) number is all = all
      by (Gap n) number is all = all
      by (BadRecord at fault) number is all = all
      by (BadLine line fault) number is all = all
      by (Broken line rule) number is all = all
      by (FullRecords n) number is all = all
      by (FullBytes n) number is all = all
