-- The next entry has a byte, keeps the rules, and fits in an archive.
use Rattle.std.proofs.Common.{◌≡◌, inl, inr, ◌==◌, ◌&&◌, ℕ, ◌+◌, ◌≤◌, true, false, List, [], ◌∷◌, length, None, Some, pos, Result, Ok, Err, Option, refl, sym, ap, subst, ◌∙◌, arith}
use Rattle.std.specs.Prelude.{nat_lt, MatchResult}
use Rattle.std.specs.Ordering.{int_eq}
use Rattle.std.specs.Str.Lines.{lines}
use Rattle.std.proofs.lemmas.Bool.{and_parts}
use Rattle.std.proofs.lemmas.Bool.Decides.{nat_tests}
use Rattle.mseed_header.specs.declared.header.RecordFault.{RecordFault}
use Rattle.mseed_header.specs.declared.header.RecordFault.TheVariants.{Short}
use Rattle.epochs.specs.Lines.{LineValues}
use Rattle.epochs.specs.Revisions.{IsRevision, IsRevisionFault}
use Rattle.epochs.specs.declared.fault.RevisionFault.{RevisionFault}
use Rattle.epochs.specs.declared.fault.RevisionFault.TheVariants as revision
use Rattle.epoch_rules.specs.declared.rule.Rule.{Rule}
use Rattle.epoch_rules.specs.Kept.{AreKept, first_broken}
use Rattle.archive_entry.specs.Batches.{batch_of}
use Rattle.archive_entry.specs.Bodies.{revision_of, revision_of-only}
use Rattle.archive_entry.specs.declared.entry.Entry.{Entry}
use Rattle.archive_entry.specs.declared.entry.Kind.{Kind}
use Rattle.archive_entry.specs.declared.entry.Kind.TheVariants.{Batch, Revise}
use Rattle.archive_state.specs.declared.limits.Limits.{Limits}
use Rattle.archive_state.specs.declared.verdict.Verdict.TheVariants.{BadRecord, FullRecords, FullBytes, Accept}
use Rattle.archive_state.specs.History.{live_of, bytes_of, lines_in, lines_by, lines_of}
use Rattle.archive_state.specs.Lawful.{full, is_first, founds, ha1_behind, is_founding, is_next}
use Rattle.archive_state.specs.Verdicts.{command_of, is_kind, Totals, totals_of, within_bytes, batch_verdict, kept_verdict, revise_verdict, body_verdict}
use Rattle.archive_state.proofs.Accepts.{Accepts, chosen, accepted, body_kept, later_parts, next_by}
use Rattle.archive_state.proofs.Founding.{founds_parts, founding_revision, founding_kept, founding_length}

pub not_less : (m n : ℕ) → nat_lt m n ≡ false → n ≤ m
not_less m n h = grind (arith, nat_tests)

-- an accepted body has a byte, and all bodies with it are within the limit
abbrev pub HasRoom : Totals → Limits → List ℕ → Type 0
HasRoom t limits body = (1 ≤ length body) × (t.bytes + length body ≤ limits.max_archive)

bytes_say : (t : Totals) (limits : Limits) (body : List ℕ) → Accepts (within_bytes t limits body) → t.bytes + length body ≤ limits.max_archive
bytes_say t limits body h = not_less limits.max_archive (t.bytes + length body) (chosen (nat_lt limits.max_archive (t.bytes + length body)) (FullBytes (t.bytes + length body)) (Accept (t.count + 1)) h refl).0

batch_says : (t : Totals) (limits : Limits) (body : List ℕ) (r : Result ℕ (ℕ × RecordFault)) → Accepts (batch_verdict t limits body r) → t.bytes + length body ≤ limits.max_archive
batch_says t limits body (Err bad) h = absurd cc
batch_says t limits body (Ok more) h = bytes_say t limits body (chosen (nat_lt limits.max_records (t.records + more)) (FullRecords (t.records + more)) (within_bytes t limits body) h refl).1

some_byte : (body : List ℕ) → (length body == 0) ≡ false → 1 ≤ length body
some_byte body h = grind (arith, nat_tests)

kept_says : (t : Totals) (limits : Limits) (body : List ℕ) (broken : Option (ℕ × Rule)) → Accepts (kept_verdict t limits body broken) → t.bytes + length body ≤ limits.max_archive
kept_says t limits body (Some broken) h = absurd cc
kept_says t limits body None h = bytes_say t limits body h

revise_says : (t : Totals) (limits : Limits) (body : List ℕ) (r : Result (List LineValues) RevisionFault) → Accepts (revise_verdict t limits body r) → t.bytes + length body ≤ limits.max_archive
revise_says t limits body (Ok lines) h = kept_says t limits body (first_broken t.live lines) h
revise_says t limits body (Err (revision.Bad line fault)) h = absurd cc
revise_says t limits body (Err revision.OutOfMemory) h = absurd cc

-- no bytes are no revision
no_revision : (spelled : List LineValues) → IsRevision [] spelled → ⊥
no_revision [] is = is.some refl
no_revision (e ∷ spelled) is = is.each

lines_need_bytes : (t : Totals) (limits : Limits) (body : List ℕ) (r : Result (List LineValues) RevisionFault) → revision_of body ≡ r → Accepts (revise_verdict t limits body r) → 1 ≤ length body
lines_need_bytes t limits (c ∷ body) r is h = omega arith
lines_need_bytes t limits [] (Ok spelled) is h = absurd (no_revision spelled (spelled_by (revision_of []) is (revision_of-only []).right))
  where
    spelled_by : (r : Result (List LineValues) RevisionFault) → r ≡ Ok spelled → MatchResult r (IsRevision []) (IsRevisionFault []) → IsRevision [] spelled
    spelled_by r is right = subst (λ (a : Result (List LineValues) RevisionFault). MatchResult a (IsRevision []) (IsRevisionFault [])) is right
lines_need_bytes t limits [] (Err (revision.Bad line fault)) is h = absurd cc
lines_need_bytes t limits [] (Err revision.OutOfMemory) is h = absurd cc

pub body_has_room : (t : Totals) (limits : Limits) (kind : Kind) (body : List ℕ) → Accepts (body_verdict t limits kind body) → HasRoom t limits body
body_has_room t limits Batch body h =
    let rest = chosen (length body == 0) (BadRecord 0 Short) (batch_verdict t limits body (batch_of body)) h refl in
    (some_byte body rest.0, batch_says t limits body (batch_of body) rest.1)
body_has_room t limits Revise body h = (lines_need_bytes t limits body (revision_of body) refl h, revise_says t limits body (revision_of body) h)

-- ---- the founding entry

kind_is : (k : Kind) → is_kind k Revise ≡ true → k ≡ Revise
kind_is Batch h = absurd cc
kind_is Revise h = refl

pub founding_kind : (e : Entry) → is_founding e ≡ true → e.kind ≡ Revise
founding_kind e is =
    let b = and_parts (is_first e) (founds e.author e.body) is in
    let c = and_parts (e.number == 1 && e.seq == 0) (int_eq e.moment.micros (pos 0) && is_kind e.kind Revise) b.0 in
    kind_is e.kind (and_parts (int_eq e.moment.micros (pos 0)) (is_kind e.kind Revise) c.1).1

pub founding_founds : (e : Entry) → is_founding e ≡ true → founds e.author e.body ≡ true
founding_founds e is = (and_parts (is_first e) (founds e.author e.body) is).1

first_kept : (e : Entry) → is_founding e ≡ true → AreKept [] (lines_of e)
first_kept e is =
    let parts = founds_parts e.author e.body (founding_founds e is) in
    let ha1 = ha1_behind e.author e.body in
    let lines_are = (λ i. lines_by (founding_kind e is i) (parts.2 i)) ∙ ap lines_in (founding_revision e.author ha1 parts.0 parts.1) in
    subst (AreKept []) (sym lines_are) (founding_kept e.author ha1 parts.0 parts.1)

pub first_room : (e : Entry) → is_founding e ≡ true → (1 ≤ length e.body) × (length e.body ≤ 79)
first_room e is =
    let parts = founds_parts e.author e.body (founding_founds e is) in
    subst (λ (body : List ℕ). (1 ≤ length body) × (length body ≤ 79)) (sym parts.2) (founding_length e.author (ha1_behind e.author e.body) parts.0 parts.1)

-- ---- the next entry

-- its lines keep the rules
pub next_kept : (past : List Entry) (e : Entry) → is_next past e ≡ true → AreKept (live_of past) (lines_of e)
next_kept past e is =
    elim (next_by past e is) [
      | inl first ↦ subst (λ (h : List Entry). AreKept (live_of h) (lines_of e)) (sym first.0) (first_kept e first.1)
      | inr later ↦ body_kept (totals_of past) full e.kind e.body (accepted past full (command_of e) (later_parts past e later).2).body
    ]

-- it has a byte, and all bodies with its own are within the limit
pub next_has_room : (past : List Entry) (e : Entry) → is_next past e ≡ true → (1 ≤ length e.body) × (bytes_of past + length e.body ≤ 536_870_912)
next_has_room past e is =
    elim (next_by past e is) [
      | inl first ↦ (let room = first_room e first.1 in let none : bytes_of past ≡ 0 = ap bytes_of first.0 in (room.0, omega (arith, room.1, none)))
      | inr later ↦ body_has_room (totals_of past) full e.kind e.body (accepted past full (command_of e) (later_parts past e later).2).body
    ]
