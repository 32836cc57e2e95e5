-- What an accepted command says of its history.
use Rattle.std.proofs.Common.{◌≡◌, ◌⊎◌, inl, inr, ◌==◌, ◌&&◌, ℕ, suc, ◌+◌, ◌≤◌, Bool, true, false, cond, List, [], ◌∷◌, length, Option, None, Some, pos, Result, Ok, Err, refl, ap, subst, arith}
use Rattle.std.specs.Prelude.{nat_lt, nat_le}
use Rattle.std.specs.Str.{bytes_eq}
use Rattle.std.specs.Ordering.{int_eq}
use Rattle.std.proofs.lemmas.Bool.{and_parts, eqb-true}
use Rattle.std.proofs.lemmas.Bool.Decides.{nat_tests}
use Rattle.exact_time.specs.Clock.{is_clock_moment}
use Rattle.mseed_header.specs.declared.header.RecordFault.{RecordFault}
use Rattle.mseed_header.specs.declared.header.RecordFault.TheVariants.{Short}
use Rattle.epochs.specs.Lines.{LineValues}
use Rattle.epochs.specs.declared.fault.RevisionFault.{RevisionFault}
use Rattle.epochs.specs.declared.fault.RevisionFault.TheVariants as revision
use Rattle.epoch_rules.specs.declared.rule.Rule.{Rule}
use Rattle.epoch_rules.specs.Kept.{AreKept, first_broken}
use Rattle.epoch_rules.proofs.OneCheck.{kept_from_none}
use Rattle.archive_entry.specs.Batches.{batch_of}
use Rattle.archive_entry.specs.Bodies.{revision_of}
use Rattle.archive_entry.specs.declared.entry.Entry.{Entry}
use Rattle.archive_entry.specs.declared.entry.Kind.{Kind}
use Rattle.archive_entry.specs.declared.entry.Kind.TheVariants.{Batch, Revise}
use Rattle.archive_state.specs.declared.limits.Limits.{Limits}
use Rattle.archive_state.specs.declared.verdict.Verdict.{Verdict}
use Rattle.archive_state.specs.declared.verdict.Verdict.TheVariants.{Denied, Role, Repeat, OtherBody, Gap, BadRecord, BadLine, Broken, FullRecords, FullBytes, Accept}
use Rattle.archive_state.specs.History.{live_of, earlier_of, last_seq, may_post, lines_in, lines_by}
use Rattle.archive_state.specs.Lawful.{is_accept, full, is_fit, is_first, founds, is_founding, is_later, is_next}
use Rattle.archive_state.specs.Verdicts.{Command, command_of, is_kind, Totals, totals_of, within_bytes, batch_verdict, kept_verdict, revise_verdict, body_verdict, beside, judged_of}

abbrev pub Accepts : Verdict → Type 0
Accepts v = is_accept v ≡ true

-- of a choice that accepts, one side accepts
pub chosen : (b : Bool) (v w : Verdict) → Accepts (cond b v w) → (is_accept v ≡ false) → (b ≡ false) × Accepts w
chosen true v w h apart = absurd cc
chosen false v w h apart = (refl, h)

pub otherwise : (b : Bool) (v w : Verdict) → Accepts (cond b v w) → (is_accept w ≡ false) → (b ≡ true) × Accepts v
otherwise true v w h apart = (refl, h)
otherwise false v w h apart = absurd cc

neither : (b : Bool) (v w : Verdict) → is_accept v ≡ false → is_accept w ≡ false → Accepts (cond b v w) → ⊥
neither true v w no_v no_w h = cc
neither false v w no_v no_w h = cc

not_less : (m n : ℕ) → nat_lt m n ≡ false → n ≤ m
not_less m n h = grind (arith, nat_tests)

-- what an accepted command says
pub record Accepted (h : List Entry) (limits : Limits) (p : Command) : Type 0 where
  pub may : may_post (live_of h) p.author p.kind ≡ true
  pub none : earlier_of h p.author p.seq ≡ None
  pub follows : p.seq ≤ last_seq h p.author + 1
  pub body : Accepts (body_verdict (totals_of h) limits p.kind p.body)

beside_says : (t : Totals) (limits : Limits) (p : Command) (earlier : Option Entry) (last : ℕ) → Accepts (beside t limits p earlier last) → (earlier ≡ None) × (p.seq ≤ last + 1) × Accepts (body_verdict t limits p.kind p.body)
beside_says t limits p (Some e) last h = absurd (neither (is_kind e.kind p.kind && bytes_eq e.body p.body) (Repeat e.number) (OtherBody e.number) refl refl h)
beside_says t limits p None last h =
    let rest = chosen (nat_lt (last + 1) p.seq) (Gap last) (body_verdict t limits p.kind p.body) h refl in
    (refl, not_less (last + 1) p.seq rest.0, rest.1)

pub accepted : (h : List Entry) (limits : Limits) (p : Command) → Accepts (judged_of h limits p) → Accepted h limits p
unfolding judged_of
accepted h limits p is =
    let role = otherwise (may_post (live_of h) p.author p.kind) (beside (totals_of h) limits p (earlier_of h p.author p.seq) (last_seq h p.author)) Role is refl in
    let rest = beside_says (totals_of h) limits p (earlier_of h p.author p.seq) (last_seq h p.author) role.1 in
    record { may = role.0; none = rest.0; follows = rest.1; body = rest.2 }

-- lines of an accepted body keep the rules
kept_says : (t : Totals) (limits : Limits) (body : List ℕ) (broken : Option (ℕ × Rule)) → Accepts (kept_verdict t limits body broken) → broken ≡ None
kept_says t limits body (Some broken) h = absurd cc
kept_says t limits body None h = refl

revise_says : (t : Totals) (limits : Limits) (body : List ℕ) (r : Result (List LineValues) RevisionFault) → Accepts (revise_verdict t limits body r) → AreKept t.live (lines_in r)
revise_says t limits body (Ok lines) h = kept_from_none 1 t.live lines (kept_says t limits body (first_broken t.live lines) h)
revise_says t limits body (Err (revision.Bad line fault)) h = absurd cc
revise_says t limits body (Err revision.OutOfMemory) h = absurd cc

pub body_kept : (t : Totals) (limits : Limits) (kind : Kind) (body : List ℕ) → Accepts (body_verdict t limits kind body) → AreKept t.live (lines_by kind body)
body_kept t limits Batch body h = tt
body_kept t limits Revise body h = revise_says t limits body (revision_of body) h

pub later_parts : (past : List Entry) (e : Entry) → is_later past e ≡ true → ((e.number == length past + 1) ≡ true) × (is_fit e ≡ true) × Accepts (judged_of past full (command_of e))
later_parts past e is =
    let a = and_parts (e.number == length past + 1 && is_fit e) (is_accept (judged_of past full (command_of e))) is in
    let b = and_parts (e.number == length past + 1) (is_fit e) a.0 in
    (b.0, b.1, a.1)

-- the next entry after none is a founding one, and after others a later one
pub next_by : (past : List Entry) (e : Entry) → is_next past e ≡ true → ((past ≡ []) × (is_founding e ≡ true)) ⊎ (is_later past e ≡ true)
unfolding is_next
next_by [] e is = inl (refl, is)
next_by (x ∷ past) e is = inr (by (length (x ∷ past) == 0) (is_founding e) (is_later (x ∷ past) e) (some (length past)) is)
  where
    some : (n : ℕ) → (suc n == 0) ≡ false
    some n = grind (arith, nat_tests)

    by : (b f l : Bool) → b ≡ false → cond b f l ≡ true → l ≡ true
    by true f l apart h = absurd cc
    by false f l apart h = h

-- The sequence number of the next entry is 0, as a founding entry's, or the one behind the author's last.
pub record Follows (h : List Entry) (e : Entry) : Type 0 where
  pub some : 1 ≤ e.seq
  pub none : earlier_of h e.author e.seq ≡ None
  pub follows : e.seq ≤ last_seq h e.author + 1

from_one : (n : ℕ) → nat_le 1 n ≡ true → 1 ≤ n
from_one n h = grind (arith, nat_tests)

later_follows : (past : List Entry) (e : Entry) → is_later past e ≡ true → Follows past e
later_follows past e is =
    let parts = later_parts past e is in
    let says = accepted past full (command_of e) parts.2 in
    let fit = and_parts (nat_le 1 e.seq && nat_le e.seq 1_000_000_000_000_000_000) (nat_le (length e.body) 1_048_576 && is_clock_moment e.moment) parts.1 in
    record { some = from_one e.seq (and_parts (nat_le 1 e.seq) (nat_le e.seq 1_000_000_000_000_000_000) fit.0).0; none = says.none; follows = says.follows }

pub first_seq : (e : Entry) → is_founding e ≡ true → (e.number ≡ 1) × (e.seq ≡ 0)
first_seq e is =
    let b = and_parts (is_first e) (founds e.author e.body) is in
    let c = and_parts (e.number == 1 && e.seq == 0) (int_eq e.moment.micros (pos 0) && is_kind e.kind Revise) b.0 in
    let d = and_parts (e.number == 1) (e.seq == 0) c.0 in
    (eqb-true e.number 1 d.0, eqb-true e.seq 0 d.1)

pub next_follows : (past : List Entry) (e : Entry) → is_next past e ≡ true → (e.seq ≡ 0) ⊎ Follows past e
next_follows past e is =
    elim (next_by past e is) [
      | inl first ↦ inl (first_seq e first.1).1
      | inr later ↦ inr (later_follows past e later)
    ]

pub next_number : (past : List Entry) (e : Entry) → is_next past e ≡ true → e.number ≡ length past + 1
next_number past e is =
    elim (next_by past e is) [
      | inl first ↦ (let none : length past ≡ 0 = ap length first.0 in omega (arith, none, (first_seq e first.1).0))
      | inr later ↦ eqb-true e.number (length past + 1) (later_parts past e later).0
    ]

-- ---- the number of an accepted command

abbrev Numbered : ℕ → Verdict → Type 0
Numbered count (Accept n) = n ≡ count + 1
Numbered count (Denied denial) = Unit {0}
Numbered count Role = Unit {0}
Numbered count (Repeat n) = Unit {0}
Numbered count (OtherBody n) = Unit {0}
Numbered count (Gap n) = Unit {0}
Numbered count (BadRecord at fault) = Unit {0}
Numbered count (BadLine line fault) = Unit {0}
Numbered count (Broken line rule) = Unit {0}
Numbered count (FullRecords n) = Unit {0}
Numbered count (FullBytes n) = Unit {0}

number_if : (count : ℕ) (b : Bool) (v w : Verdict) → Numbered count v → Numbered count w → Numbered count (cond b v w)
number_if count true v w h k = h
number_if count false v w h k = k

number_bytes : (t : Totals) (limits : Limits) (body : List ℕ) → Numbered t.count (within_bytes t limits body)
number_bytes t limits body = number_if t.count (nat_lt limits.max_archive (t.bytes + length body)) (FullBytes (t.bytes + length body)) (Accept (t.count + 1)) tt refl

number_batch : (t : Totals) (limits : Limits) (body : List ℕ) (r : Result ℕ (ℕ × RecordFault)) → Numbered t.count (batch_verdict t limits body r)
number_batch t limits body (Err bad) = tt
number_batch t limits body (Ok more) = number_if t.count (nat_lt limits.max_records (t.records + more)) (FullRecords (t.records + more)) (within_bytes t limits body) tt (number_bytes t limits body)

number_kept : (t : Totals) (limits : Limits) (body : List ℕ) (broken : Option (ℕ × Rule)) → Numbered t.count (kept_verdict t limits body broken)
number_kept t limits body (Some broken) = tt
number_kept t limits body None = number_bytes t limits body

number_revise : (t : Totals) (limits : Limits) (body : List ℕ) (r : Result (List LineValues) RevisionFault) → Numbered t.count (revise_verdict t limits body r)
number_revise t limits body (Ok lines) = number_kept t limits body (first_broken t.live lines)
number_revise t limits body (Err (revision.Bad line fault)) = tt
number_revise t limits body (Err revision.OutOfMemory) = tt

number_body : (t : Totals) (limits : Limits) (kind : Kind) (body : List ℕ) → Numbered t.count (body_verdict t limits kind body)
number_body t limits Batch body = number_if t.count (length body == 0) (BadRecord 0 Short) (batch_verdict t limits body (batch_of body)) tt (number_batch t limits body (batch_of body))
number_body t limits Revise body = number_revise t limits body (revision_of body)

number_beside : (t : Totals) (limits : Limits) (p : Command) (earlier : Option Entry) (last : ℕ) → Numbered t.count (beside t limits p earlier last)
number_beside t limits p (Some e) last = number_if t.count (is_kind e.kind p.kind && bytes_eq e.body p.body) (Repeat e.number) (OtherBody e.number) tt tt
number_beside t limits p None last = number_if t.count (nat_lt (last + 1) p.seq) (Gap last) (body_verdict t limits p.kind p.body) tt (number_body t limits p.kind p.body)

numbered : (h : List Entry) (limits : Limits) (p : Command) → Numbered (length h) (judged_of h limits p)
unfolding judged_of
numbered h limits p =
    let earlier = earlier_of h p.author p.seq in
    number_if (length h) (may_post (live_of h) p.author p.kind) (beside (totals_of h) limits p earlier (last_seq h p.author)) Role (number_beside (totals_of h) limits p earlier (last_seq h p.author)) tt

pub accept_number : (h : List Entry) (limits : Limits) (p : Command) (n : ℕ) → judged_of h limits p ≡ Accept n → n ≡ length h + 1
accept_number h limits p n is = subst (λ (v : Verdict). Numbered (length h) v) is (numbered h limits p)
