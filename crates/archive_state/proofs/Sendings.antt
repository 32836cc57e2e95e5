-- Commands that are posted one after another, and again.
use Rattle.std.proofs.Common.{◌≡◌, ◌==◌, ◌&&◌, ◌∙◌, ℕ, zero, suc, ◌+◌, ◌≤◌, Bool, true, false, cond, List, take, [], ◌∷◌, ◌++◌, length, Option, None, Some, Result, Ok, Err, refl, sym, ap, subst, arith, append_assoc, append-nil}
use Rattle.std.specs.Prelude.{nat_le, nat_lt, if◌then◌else◌}
use Rattle.std.specs.List.{slice_get, list_all}
use Rattle.std.specs.Str.{bytes_eq}
use Rattle.std.proofs.lemmas.Bool.{and_parts}
use Rattle.std.proofs.lemmas.Bool.Decides.{nat_tests}
use Rattle.mseed_header.specs.declared.header.RecordFault.{RecordFault}
use Rattle.mseed_header.specs.declared.header.RecordFault.TheVariants.{Short}
use Rattle.epochs.specs.Kinds.{Text}
use Rattle.epochs.specs.Lines.{LineValues}
use Rattle.epochs.specs.declared.fault.RevisionFault.{RevisionFault}
use Rattle.epochs.specs.declared.fault.RevisionFault.TheVariants as revision
use Rattle.epoch_rules.specs.declared.rule.Rule.{Rule}
use Rattle.epoch_rules.specs.Kept.{first_broken}
use Rattle.archive_entry.specs.Batches.{batch_of}
use Rattle.archive_entry.specs.Bodies.{revision_of}
use Rattle.archive_entry.specs.declared.entry.Entry.{Entry}
use Rattle.archive_entry.specs.declared.entry.Kind.{Kind}
use Rattle.archive_entry.specs.declared.entry.Kind.TheVariants.{Batch, Revise}
use Rattle.archive_state.specs.declared.limits.Limits.{Limits}
use Rattle.archive_state.specs.declared.verdict.Verdict.{Verdict}
use Rattle.archive_state.specs.declared.verdict.Verdict.TheVariants.{Role, Repeat, OtherBody, Gap, BadRecord, FullRecords, FullBytes, Accept}
use Rattle.archive_state.specs.History.{live_of, earlier_of, last_seq, may_post}
use Rattle.archive_state.specs.Lawful.{is_accept, full, is_founding, is_later, is_next, is_lawful}
use Rattle.archive_state.specs.Sendings.{Sending, can_be_sent, after_one, after_all}
use Rattle.archive_state.specs.Verdicts.{Command, is_kind, Totals, totals_of, within_bytes, within_records, batch_verdict, kept_verdict, revise_verdict, body_verdict, beside, judged_of, entry_of}
use Rattle.archive_state.proofs.Accepts.{Accepts, chosen, accepted, next_number}
use Rattle.archive_state.proofs.Growth.{lawful_more, lawful_by_each}
use Rattle.archive_state.proofs.Once.{once}

-- ---- what smaller limits accept, the greatest accept too

-- of a choice where it isn't refused
passed : (b : Bool) (v w : Verdict) → b ≡ false → Accepts w → Accepts (cond b v w)
passed true v w apart h = absurd cc
passed false v w apart h = h

below : (least most n : ℕ) → nat_lt least n ≡ false → nat_le least most ≡ true → nat_lt most n ≡ false
below least most n h k = grind (arith, nat_tests)

records_limit : (limits : Limits) → nat_le limits.max_records 2_097_152 ≡ true
records_limit limits = (and_parts (nat_le 1 limits.max_records) (nat_le limits.max_records 2_097_152) limits.records_in).1

archive_limit : (limits : Limits) → nat_le limits.max_archive 536_870_912 ≡ true
archive_limit limits = (and_parts (nat_le 1 limits.max_archive) (nat_le limits.max_archive 536_870_912) limits.archive_in).1

bytes_more_room : (t : Totals) (limits : Limits) (body : List ℕ) → Accepts (within_bytes t limits body) → Accepts (within_bytes t full body)
bytes_more_room t limits body h =
    let n = t.bytes + length body in
    let test = (chosen (nat_lt limits.max_archive n) (FullBytes n) (Accept (t.count + 1)) h refl).0 in
    passed (nat_lt 536_870_912 n) (FullBytes n) (Accept (t.count + 1)) (below limits.max_archive 536_870_912 n test (archive_limit limits)) refl

records_more_room : (t : Totals) (limits : Limits) (body : List ℕ) (more : ℕ) → Accepts (within_records t limits body more) → Accepts (within_records t full body more)
records_more_room t limits body more h =
    let n = t.records + more in
    let rest = chosen (nat_lt limits.max_records n) (FullRecords n) (within_bytes t limits body) h refl in
    passed (nat_lt 2_097_152 n) (FullRecords n) (within_bytes t full body) (below limits.max_records 2_097_152 n rest.0 (records_limit limits)) (bytes_more_room t limits body rest.1)

batch_more_room : (t : Totals) (limits : Limits) (body : List ℕ) (r : Result ℕ (ℕ × RecordFault)) → Accepts (batch_verdict t limits body r) → Accepts (batch_verdict t full body r)
batch_more_room t limits body (Err bad) h = h
batch_more_room t limits body (Ok more) h = records_more_room t limits body more h

kept_more_room : (t : Totals) (limits : Limits) (body : List ℕ) (broken : Option (ℕ × Rule)) → Accepts (kept_verdict t limits body broken) → Accepts (kept_verdict t full body broken)
kept_more_room t limits body (Some broken) h = h
kept_more_room t limits body None h = bytes_more_room t limits body h

revise_more_room : (t : Totals) (limits : Limits) (body : List ℕ) (r : Result (List LineValues) RevisionFault) → Accepts (revise_verdict t limits body r) → Accepts (revise_verdict t full body r)
revise_more_room t limits body (Ok lines) h = kept_more_room t limits body (first_broken t.live lines) h
revise_more_room t limits body (Err (revision.Bad line fault)) h = h
revise_more_room t limits body (Err revision.OutOfMemory) h = h

body_more_room : (t : Totals) (limits : Limits) (kind : Kind) (body : List ℕ) → Accepts (body_verdict t limits kind body) → Accepts (body_verdict t full kind body)
body_more_room t limits Batch body h =
    let rest = chosen (length body == 0) (BadRecord 0 Short) (batch_verdict t limits body (batch_of body)) h refl in
    passed (length body == 0) (BadRecord 0 Short) (batch_verdict t full body (batch_of body)) rest.0 (batch_more_room t limits body (batch_of body) rest.1)
body_more_room t limits Revise body h = revise_more_room t limits body (revision_of body) h

pub no_gap : (last seq : ℕ) → seq ≤ last + 1 → nat_lt (last + 1) seq ≡ false
no_gap last seq h = grind (arith, nat_tests)

pub accepted_in_full : (h : List Entry) (limits : Limits) (c : Command) → Accepts (judged_of h limits c) → Accepts (judged_of h full c)
unfolding judged_of
accepted_in_full h limits c is =
    let says = accepted h limits c is in
    let t = totals_of h in
    let last = last_seq h c.author in
    let inner : Accepts (beside t full c None last) =
    passed (nat_lt (last + 1) c.seq) (Gap last) (body_verdict t full c.kind c.body) (no_gap last c.seq says.follows) (body_more_room t limits c.kind c.body says.body) in
    let beside_is : Accepts (beside t full c (earlier_of h c.author c.seq) last) = subst (λ (o : Option Entry). Accepts (beside t full c o last)) (sym says.none) inner in
    subst (λ (b : Bool). Accepts (cond b (beside t full c (earlier_of h c.author c.seq) last) Role)) (sym says.may) beside_is

-- ---- one command more

some_live : (e : Entry) (h : List Entry) → (length (e ∷ h) == 0) ≡ false
some_live e h = grind (arith, nat_tests)

may_none : (kind : Kind) (author : Text) → may_post (live_of []) author kind ≡ false
may_none Batch author = refl
may_none Revise author = refl

number_same : (n : ℕ) → (n == n) ≡ true
number_same n = grind (arith, nat_tests)

-- the entry of an accepted command is the next one
pub accepted_is_next : (h : List Entry) (limits : Limits) (s : Sending) → can_be_sent s ≡ true → Accepts (judged_of h limits s.command) → is_next h (entry_of h s.command s.moment) ≡ true
unfolding is_next
accepted_is_next [] limits s fit is = absurd (let f : false ≡ true = sym (may_none s.command.kind s.command.author) ∙ (accepted [] limits s.command is).may in cc)
accepted_is_next (e ∷ h) limits s fit is =
    let past = e ∷ h in
    let entry = entry_of past s.command s.moment in
    ap (λ (b : Bool). if b then is_founding entry else is_later past entry) (some_live e h)
    ∙ (λ i. (number_same (length past + 1) i && fit i) && accepted_in_full past limits s.command is i)

one_more_lawful : (limits : Limits) (h : List Entry) (s : Sending) → is_lawful h ≡ true → can_be_sent s ≡ true → is_lawful (after_one limits h s) ≡ true
one_more_lawful limits h s lawful fit =
    elim (is_accept (judged_of h limits s.command)) as (λ b. is_accept (judged_of h limits s.command) ≡ b → is_lawful (if b then h ++ entry_of h s.command s.moment ∷ [] else h) ≡ true) [
      | true ↦ λ is. lawful_more h (entry_of h s.command s.moment) ∙ (λ i. lawful i && accepted_is_next h limits s fit is i)
      | false ↦ λ is. lawful
    ] refl

-- a lawful history stays lawful by whatever is sent
pub all_lawful : (limits : Limits) (h : List Entry) (sent : List Sending) → is_lawful h ≡ true → list_all can_be_sent sent ≡ true → is_lawful (after_all limits h sent) ≡ true
all_lawful limits h [] lawful fit = lawful
all_lawful limits h (s ∷ sent) lawful fit =
    let parts = and_parts (can_be_sent s) (list_all can_be_sent sent) fit in
    all_lawful limits (after_one limits h s) sent (one_more_lawful limits h s lawful parts.0) parts.1

-- and begins as it was
abbrev pub BeginsWith : List Entry → List Entry → Type 0
BeginsWith new old = (more : List Entry) × (new ≡ old ++ more)

one_more_begins : (limits : Limits) (h : List Entry) (s : Sending) → BeginsWith (after_one limits h s) h
one_more_begins limits h s =
    elim (is_accept (judged_of h limits s.command)) as (λ b. BeginsWith (if b then h ++ entry_of h s.command s.moment ∷ [] else h) h) [
      | true ↦ (entry_of h s.command s.moment ∷ [], refl)
      | false ↦ ([], sym (append-nil h))
    ]

pub all_begin : (limits : Limits) (h : List Entry) (sent : List Sending) → BeginsWith (after_all limits h sent) h
all_begin limits h [] = ([], sym (append-nil h))
all_begin limits h (s ∷ sent) =
    let first = one_more_begins limits h s in
    let rest = all_begin limits (after_one limits h s) sent in
    (first.0 ++ rest.0, rest.1 ∙ ap (λ (xs : List Entry). xs ++ rest.0) first.1 ∙ append_assoc h first.0 rest.0)

-- ---- an author and a sequence number stand once

same_some : (a b : Entry) → Some a ≡ Some b → a ≡ b
same_some a b h = cc

taken_length : (h : List Entry) (n : ℕ) (e : Entry) → slice_get h n ≡ Some e → length (take n h) ≡ n
taken_length [] n e at = absurd cc
taken_length (x ∷ h) zero e at = refl
taken_length (x ∷ h) (suc n) e at = ap suc (taken_length h n e at)

-- an entry's number is its place, from 1
pub number_at : (h : List Entry) (n : ℕ) (e : Entry) → is_lawful h ≡ true → slice_get h n ≡ Some e → e.number ≡ n + 1
number_at h n e lawful at = next_number (take n h) e ((lawful_by_each h).0 lawful n e at) ∙ ap (λ (k : ℕ). k + 1) (taken_length h n e at)

pub one_place : (h : List Entry) (i j : ℕ) (e d : Entry) → is_lawful h ≡ true → slice_get h i ≡ Some e → slice_get h j ≡ Some d → 1 ≤ e.seq → e.author ≡ d.author → e.seq ≡ d.seq → i ≡ j
one_place h i j e d lawful at_e at_d some author seq =
    let first = once h lawful i e at_e some in
    let second = once h lawful j d at_d (subst (λ (n : ℕ). 1 ≤ n) seq some) in
    let same : e ≡ d = same_some e d (sym first ∙ (λ k. earlier_of h (author k) (seq k)) ∙ second) in
    let number : e.number ≡ d.number = ap (λ (x : Entry). x.number) same in
    omega (arith, number, number_at h i e lawful at_e, number_at h j d lawful at_d)

-- what a command of an author with a used sequence number is answered
pub known_verdict : (h : List Entry) (limits : Limits) (c : Command) (n : ℕ) (e : Entry) → is_lawful h ≡ true → slice_get h n ≡ Some e → 1 ≤ e.seq → e.author ≡ c.author → e.seq ≡ c.seq
    → judged_of h limits c ≡ (if may_post (live_of h) c.author c.kind then (if is_kind e.kind c.kind && bytes_eq e.body c.body then Repeat e.number else OtherBody e.number) else Role)
unfolding judged_of
known_verdict h limits c n e lawful at some author seq =
    let found : earlier_of h c.author c.seq ≡ Some e = (λ i. earlier_of h (sym author i) (sym seq i)) ∙ once h lawful n e at some in
    ap (λ (o : Option Entry). if may_post (live_of h) c.author c.kind then beside (totals_of h) limits c o (last_seq h c.author) else Role) found
