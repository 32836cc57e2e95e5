-- A verdict that says what holds is the verdict.
use Rattle.std.proofs.Common.{◌≡◌, inl, inr, ◌==◌, ◌&&◌, ℕ, ◌+◌, ◌<◌, ◌≤◌, zero, suc, Bool, true, false, cond, List, [], ◌∷◌, drop, length, Option, None, Some, Result, Ok, Err, refl, sym, ap, ◌∙◌, subst, arith}
use Rattle.std.specs.Prelude.{nat_lt}
use Rattle.std.specs.List.{flat_map}
use Rattle.std.specs.Str.{bytes_eq}
use Rattle.std.proofs.lemmas.Bool.{and_parts}
use Rattle.std.proofs.lemmas.Bool.Decides.{nat_tests}
use Rattle.std.proofs.lemmas.Slice.Eq.{bytes_eq-Decides}
use Rattle.epochs.specs.Lines.{LineValues}
use Rattle.epochs.specs.Revisions.{IsRevision}
use Rattle.epochs.specs.declared.fault.RevisionFault.TheVariants as revision
use Rattle.epoch_rules.specs.Kept.{AreKept, IsFirstBroken, first_broken}
use Rattle.epoch_rules.specs.declared.rule.Rule.{Rule}
use Rattle.epoch_rules.specs.declared.rule.CheckFault.TheVariants as fault
use Rattle.epoch_rules.proofs.LiveByKey.{live_says, live_sorted}
use Rattle.epoch_rules.proofs.OneCheck.{one_verdict}
use Rattle.mseed_header.specs.Octets.{AreOctets}
use Rattle.mseed_header.specs.declared.header.RecordFault.{RecordFault}
use Rattle.mseed_header.specs.declared.header.RecordFault.TheVariants.{Short}
use Rattle.archive_entry.specs.Batches.{batch_of}
use Rattle.archive_entry.specs.declared.entry.Entry.{Entry}
use Rattle.archive_entry.specs.declared.entry.Kind.{Kind}
use Rattle.archive_entry.specs.declared.entry.Kind.TheVariants.{Batch, Revise}
use Rattle.archive_entry.proofs.Readings.{batch_of-only, revision_is}
use Rattle.archive_state.specs.History.{lines_of, live_of, records_of, earlier_of, last_seq}
use Rattle.archive_state.specs.VerdictLaw.{IsNew, IsBatchOf, IsBadBatch, FitsRecords, bytes_with, BringsSame, SaysBeside, Says}
use Rattle.archive_state.specs.Verdicts.{Command, is_kind, totals_of, within_bytes, within_records, batch_verdict, kept_verdict, revise_verdict, body_verdict, beside, judged_of}
use Rattle.archive_state.specs.declared.limits.Limits.{Limits}
use Rattle.archive_state.specs.declared.verdict.Verdict.{Verdict}
use Rattle.archive_state.specs.declared.verdict.Verdict.TheVariants.{Denied, Role, Repeat, OtherBody, Gap, BadRecord, BadLine, Broken, FullRecords, FullBytes, Accept}
use Rattle.archive_state.proofs.Checks.{none_broken, some_broken}
use Rattle.archive_state.proofs.Sayings.{kind_from, kind_to}
use Rattle.archive_state.proofs.Sendings.{no_gap}

above : (m n : ℕ) → m < n → nat_lt m n ≡ true
above m n h = grind (arith, nat_tests)

within : (m n : ℕ) → n ≤ m → nat_lt m n ≡ false
within m n h = grind (arith, nat_tests)

false_by : (b : Bool) → (b ≡ true → ⊥) → b ≡ false
false_by true h = absurd (h refl)
false_by false h = refl

empty : (bytes : List ℕ) → bytes ≡ [] → (length bytes == 0) ≡ true
empty bytes e = ap (λ (xs : List ℕ). length xs == 0) e

not_empty : (bytes : List ℕ) → (bytes ≡ [] → ⊥) → (length bytes == 0) ≡ false
not_empty [] some = absurd (some refl)
not_empty (c ∷ bytes) some = grind (arith, nat_tests)

drop_none : (n : ℕ) (bytes : List ℕ) → bytes ≡ [] → drop n bytes ≡ []
drop_none n bytes e = ap (drop n) e ∙ nothing n
  where
    nothing : (n : ℕ) → drop {A = ℕ} n [] ≡ []
    nothing zero = refl
    nothing (suc n) = refl

module _ (h : List Entry) (limits : Limits) (c : Command) (octets : AreOctets c.body) where
  abbrev Is : Verdict → Type 0
  Is v = beside (totals_of h) limits c (earlier_of h c.author c.seq) (last_seq h c.author) ≡ v

  abbrev IsBody : Verdict → Type 0
  IsBody v = body_verdict (totals_of h) limits c.kind c.body ≡ v

  of_new : IsNew h c → (v : Verdict) → IsBody v → Is v
  of_new new v body =
      ap (λ (o : Option Entry). beside (totals_of h) limits c o (last_seq h c.author)) new.none
      ∙ ap (λ (b : Bool). cond b (Gap (last_seq h c.author)) (body_verdict (totals_of h) limits c.kind c.body)) (no_gap (last_seq h c.author) c.seq new.follows)
      ∙ body

  of_known : (e : Entry) → earlier_of h c.author c.seq ≡ Some e → (b : Bool) → (is_kind e.kind c.kind && bytes_eq e.body c.body) ≡ b → Is (cond b (Repeat e.number) (OtherBody e.number))
  of_known e found b test =
      ap (λ (o : Option Entry). beside (totals_of h) limits c o (last_seq h c.author)) found
      ∙ ap (λ (b : Bool). cond b (Repeat e.number) (OtherBody e.number)) test

  of_kind : (k : Kind) → c.kind ≡ k → (v : Verdict) → body_verdict (totals_of h) limits k c.body ≡ v → IsBody v
  of_kind k is v body = ap (λ (k : Kind). body_verdict (totals_of h) limits k c.body) is ∙ body

  of_reading : (c.body ≡ [] → ⊥) → c.kind ≡ Batch → (r : Result ℕ (ℕ × RecordFault)) → batch_of c.body ≡ r → (v : Verdict) → batch_verdict (totals_of h) limits c.body r ≡ v → IsBody v
  of_reading some kind r is v rest =
      of_kind Batch kind v
      (ap (λ (b : Bool). cond b (BadRecord 0 Short) (batch_verdict (totals_of h) limits c.body (batch_of c.body))) (not_empty c.body some)
      ∙ ap (batch_verdict (totals_of h) limits c.body) is ∙ rest)

  of_batch : (count : ℕ) → IsBatchOf c count → (v : Verdict) → within_records (totals_of h) limits c.body count ≡ v → IsBody v
  of_batch count b v rest = of_reading b.some b.kind_is (Ok count) (sym ((batch_of-only c.body octets).only (Ok count) b.records)) v rest

  of_revision : (lines : List LineValues) → c.kind ≡ Revise → IsRevision c.body lines → (first : Option (ℕ × Rule)) → first_broken (live_of h) lines ≡ first → (v : Verdict) → kept_verdict (totals_of h) limits c.body first ≡ v → IsBody v
  of_revision lines kind spelled first is v rest =
      of_kind Revise kind v
      (ap (revise_verdict (totals_of h) limits c.body) (revision_is c.body (Ok lines) spelled)
      ∙ ap (kept_verdict (totals_of h) limits c.body) is ∙ rest)

  kept_none : (lines : List LineValues) → AreKept (live_of h) lines → first_broken (live_of h) lines ≡ None
  kept_none lines kept =
      sym (none_broken (first_broken (live_of h) lines) (inr ((one_verdict (live_of h) (live_sorted (flat_map lines_of h)) (live_says (flat_map lines_of h)) lines).only (Ok tt) kept)))

  broken_some : (lines : List LineValues) (place : ℕ) (rule : Rule) → IsFirstBroken (live_of h) lines place rule → first_broken (live_of h) lines ≡ Some (place, rule)
  broken_some lines place rule broken =
      sym (some_broken (first_broken (live_of h) lines) place rule
      (inr ((one_verdict (live_of h) (live_sorted (flat_map lines_of h)) (live_says (flat_map lines_of h)) lines).only (Err (fault.Broken place rule)) broken)))

  of_fits : FitsRecords h limits c → (v : Verdict) → within_bytes (totals_of h) limits c.body ≡ v → IsBody v
  of_fits (inl batch) v rest =
      of_batch batch.0 batch.1 v
      (ap (λ (b : Bool). cond b (FullRecords (records_of h + batch.0)) (within_bytes (totals_of h) limits c.body)) (within limits.max_records (records_of h + batch.0) batch.2) ∙ rest)
  of_fits (inr lines) v rest = of_revision lines.0 lines.1.kind_is lines.1.spelled None (kept_none lines.0 lines.1.kept) v rest

  bad_batch : (at : ℕ) (bad : RecordFault) → c.kind ≡ Batch → IsBadBatch c.body (at, bad) → IsBody (BadRecord at bad)
  bad_batch at bad kind (inl none) =
      of_kind Batch kind (BadRecord at bad)
      (ap (λ (b : Bool). cond b (BadRecord 0 Short) (batch_verdict (totals_of h) limits c.body (batch_of c.body))) (empty c.body none.0)
      ∙ ap (λ (p : ℕ × RecordFault). BadRecord p.0 p.1) (sym none.1))
  bad_batch at bad kind (inr refused) =
      of_reading (λ none. refused.some (drop_none at c.body none)) kind (Err (at, bad)) (sym ((batch_of-only c.body octets).only (Err (at, bad)) refused)) (BadRecord at bad) refl

  same_test : (e : Entry) → BringsSame e c → (is_kind e.kind c.kind && bytes_eq e.body c.body) ≡ true
  same_test e same = λ i. kind_to e.kind c.kind same.0 i && (bytes_eq-Decides e.body c.body).1 same.1 i

  other_test : (e : Entry) → (BringsSame e c → ⊥) → (is_kind e.kind c.kind && bytes_eq e.body c.body) ≡ false
  other_test e other =
      false_by (is_kind e.kind c.kind && bytes_eq e.body c.body)
      (λ is. (let parts = and_parts (is_kind e.kind c.kind) (bytes_eq e.body c.body) is in
      other (kind_from e.kind c.kind parts.0, (bytes_eq-Decides e.body c.body).0 parts.1)))

  one_beside : (v : Verdict) → SaysBeside h limits c v → Is v
  one_beside (Denied denial) s = absurd s
  one_beside Role s = absurd s
  one_beside (Repeat n) s = of_known s.0 s.1.found true (same_test s.0 s.2) ∙ ap Repeat s.1.number_is
  one_beside (OtherBody n) s = of_known s.0 s.1.found false (other_test s.0 s.2) ∙ ap OtherBody s.1.number_is
  one_beside (Gap last) s =
      ap (λ (o : Option Entry). beside (totals_of h) limits c o (last_seq h c.author)) s.0
      ∙ ap (λ (b : Bool). cond b (Gap (last_seq h c.author)) (body_verdict (totals_of h) limits c.kind c.body))
      (above (last_seq h c.author + 1) c.seq (subst (λ (n : ℕ). n + 1 < c.seq) s.1 s.2))
      ∙ ap Gap (sym s.1)
  one_beside (BadRecord at bad) s = of_new s.0 (BadRecord at bad) (bad_batch at bad s.1 s.2)
  one_beside (BadLine line bad) s =
      of_new s.0 (BadLine line bad) (of_kind Revise s.1.kind_is (BadLine line bad) (ap (revise_verdict (totals_of h) limits c.body) (revision_is c.body (Err (revision.Bad line bad)) s.1.bad)))
  one_beside (Broken line rule) s =
      of_new s.0 (Broken line rule)
      (of_revision s.1.lines s.1.kind_is s.1.spelled (Some (s.1.place, rule)) (broken_some s.1.lines s.1.place rule s.1.broken) (Broken line rule) (ap (λ (n : ℕ). Broken n rule) (sym s.1.number_is)))
  one_beside (FullRecords n) s =
      of_new s.0 (FullRecords n)
      (of_batch s.1.0 s.1.1 (FullRecords n)
      (ap (λ (b : Bool). cond b (FullRecords (records_of h + s.1.0)) (within_bytes (totals_of h) limits c.body))
      (above limits.max_records (records_of h + s.1.0) (subst (λ (m : ℕ). limits.max_records < m) s.1.2 s.2))
      ∙ ap FullRecords (sym s.1.2)))
  one_beside (FullBytes n) s =
      of_new s.0 (FullBytes n)
      (of_fits s.1 (FullBytes n)
      (ap (λ (b : Bool). cond b (FullBytes (bytes_with h c)) (Accept (length h + 1)))
      (above limits.max_archive (bytes_with h c) (subst (λ (m : ℕ). limits.max_archive < m) s.2 s.3))
      ∙ ap FullBytes (sym s.2)))
  one_beside (Accept n) s =
      of_new s.0 (Accept n)
      (of_fits s.1 (Accept n)
      (ap (λ (b : Bool). cond b (FullBytes (bytes_with h c)) (Accept (length h + 1))) (within limits.max_archive (bytes_with h c) s.2)
      ∙ ap Accept (sym s.3)))

  pub only_one : (v : Verdict) → Says h limits c v → judged_of h limits c ≡ v
  unfolding judged_of
  only_one v (inl role) = ap (λ (b : Bool). cond b (beside (totals_of h) limits c (earlier_of h c.author c.seq) (last_seq h c.author)) Role) role.0 ∙ sym role.1
  only_one v (inr said) =
      ap (λ (b : Bool). cond b (beside (totals_of h) limits c (earlier_of h c.author c.seq) (last_seq h c.author)) Role) said.0 ∙ one_beside v said.1
