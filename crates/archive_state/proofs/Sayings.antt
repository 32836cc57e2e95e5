-- What each verdict says of the history and of the command.
use Rattle.std.proofs.Common.{◌≡◌, inl, inr, ◌==◌, ◌&&◌, ℕ, ◌+◌, ◌<◌, ◌≤◌, Bool, true, false, cond, List, [], length, Option, None, Some, Result, Ok, Err, MatchResult, refl, sym, ap, ◌∙◌, subst, arith}
use Rattle.std.specs.Prelude.{nat_lt}
use Rattle.std.specs.List.{flat_map}
use Rattle.std.specs.Str.{bytes_eq}
use Rattle.std.proofs.lemmas.Bool.{and_parts, eqb-true}
use Rattle.std.proofs.lemmas.Bool.Decides.{nat_tests}
use Rattle.std.proofs.lemmas.List.{nil_from_length}
use Rattle.std.proofs.lemmas.Slice.Eq.{bytes_eq-Decides}
use Rattle.epochs.specs.Lines.{LineValues}
use Rattle.epochs.specs.Revisions.{IsRevision, IsRevisionFault}
use Rattle.epochs.specs.declared.fault.RevisionFault.{RevisionFault}
use Rattle.epochs.specs.declared.fault.RevisionFault.TheVariants as revision
use Rattle.epoch_rules.specs.Kept.{first_broken}
use Rattle.epoch_rules.specs.declared.rule.Rule.{Rule}
use Rattle.epoch_rules.proofs.LiveByKey.{live_says, live_sorted}
use Rattle.epoch_rules.proofs.OneCheck.{broken_from_some, kept_from_none}
use Rattle.mseed_header.specs.Octets.{AreOctets}
use Rattle.mseed_header.specs.Records.{HasRecordCount, IsRefusedFirst}
use Rattle.mseed_header.specs.declared.header.RecordFault.{RecordFault}
use Rattle.mseed_header.specs.declared.header.RecordFault.TheVariants.{Short}
use Rattle.archive_entry.specs.Batches.{batch_of}
use Rattle.archive_entry.specs.Bodies.{revision_of, revision_of-only}
use Rattle.archive_entry.specs.declared.entry.Entry.{Entry}
use Rattle.archive_entry.specs.declared.entry.Kind.{Kind}
use Rattle.archive_entry.specs.declared.entry.Kind.TheVariants.{Batch, Revise}
use Rattle.archive_entry.proofs.Readings.{batch_of-only}
use Rattle.archive_state.specs.History.{lines_of, live_of, records_of, earlier_of, last_seq, may_post}
use Rattle.archive_state.specs.VerdictLaw.{IsNew, IsBatchOf, FitsRecords, bytes_with, BringsSame, SaysBeside, Says}
use Rattle.archive_state.specs.Verdicts.{Command, is_kind, totals_of, within_bytes, within_records, batch_verdict, kept_verdict, revise_verdict, body_verdict, beside, judged_of}
use Rattle.archive_state.specs.declared.limits.Limits.{Limits}
use Rattle.archive_state.specs.declared.verdict.Verdict.{Verdict}
use Rattle.archive_state.specs.declared.verdict.Verdict.TheVariants.{Role, Repeat, OtherBody, Gap, BadRecord, FullRecords, FullBytes, Accept}

less_from : (m n : ℕ) → nat_lt m n ≡ true → m < n
less_from m n h = grind (arith, nat_tests)

not_less : (m n : ℕ) → nat_lt m n ≡ false → n ≤ m
not_less m n h = grind (arith, nat_tests)

pub kind_from : (a b : Kind) → is_kind a b ≡ true → a ≡ b
kind_from Batch Batch h = refl
kind_from Batch Revise h = absurd cc
kind_from Revise Batch h = absurd cc
kind_from Revise Revise h = refl

pub kind_to : (a b : Kind) → a ≡ b → is_kind a b ≡ true
kind_to Batch b e = subst (λ (k : Kind). is_kind Batch k ≡ true) e refl
kind_to Revise b e = subst (λ (k : Kind). is_kind Revise k ≡ true) e refl

module _ (h : List Entry) (limits : Limits) (c : Command) where
  abbrev Here : Verdict → Type 0
  Here verdict = SaysBeside h limits c verdict

  -- a choice says what the side says that is chosen
  of_choice : (b : Bool) (v w : Verdict) → (b ≡ true → Here v) → (b ≡ false → Here w) → Here (cond b v w)
  of_choice true v w so not_so = so refl
  of_choice false v w so not_so = not_so refl

  of_bytes : IsNew h c → FitsRecords h limits c → Here (within_bytes (totals_of h) limits c.body)
  of_bytes new fits =
      of_choice (nat_lt limits.max_archive (bytes_with h c)) (FullBytes (bytes_with h c)) (Accept (length h + 1))
      (λ above. (new, fits, refl, less_from limits.max_archive (bytes_with h c) above))
      (λ within. (new, fits, not_less limits.max_archive (bytes_with h c) within, refl))

  of_records : IsNew h c → (count : ℕ) → IsBatchOf c count → Here (within_records (totals_of h) limits c.body count)
  of_records new count batch =
      of_choice (nat_lt limits.max_records (records_of h + count)) (FullRecords (records_of h + count)) (within_bytes (totals_of h) limits c.body)
      (λ above. (new, (count, batch, refl), less_from limits.max_records (records_of h + count) above))
      (λ within. of_bytes new (inl (count, batch, not_less limits.max_records (records_of h + count) within)))

  of_batch : IsNew h c → c.kind ≡ Batch → (c.body ≡ [] → ⊥) → (r : Result ℕ (ℕ × RecordFault)) → MatchResult r (HasRecordCount c.body) (IsRefusedFirst c.body) → Here (batch_verdict (totals_of h) limits c.body r)
  of_batch new kind some (Ok count) right = of_records new count (record { kind_is = kind; some = some; records = right })
  of_batch new kind some (Err bad) right = (new, kind, inr right)

  of_kept : IsNew h c → c.kind ≡ Revise → (lines : List LineValues) → IsRevision c.body lines → (first : Option (ℕ × Rule)) → first_broken (live_of h) lines ≡ first → Here (kept_verdict (totals_of h) limits c.body first)
  of_kept new kind lines spelled (Some broken) is = (
    new,
    record {
      kind_is = kind;
      lines = lines;
      spelled = spelled;
      place = broken.0;
      broken = broken_from_some (live_of h) (live_sorted (flat_map lines_of h)) (live_says (flat_map lines_of h)) lines broken.0 broken.1 is;
      number_is = refl;
    },
  )
  of_kept new kind lines spelled None is = of_bytes new (inr (lines, record { kind_is = kind; spelled = spelled; kept = kept_from_none 1 (live_of h) lines is }))

  of_revision : IsNew h c → c.kind ≡ Revise → (r : Result (List LineValues) RevisionFault) → MatchResult r (IsRevision c.body) (IsRevisionFault c.body) → Here (revise_verdict (totals_of h) limits c.body r)
  of_revision new kind (Ok lines) right = of_kept new kind lines right (first_broken (live_of h) lines) refl
  of_revision new kind (Err (revision.Bad line fault)) right = (new, record { kind_is = kind; bad = right })
  of_revision new kind (Err revision.OutOfMemory) right = absurd right

  of_body : AreOctets c.body → IsNew h c → (kind : Kind) → c.kind ≡ kind → Here (body_verdict (totals_of h) limits kind c.body)
  of_body octets new Batch is =
      of_choice (length c.body == 0) (BadRecord 0 Short) (batch_verdict (totals_of h) limits c.body (batch_of c.body))
      (λ none. (new, is, inl (nil_from_length c.body (eqb-true (length c.body) 0 none), refl)))
      (λ some. of_batch new is (not_nil some) (batch_of c.body) ((batch_of-only c.body octets).right))
    where
      not_nil : (length c.body == 0) ≡ false → c.body ≡ [] → ⊥
      not_nil some none = let both : true ≡ false = ap (λ (xs : List ℕ). length xs == 0) (sym none) ∙ some in absurd cc
  of_body octets new Revise is = of_revision new is (revision_of c.body) ((revision_of-only c.body).right)

  of_earlier : (e : Entry) → earlier_of h c.author c.seq ≡ Some e → Here (cond (is_kind e.kind c.kind && bytes_eq e.body c.body) (Repeat e.number) (OtherBody e.number))
  of_earlier e found =
      of_choice (is_kind e.kind c.kind && bytes_eq e.body c.body) (Repeat e.number) (OtherBody e.number)
      (λ same. (let parts = and_parts (is_kind e.kind c.kind) (bytes_eq e.body c.body) same in
      (e, record { found = found; number_is = refl }, (kind_from e.kind c.kind parts.0, (bytes_eq-Decides e.body c.body).0 parts.1))))
      (λ other. (e, record { found = found; number_is = refl }, λ same. apart same other))
    where
      apart : BringsSame e c → (is_kind e.kind c.kind && bytes_eq e.body c.body) ≡ false → ⊥
      apart same other =
          let both : true ≡ false = (λ i. sym (kind_to e.kind c.kind same.0) i && sym ((bytes_eq-Decides e.body c.body).1 same.1) i) ∙ other in
          absurd cc

  of_beside : AreOctets c.body → (earlier : Option Entry) → earlier_of h c.author c.seq ≡ earlier → Here (beside (totals_of h) limits c earlier (last_seq h c.author))
  of_beside octets (Some e) found = of_earlier e found
  of_beside octets None none =
      of_choice (nat_lt (last_seq h c.author + 1) c.seq) (Gap (last_seq h c.author)) (body_verdict (totals_of h) limits c.kind c.body)
      (λ above. (none, refl, less_from (last_seq h c.author + 1) c.seq above))
      (λ within. of_body octets (record { none = none; follows = not_less (last_seq h c.author + 1) c.seq within }) c.kind refl)

  abbrev others : Verdict
  others = beside (totals_of h) limits c (earlier_of h c.author c.seq) (last_seq h c.author)

  pub says : AreOctets c.body → Says h limits c (judged_of h limits c)
  unfolding judged_of
  says octets = by (may_post (live_of h) c.author c.kind) refl
    where
      by : (may : Bool) → may_post (live_of h) c.author c.kind ≡ may → Says h limits c (cond (may_post (live_of h) c.author c.kind) others Role)
      by true is = inr (is, subst Here (ap (λ (b : Bool). cond b others Role) (sym is)) (of_beside octets (earlier_of h c.author c.seq) refl))
      by false is = inl (is, ap (λ (b : Bool). cond b others Role) is)
