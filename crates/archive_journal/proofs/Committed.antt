-- What a commit does, from what it does to the disk.
use Rattle.std.proofs.Common.{◌≡◌, ℕ, ◌+◌, ◌-◌, List, [], ◌∷◌, ◌++◌, length, Bool, true, false, Result, Ok, Err, OnOk, OnErr, IfOk, IsErr, refl, sym, ◌∙◌, ap, subst, arith}
use Rattle.std.proofs.lemmas.List.{take_all}
use Rattle.std.proofs.lemmas.Bool.{false≢true}
use Rattle.exact_time.specs.declared.error.Failed.{Failed}
use Rattle.disk_model.specs.View.{DiskView, WhereTold, IsHonest, DiskRun, file_of}
use Rattle.disk_model.proofs.Moments.{weakened}
use Rattle.archive_journal.specs.Frames.{front_of, IsSized, Holds, HoldsWithOrWithout}
use Rattle.archive_journal.specs.Journal.{Opened, IsCommit, first_payloads, gate_of, added_to, HasGatesAt, IsJournalWithOrWithout, IsOpenJournal}
use Rattle.archive_journal.specs.Writing.{AddsFrame}
use Rattle.archive_journal.proofs.Kept.{length-placed, first_payloads-more, holds_either, found_added, added_payloads, found_holds, found_count}

-- at a fault, what holds there, and anything of Ok
on_err : {T E : Type 0} (P : Type 0) (r : Result T E) → P → OnErr r P
on_err P (Ok x) p = tt
on_err P (Err e) p = p

never_ok : {T E : Type 0} (P : Type 0) (r : Result T E) → IsErr r → OnOk r P
never_ok P (Ok x) failed = absurd (false≢true failed)
never_ok P (Err e) failed = tt

never_value : {T E : Type 0} (P : T → Type 0) (r : Result T E) → IsErr r → IfOk r P
never_value P (Ok x) failed = absurd (false≢true failed)
never_value P (Err e) failed = tt

-- a journal, as its fields show it
abbrev pub opened_as : {D : Type 0} → (D → DiskView) → D → ℕ → List ℕ → ℕ → Bool → Opened D
opened_as view disk faults offsets spare stopped = record {
  disk = disk;
  payloads = first_payloads (length offsets) (file_of (view disk));
  count = length offsets;
  spare = spare;
  stopped = stopped;
  faults = faults;
}

-- the closed gate stands where that of one payload more would
next_gate_is : (ps : List (List ℕ)) (offsets : List ℕ) (end : ℕ) → HasGatesAt ps offsets end → end ≡ gate_of ps (length offsets + 1)
next_gate_is ps offsets end placed = placed.end_is ∙ ap (λ (l : List (List ℕ)). length (front_of l)) (sym (take_all (length offsets + 1 - 1) ps (omega (arith, length-placed ps offsets end placed))))

module _ {D : Type 0} (E : Type 0) (view : D → DiskView) (disk disk' : D) (faults : ℕ) (offsets : List ℕ) (end spare : ℕ) (stopped : Bool) (kept : IsOpenJournal (view disk) faults offsets end stopped) (on : stopped ≡ false) (p : List ℕ) where
  -- a commit that failed
  pub commit_failed : WhereTold (view disk') (IsHonest (view disk')) → (fault : Failed) (result : Result ℕ E) → IsErr result → AddsFrame {T = Unit {0}} {E = Failed} end p (view disk) (view disk') (Err fault)
      → DiskRun (view disk) (view disk') (IsErr result × (stopped ≡ false)) (IsCommit view p (opened_as view disk faults offsets spare stopped) (opened_as view disk' faults offsets spare true) result)
  commit_failed honest fault result failed call = record {
    tells = call.tells;
    later = call.later;
    cause = λ _. call.cause refl;
    told = λ told.
        let ps = first_payloads (length offsets) (file_of (view disk)) in
        let settled = kept.settled told on in
        let frame = call.told told in
        let now = frame.now ps settled.journal settled.placed.end_is in
        let new = view disk' in
        let reads = (honest (call.tells ∙ told)).reads in record {
          any_moment = λ _. weakened (view disk) new (IsJournalWithOrWithout ps p) (HoldsWithOrWithout ps p) (holds_either ps p) (frame.any_moment ps settled.journal settled.placed.end_is);
          left = λ _ image left. holds_either ps p image (now image left);
          added = never_ok _ result failed;
          durable = never_ok _ result failed;
          written = never_ok _ result failed;
          last = never_value _ result failed;
          payloads = on_err _ result (first_payloads-more ps p (file_of new) (length offsets) (length-placed ps offsets end settled.placed) (now (file_of new) reads));
        };
  }

  -- a commit that is done
  pub commit_done : (offsets' : List ℕ) (spare' n : ℕ) → IsSized p → AddsFrame {T = Unit {0}} {E = Failed} end p (view disk) (view disk') (Ok tt) → offsets' ≡ offsets ++ end ∷ [] → n ≡ length offsets'
      → DiskRun (view disk) (view disk') ((false ≡ true) × (stopped ≡ false)) (IsCommit {E = E} view p (opened_as view disk faults offsets spare stopped) (opened_as view disk' faults offsets' spare' false) (Ok n))
  commit_done offsets' spare' n sized call pushed is = record {
    tells = call.tells;
    later = call.later;
    cause = λ failed. absurd (false≢true failed.0);
    told = λ told.
        let ps = first_payloads (length offsets) (file_of (view disk)) in
        let settled = kept.settled told on in
        let frame = call.told told in
        let new = view disk' in
        let found = found_added (view disk) ps offsets end settled p (file_of new) offsets' sized frame.written pushed in
        let qs = first_payloads (length offsets') (file_of new) in record {
          any_moment = λ _. weakened (view disk) new (IsJournalWithOrWithout ps p) (HoldsWithOrWithout ps p) (holds_either ps p) (frame.any_moment ps settled.journal settled.placed.end_is);
          left = λ _ image left. holds_either ps p image (frame.now ps settled.journal settled.placed.end_is image left);
          added = added_payloads (view disk) ps offsets end settled p (file_of new) offsets' sized frame.written pushed;
          durable = λ image left. subst (Holds qs) (sym (frame.durable image left)) (found_holds (file_of new) offsets' (end + (length p + 5)) found);
          written = frame.written ∙ ap (λ (gate : ℕ). added_to (file_of (view disk)) gate p) (next_gate_is ps offsets end settled.placed);
          last = is ∙ found_count (file_of new) offsets' (end + (length p + 5)) found;
          payloads = tt;
        };
  }
