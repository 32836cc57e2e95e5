-- What follows from what the type of a journal keeps.
use Rattle.std.proofs.Common.{◌≡◌, inl, inr, ⊎_elim, ℕ, ◌+◌, ◌<◌, ◌≤◌, ◌^◌, List, [], ◌∷◌, ◌++◌, length, take, Bool, true, false, refl, sym, ◌∙◌, ap, subst, arith}
use Rattle.std.proofs.lemmas.List.{take_at, take_all}
use Rattle.std.proofs.lemmas.Bool.{false≢true}
use Rattle.exact_time.specs.Causes.{Rose}
use Rattle.disk_model.specs.Disk.{Leaves}
use Rattle.disk_model.specs.View.{DiskView, WhereTold, IsHonest, IsSynced, AlwaysLeaves, is_told, file_of}
use Rattle.disk_model.specs.Effects.{OnlyReads}
use Rattle.disk_model.proofs.Moments.{at_rest_now}
use Rattle.archive_journal.specs.Frames.{magic, open_gate, body_of, reading_of, holding, front_of, IsSized, IsJournal, Holds, HoldsWithOrWithout}
use Rattle.archive_journal.specs.Journal.{gates_from, payloads_in, first_payloads, HasGatesAt, IsJournalWithOrWithout, IsOnDisk, IsHalted, IsOpenJournal, Keeps, added_to}
use Rattle.archive_journal.specs.Faults.{ExplainsRecover}
use Rattle.archive_journal.specs.Recovery.{IsFound, Explains}
use Rattle.archive_journal.specs.declared.fault.RecoverFault.{RecoverFault}
use Rattle.archive_journal.specs.declared.fault.RecoverFault.TheVariants.{DiskFault, NotAJournal, Damaged, OutOfMemory}
use Rattle.archive_journal.proofs.Adding.{added}
use Rattle.archive_journal.proofs.FrameLists.{all_push, front_of-push, length-front_of-push, gates_from-push}
use Rattle.archive_journal.proofs.Readings.{reading_of-journal, reading_of-damaged, reading_of-none}

length-gates_from : (at : ℕ) (ps : List (List ℕ)) → length (gates_from at ps) ≡ length ps
length-gates_from at [] = refl
length-gates_from at (p ∷ ps) = omega (arith, length-gates_from (at + 5 + length p) ps)

-- so many payloads as gates
pub length-placed : (ps : List (List ℕ)) (offsets : List ℕ) (end : ℕ) → HasGatesAt ps offsets end → length offsets ≡ length ps
length-placed ps offsets end placed = ap length placed.offsets_are ∙ length-gates_from 16 ps

-- the first payloads of a journal are all of them
pub first_payloads-journal : (ps : List (List ℕ)) (file : List ℕ) (count : ℕ) → count ≡ length ps → IsJournal ps file → first_payloads count file ≡ ps
first_payloads-journal ps file count is journal = ap (λ r. take count (payloads_in r)) (reading_of-journal ps file journal) ∙ take_all count ps (omega (arith, is))

-- or all but the last
pub first_payloads-more : (ps : List (List ℕ)) (p file : List ℕ) (count : ℕ) → count ≡ length ps → IsJournalWithOrWithout ps p file → first_payloads count file ≡ ps
first_payloads-more ps p file count is (inl journal) = first_payloads-journal ps file count is journal
first_payloads-more ps p file count is (inr journal) = ap (λ r. take count (payloads_in r)) (reading_of-journal (ps ++ p ∷ []) file journal) ∙ take_at ps (p ∷ []) count (sym is)

pub holds_either : (ps : List (List ℕ)) (p : List ℕ) → Leaves (IsJournalWithOrWithout ps p) (HoldsWithOrWithout ps p)
holds_either ps p file = ⊎_elim (λ journal. inl (reading_of-journal ps file journal)) (λ journal. inr (reading_of-journal (ps ++ p ∷ []) file journal))

module _ (view : DiskView) (faults : ℕ) (offsets : List ℕ) (end : ℕ) (stopped : Bool) (kept : IsOpenJournal view faults offsets end stopped) (told : is_told view ≡ true) where
  abbrev ps : List (List ℕ)
  ps = first_payloads (length offsets) (file_of view)

  placed_if : (b : Bool) → stopped ≡ b → HasGatesAt ps offsets end
  placed_if false is = (kept.settled told is).placed
  placed_if true is = (kept.halted told is).placed

  pub placed_now : HasGatesAt ps offsets end
  placed_now = placed_if stopped refl

  pub count_now : length offsets ≡ length ps
  count_now = length-placed ps offsets end placed_now

  -- while no commit failed, every image holds the payloads
  pub images_running : stopped ≡ false → Leaves view.may_leave (Holds ps)
  images_running on image left = let s = kept.settled told on in subst (Holds ps) (sym (s.synced image left)) (reading_of-journal ps (file_of view) s.journal)

  pub images_halted : stopped ≡ true → (hand : List ℕ) × Leaves view.may_leave (HoldsWithOrWithout ps hand)
  images_halted off = let h = kept.halted told off in (h.hand, λ image left. holds_either ps h.hand image (h.either image left))

  -- what a read gives begins with the payloads
  pub file_now : view.may_leave (file_of view) → (rest : List ℕ) × (file_of view ≡ front_of ps ++ rest)
  file_now reads = file_if stopped refl
    where
      file_if : (b : Bool) → stopped ≡ b → (rest : List ℕ) × (file_of view ≡ front_of ps ++ rest)
      file_if false is = let j = (kept.settled told is).journal in (j.gate ∷ j.rest, j.file_is)
      file_if true is =
          let h = kept.halted told is in
          elim (h.either (file_of view) reads) [
            | inl j ↦ (j.gate ∷ j.rest, j.file_is)
            | inr j ↦ (open_gate ∷ body_of h.hand ++ (j.gate ∷ j.rest), j.file_is ∙ front_of-push ps h.hand (j.gate ∷ j.rest))
          ]

  -- at rest every image holds the payloads, and so it does with a payload more or without
  pub images_at_rest : IsHonest view → stopped ≡ false → (payload : List ℕ) → AlwaysLeaves view view (HoldsWithOrWithout ps payload)
  images_at_rest honest on payload = at_rest_now view honest (HoldsWithOrWithout ps payload) (λ image left. inl (images_running on image left))

-- what an open journal keeps, over a disk that tells
pub keeps_now : {D : Type 0} → (view : D → DiskView) (disk : D) (faults : ℕ) (offsets : List ℕ) (end spare : ℕ) (stopped : Bool) → IsHonest (view disk) → IsOpenJournal (view disk) faults offsets end stopped → is_told (view disk) ≡ true
    → Keeps view (record { disk = disk; payloads = first_payloads (length offsets) (file_of (view disk)); count = length offsets; spare = spare; stopped = stopped; faults = faults })
keeps_now view disk faults offsets end spare stopped honest kept told = record {
  counted = count_now (view disk) faults offsets end stopped kept told;
  running = images_running (view disk) faults offsets end stopped kept told;
  rest = images_at_rest (view disk) faults offsets end stopped kept told honest;
  halted = images_halted (view disk) faults offsets end stopped kept told;
}

-- a file in which the frames were found holds its payloads
pub found_payloads : (file offsets : List ℕ) (end : ℕ) (found : IsFound file offsets end) → first_payloads (length offsets) file ≡ found.payloads
found_payloads file offsets end found = first_payloads-journal found.payloads file (length offsets) (length-placed found.payloads offsets end found.placed) found.journal

pub found_holds : (file offsets : List ℕ) (end : ℕ) → IsFound file offsets end → Holds (first_payloads (length offsets) file) file
found_holds file offsets end found = reading_of-journal found.payloads file found.journal ∙ ap holding (sym (found_payloads file offsets end found))

pub found_count : (file offsets : List ℕ) (end : ℕ) → IsFound file offsets end → length offsets ≡ length (first_payloads (length offsets) file)
found_count file offsets end found = length-placed found.payloads offsets end found.placed ∙ ap length (sym (found_payloads file offsets end found))

-- an empty journal
pub empty_journal : (file : List ℕ) → file ≡ magic ++ 0 ∷ [] → IsJournal [] file
unfolding front_of
empty_journal file is = record { gate = 0; rest = []; file_is = is; closed = omega arith; sized = tt }

pub found_empty : (file offsets : List ℕ) → file ≡ magic ++ 0 ∷ [] → offsets ≡ [] → IsFound file offsets 16
unfolding front_of
found_empty file offsets is none = record {
  payloads = [];
  journal = empty_journal file is;
  placed = record { sized = tt; offsets_are = none; end_is = refl };
}

-- a journal to which a frame was added
pub found_added : (view : DiskView) (ps : List (List ℕ)) (offsets : List ℕ) (end : ℕ) → IsOnDisk view ps offsets end → (p content' offsets' : List ℕ) → IsSized p → content' ≡ added_to (file_of view) end p → offsets' ≡ offsets ++ end ∷ []
    → IsFound content' offsets' (end + (length p + 5))
found_added view ps offsets end settled p content' offsets' sized is pushed =
    let placed = settled.placed in record {
      payloads = ps ++ p ∷ [];
      journal = subst (IsJournal (ps ++ p ∷ [])) (sym is) (added ps (file_of view) settled.journal end placed.end_is p sized);
      placed = record {
        sized = all_push IsSized ps p placed.sized sized;
        offsets_are = pushed ∙ (λ i. placed.offsets_are i ++ placed.end_is i ∷ []) ∙ sym (gates_from-push ps p);
        end_is = omega (arith, placed.end_is, length-front_of-push ps p);
      };
    }

-- has that payload behind the others
pub added_payloads : (view : DiskView) (ps : List (List ℕ)) (offsets : List ℕ) (end : ℕ) → IsOnDisk view ps offsets end → (p content' offsets' : List ℕ) → IsSized p → content' ≡ added_to (file_of view) end p → offsets' ≡ offsets ++ end ∷ []
    → first_payloads (length offsets') content' ≡ ps ++ p ∷ []
unfolding found_added
added_payloads view ps offsets end settled p content' offsets' sized is pushed = found_payloads content' offsets' (end + (length p + 5)) (found_added view ps offsets end settled p content' offsets' sized is pushed)

module _ (view : DiskView) (faults : ℕ) (offsets : List ℕ) (end : ℕ) where
  -- a journal that runs: its frames were found, and it is synced
  pub kept_running : end < 2 ^ 63 → WhereTold view (IsFound (file_of view) offsets end) → WhereTold view (IsSynced view) → faults ≤ view.faults → IsOpenJournal view faults offsets end false
  kept_running fits found synced later = record {
    fits = fits;
    settled = λ told on. let f = found told in subst (λ (ps : List (List ℕ)). IsOnDisk view ps offsets end) (sym (found_payloads (file_of view) offsets end f)) (record { placed = f.placed; journal = f.journal; synced = synced told });
    halted = λ told off. absurd (false≢true off);
    later = later;
    cause = λ off. absurd (false≢true off);
  }

  -- a journal that a failed commit stopped: each image is a journal of its payloads, with the one in hand or without
  pub kept_halted : end < 2 ^ 63 → WhereTold view (IsHonest view) → (ps : List (List ℕ)) (p : List ℕ) → WhereTold view (HasGatesAt ps offsets end) → WhereTold view (Leaves view.may_leave (IsJournalWithOrWithout ps p)) → Rose faults view.faults → faults ≤ view.faults
      → IsOpenJournal view faults offsets end true
  kept_halted fits honest ps p placed either cause later = record {
    fits = fits;
    settled = λ told on. absurd (false≢true (sym on));
    halted = λ told off.
        let same = first_payloads-more ps p (file_of view) (length offsets) (length-placed ps offsets end (placed told)) (either told (file_of view) (honest told).reads) in
        subst (λ (qs : List (List ℕ)). IsHalted view qs offsets end) (sym same) (record { placed = placed told; hand = p; either = either told });
    later = later;
    cause = λ off. cause;
  }

-- a journal whose disk was only read
pub kept_read : (old new : DiskView) (faults : ℕ) (offsets : List ℕ) (end : ℕ) (stopped : Bool) (Failed : Type 0) → OnlyReads old new Failed
    → IsOpenJournal old faults offsets end stopped → IsOpenJournal new faults offsets end stopped
kept_read old new faults offsets end stopped Failed run is =
    let payloads = λ (file : List ℕ). first_payloads (length offsets) file in
    let read = λ (told : is_told new ≡ true). run.told (sym run.tells ∙ told) in record {
      fits = is.fits;
      settled = λ told on.
          let was = is.settled (sym run.tells ∙ told) on in
          let r = read told in record {
            placed = subst (λ (file : List ℕ). HasGatesAt (payloads file) offsets end) (sym r.content) was.placed;
            journal = subst (λ (file : List ℕ). IsJournal (payloads file) file) (sym r.content) was.journal;
            synced = λ image now. was.synced image (r.crash image now) ∙ sym r.content;
          };
      halted = λ told off.
          let r = read told in
          subst (λ (file : List ℕ). IsHalted new (payloads file) offsets end) (sym r.content)
          (let was = is.halted (sym run.tells ∙ told) off in record { placed = was.placed; hand = was.hand; either = λ image now. was.either image (r.crash image now) });
      later = omega (arith, is.later, run.later);
      cause = λ off. let rose = is.cause off in omega (arith, rose, run.later);
    }

-- a fault that the bytes have is the one that they say
pub explains_recover : (file : List ℕ) (fault : RecoverFault) → Explains file fault → ExplainsRecover (reading_of file) fault
explains_recover file DiskFault explained = tt
explains_recover file NotAJournal explained = reading_of-none file explained
explains_recover file (Damaged at) explained = reading_of-damaged at file explained
explains_recover file OutOfMemory explained = tt
