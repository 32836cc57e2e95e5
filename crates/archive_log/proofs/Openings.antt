-- What a start finds, payload by payload.
use Rattle.std.proofs.Common.{◌≡◌, ◌∙◌, ◌⊎◌, inl, inr, ℕ, ◌+◌, ◌<◌, ◌≤◌, List, [], ◌∷◌, ◌++◌, length, take, true, false, Some, Result, Ok, Err, slice_get, refl, sym, ap, subst, arith}
use Rattle.std.specs.Prelude.{IsErrAnd, IsErrOf, IfErr, ◌≢◌}
use Rattle.std.proofs.lemmas.Bool.{true≢false}
use Rattle.std.proofs.lemmas.List.{take_more}
use Rattle.std.proofs.lemmas.Option.{get_or_from_slice_get, slice_get_within}
use Rattle.list_laws.specs.Only.{IsOnly}
use Rattle.archive_journal.specs.Frames.{Holds}
use Rattle.archive_journal.proofs.Entries.{first_gate}
use Rattle.archive_entry.specs.Format.{IsEntryFault}
use Rattle.archive_entry.specs.Payload.{entry_of_payload}
use Rattle.archive_entry.specs.Spelling.{Spells, spelling}
use Rattle.archive_entry.specs.declared.entry.Entry.{Entry}
use Rattle.archive_entry.specs.declared.fault.EntryFault.{EntryFault}
use Rattle.archive_entry.specs.declared.fault.EntryFault.TheVariants as fault
use Rattle.archive_entry.proofs.ReadBack.{entry_of_payload-spelling}
use Rattle.archive_state.specs.Lawful.{is_next}
use Rattle.archive_log.specs.Histories.{IsHistory, payloads_of}
use Rattle.archive_log.specs.Opening.{SpellsNoNext, IsBadPayload, IsBadAt, ExplainsOpen}
use Rattle.archive_log.specs.declared.fault.StartFault.{StartFault}
use Rattle.archive_log.specs.declared.fault.StartFault.TheVariants.{DiskFault, NotAJournal, Damaged, OutOfMemory}
use Rattle.archive_log.proofs.Spellings.{payloads_of-push}

-- ---- one payload

-- what can't be read spells no entry
pub none_unread : {T : Type 0} (payload : List ℕ) (f : EntryFault) (at : ℕ) → f ≡ fault.Bad at → IsErrOf {T = T} (Err f) fault.OutOfMemory ⊎ IsOnly (Spells payload) (IsEntryFault payload) (Err f) → (e : Entry) → ¬ Spells payload e
none_unread payload f at is (inl none) e spells = cc (is, none)
none_unread payload f at is (inr only) e spells = let both : Ok e ≡ Err f = only.only (Ok e) spells in cc (both)

pub no_next_unread : {T : Type 0} (h : List Entry) (payload : List ℕ) (f : EntryFault) (at : ℕ) → f ≡ fault.Bad at → IsErrOf {T = T} (Err f) fault.OutOfMemory ⊎ IsOnly (Spells payload) (IsEntryFault payload) (Err f) → SpellsNoNext h payload
no_next_unread h payload f at is exact e next = none_unread payload f at is exact e next.spelled

-- it spells this entry, and so no other
pub no_next_other : (h : List Entry) (payload : List ℕ) (f : Entry) → Spells payload f → is_next h f ≡ false → SpellsNoNext h payload
no_next_other h payload f spells not e next =
    let same : f ≡ e = sym (entry_of_payload-spelling f spells.is_entry) ∙ ap entry_of_payload (sym spells.bytes ∙ next.spelled.bytes) ∙ entry_of_payload-spelling e next.spelled.is_entry in
    true≢false (sym (subst (λ (x : Entry). is_next h x ≡ true) (sym same) next.next) ∙ not)

-- ---- payload after payload

-- one payload more
pub spell_more : (h : List Entry) (e : Entry) (payloads : List (List ℕ)) (n : ℕ) → payloads_of h ≡ take n payloads → slice_get payloads n ≡ Some (spelling e) → payloads_of (h ++ e ∷ []) ≡ take (n + 1) payloads
spell_more h e payloads n are there =
    payloads_of-push h e ∙ (λ i. are i ++ sym (get_or_from_slice_get payloads n (spelling e) [] there) i ∷ []) ∙ sym (take_more payloads n [] (slice_get_within payloads n (spelling e) there))

-- the payload behind those of a history is bad
pub bad_behind : (h : List Entry) (payloads : List (List ℕ)) (n at : ℕ) → IsHistory h → n ≡ length h → payloads_of h ≡ take n payloads → n < length payloads → IsBadPayload h payloads (n + 1) at → IsBadAt payloads at × (1 ≤ length payloads)
bad_behind h payloads n at is n_is before there bad = (
  record {
    history = h;
    is_history = is;
    before = before ∙ ap (λ (k : ℕ). take k payloads) n_is;
    bad = subst (λ (k : ℕ). IsBadPayload h payloads (k + 1) at) n_is bad;
    there = inl (subst (λ (k : ℕ). k < length payloads) n_is there);
  },
  omega (arith, there),
)

-- no payload
pub no_entry : (payloads : List (List ℕ)) → length payloads ≡ 0 → (at : ℕ) → at ≡ 16 → IsBadAt payloads at
no_entry [] none at is = record {
  history = [];
  is_history = record { lawful = refl; entries = tt };
  before = refl;
  bad = record { at_is = is ∙ sym (first_gate []); no_next = λ payload there. absurd (cc (there)) };
  there = inr refl;
}
no_entry (p ∷ payloads) none at is = absurd (omega arith)

-- why what is read of a journal is no replica's
pub explains_read : {T : Type 0} (outcome : Result T StartFault) (file : List ℕ) (payloads : List (List ℕ)) → Holds payloads file → IfErr outcome (λ f. f ≢ NotAJournal)
    → IfErr outcome (λ f. (at : ℕ) → f ≡ Damaged at → IsBadAt payloads at × (1 ≤ length payloads)) → IfErr outcome (ExplainsOpen file)
explains_read (Ok opened) file payloads holds whole damaged = tt
explains_read (Err DiskFault) file payloads holds whole damaged = tt
explains_read (Err NotAJournal) file payloads holds whole damaged = absurd (whole refl)
explains_read (Err (Damaged at)) file payloads holds whole damaged = let bad = damaged at refl in inr (record { payloads = payloads; holds = holds; bad = bad.0 }, bad.1)
explains_read (Err OutOfMemory) file payloads holds whole damaged = tt

-- want of memory tells of no damage
pub no_damage : {T : Type 0} (r : Result T StartFault) (payloads : List (List ℕ)) → IsErrAnd r (λ f. f ≡ OutOfMemory)
    → IfErr r (λ fault. (at : ℕ) → fault ≡ Damaged at → IsBadAt payloads at × (1 ≤ length payloads))
no_damage (Ok x) payloads is = absurd is
no_damage (Err f) payloads is = λ at same. absurd (let both : OutOfMemory ≡ Damaged at = sym is ∙ same in cc (both))
