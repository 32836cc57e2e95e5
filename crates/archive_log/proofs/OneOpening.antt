-- A file opens with one history, or has one fault.
use Rattle.std.proofs.Common.{◌≡◌, ◌∙◌, ◌⊎◌, inl, inr, ⊎_elim, ℕ, zero, suc, ◌+◌, ◌-◌, ◌<◌, ◌≤◌, List, [], ◌∷◌, length, take, true, Some, Result, MatchResult, slice_get, refl, sym, ap, subst, arith}
use Rattle.std.specs.List.{AllByRecursion}
use Rattle.std.specs.Option.{option_map}
use Rattle.std.proofs.lemmas.Bool.{cases_order}
use Rattle.std.proofs.lemmas.List.{take-map, take_all, length-map}
use Rattle.std.proofs.lemmas.Option.{slice_get-map}
use Rattle.list_laws.specs.Only.{IsOnly}
use Rattle.list_laws.proofs.Answers.{only_from}
use Rattle.archive_journal.specs.Frames.{holding, no_journal, damaged_at, reading_of, Holds}
use Rattle.archive_journal.specs.Journal.{gate_of, payloads_in}
use Rattle.archive_entry.specs.Payload.{entry_of_payload}
use Rattle.archive_entry.specs.Spelling.{IsEntry, spelling}
use Rattle.archive_entry.specs.declared.entry.Entry.{Entry}
use Rattle.archive_state.specs.Lawful.{is_next}
use Rattle.archive_state.proofs.Growth.{lawful_by_each}
use Rattle.archive_log.specs.Histories.{IsHistory, payloads_of, entries_of}
use Rattle.archive_log.specs.Opening.{SpellsNoNext, IsBadAt, IsBadJournal, IsStartFault, OpensWith}
use Rattle.archive_log.specs.declared.fault.StartFault.{StartFault}
use Rattle.archive_log.specs.declared.fault.StartFault.TheVariants.{DiskFault, NotAJournal, Damaged, OutOfMemory}
use Rattle.archive_log.proofs.Spellings.{entries_of-payloads_of, one_history}

-- ---- lists

take_within : {A : Type 0} (k n : ℕ) (xs : List A) → k ≤ n → take k (take n xs) ≡ take k xs
take_within zero n xs le = refl
take_within (suc k) zero xs le = absurd (omega arith)
take_within (suc k) (suc n) [] le = refl
take_within {A} (suc k) (suc n) (x ∷ xs) le = ap (λ (l : List A). x ∷ l) (take_within k n xs (omega arith))

slice_get-take : {A : Type 0} (n : ℕ) (xs : List A) (k : ℕ) → k < n → slice_get (take n xs) k ≡ slice_get xs k
slice_get-take zero xs k lt = absurd (omega arith)
slice_get-take (suc n) [] k lt = refl
slice_get-take (suc n) (x ∷ xs) zero lt = refl
slice_get-take (suc n) (x ∷ xs) (suc k) lt = slice_get-take n xs k (omega arith)

found : {A : Type 0} (xs : List A) (k : ℕ) → k < length xs → (x : A) × (slice_get xs k ≡ Some x)
found [] k lt = absurd (omega arith)
found (x ∷ xs) zero lt = (x, refl)
found (x ∷ xs) (suc k) lt = found xs k (omega arith)

all_at : {A : Type 0} (P : A → Type 0) (xs : List A) (k : ℕ) (x : A) → AllByRecursion P xs → slice_get xs k ≡ Some x → P x
all_at P [] k x all at = absurd cc
all_at P (y ∷ xs) zero x all at = let same : y ≡ x = cc in subst P same all.0
all_at P (y ∷ xs) (suc k) x all at = all_at P xs k x all.1 at

-- ---- histories that first payloads spell

abbrev SpellsFirst : List (List ℕ) → List Entry → Type 0
SpellsFirst payloads h = payloads_of h ≡ take (length h) payloads

-- the shorter one begins the longer
begins : (payloads : List (List ℕ)) (h g : List Entry) → IsHistory h → IsHistory g → SpellsFirst payloads h → SpellsFirst payloads g → length h ≤ length g → take (length h) g ≡ h
begins payloads h g is also first second le =
    let k = length h in
    ap (take k) (sym (entries_of-payloads_of g also.entries))
    ∙ take-map entry_of_payload k (payloads_of g)
    ∙ ap (λ (l : List (List ℕ)). entries_of (take k l)) second
    ∙ ap entries_of (take_within k (length g) payloads le)
    ∙ ap entries_of (sym first)
    ∙ entries_of-payloads_of h is.entries

-- and the payload behind it spells its next entry
not_longer : (payloads : List (List ℕ)) (h g : List Entry) → IsHistory h → IsHistory g → SpellsFirst payloads h → SpellsFirst payloads g → ((payload : List ℕ) → slice_get payloads (length h) ≡ Some payload → SpellsNoNext h payload) → length h < length g → ⊥
not_longer payloads h g is also first second none lt =
    let k = length h in
    let x = found g k lt in
    let there : slice_get payloads k ≡ Some (spelling x.0) =
    sym (slice_get-take (length g) payloads k lt) ∙ ap (λ (l : List (List ℕ)). slice_get l k) (sym second) ∙ slice_get-map spelling g k ∙ ap (option_map spelling) x.1 in
    let next : is_next (take k g) x.0 ≡ true = (lawful_by_each g).0 also.lawful k x.0 x.1 in
    none (spelling x.0) there x.0 (record {
      spelled = record { is_entry = all_at IsEntry g k x.0 also.entries x.1; bytes = refl };
      next = subst (λ (l : List Entry). is_next l x.0 ≡ true) (begins payloads h g is also first second (omega (arith, lt))) next;
    })

behind : (payloads : List (List ℕ)) (at : ℕ) (p : IsBadAt payloads at) → (payload : List ℕ) → slice_get payloads (length p.history) ≡ Some payload → SpellsNoNext p.history payload
behind payloads at p payload there =
    let place : length p.history ≡ length p.history + 1 - 1 = omega arith in
    p.bad.no_next payload (subst (λ (k : ℕ). slice_get payloads k ≡ Some payload) place there)

bad_once : (payloads : List (List ℕ)) (a b : ℕ) → IsBadAt payloads a → IsBadAt payloads b → a ≡ b
bad_once payloads a b p q =
    ⊎_elim (λ (same : length p.history ≡ length q.history). p.bad.at_is ∙ ap (λ (n : ℕ). gate_of payloads (n + 1)) same ∙ sym q.bad.at_is)
    (λ apart. ⊎_elim
    (λ (lt : length p.history < length q.history). absurd (not_longer payloads p.history q.history p.is_history q.is_history p.before q.before (behind payloads a p) lt))
    (λ (lt : length q.history < length p.history). absurd (not_longer payloads q.history p.history q.is_history p.is_history q.before p.before (behind payloads b q) lt)) apart)
    (cases_order (length p.history) (length q.history))

-- ---- files

same_payloads : (file : List ℕ) (payloads others : List (List ℕ)) → Holds payloads file → Holds others file → payloads ≡ others
same_payloads file payloads others holds also = ap payloads_in (sym holds ∙ also)

one_value : (file : List ℕ) (h g : List Entry) → OpensWith file h → OpensWith file g → h ≡ g
one_value file h g is also = one_history file h g is.history also.history

one_damage : (file : List ℕ) (a b : ℕ) → (reading_of file ≡ damaged_at a) ⊎ IsBadJournal file a → (reading_of file ≡ damaged_at b) ⊎ IsBadJournal file b → a ≡ b
one_damage file a b (inl is) (inl also) = let same : damaged_at a ≡ damaged_at b = sym is ∙ also in cc (same)
one_damage file a b (inl is) (inr also) = let same : damaged_at a ≡ holding also.payloads = sym is ∙ also.holds in cc (same)
one_damage file a b (inr is) (inl also) = let same : damaged_at b ≡ holding is.payloads = sym also ∙ is.holds in cc (same)
one_damage file a b (inr is) (inr also) =
    bad_once is.payloads a b is.bad (subst (λ (l : List (List ℕ)). IsBadAt l b) (same_payloads file also.payloads is.payloads also.holds is.holds) also.bad)

no_other : (file : List ℕ) (at : ℕ) → reading_of file ≡ no_journal → (reading_of file ≡ damaged_at at) ⊎ IsBadJournal file at → ⊥
no_other file at is (inl also) = let same : no_journal ≡ damaged_at at = sym is ∙ also in cc (same)
no_other file at is (inr also) = let same : no_journal ≡ holding also.payloads = sym is ∙ also.holds in cc (same)

one_fault : (file : List ℕ) (f g : StartFault) → IsStartFault file f → IsStartFault file g → f ≡ g
one_fault file NotAJournal NotAJournal is also = refl
one_fault file NotAJournal (Damaged b) is also = absurd (no_other file b is also)
one_fault file (Damaged a) NotAJournal is also = absurd (no_other file a also is)
one_fault file (Damaged a) (Damaged b) is also = ap Damaged (one_damage file a b is also)
one_fault file DiskFault g is also = absurd is
one_fault file OutOfMemory g is also = absurd is
one_fault file NotAJournal DiskFault is also = absurd also
one_fault file NotAJournal OutOfMemory is also = absurd also
one_fault file (Damaged a) DiskFault is also = absurd also
one_fault file (Damaged a) OutOfMemory is also = absurd also

apart : (file : List ℕ) (h : List Entry) (f : StartFault) → OpensWith file h → IsStartFault file f → ⊥
apart file h DiskFault is also = also
apart file h OutOfMemory is also = also
apart file h NotAJournal is also = let same : no_journal ≡ holding (payloads_of h) = sym also ∙ is.history.journal in cc (same)
apart file h (Damaged at) is (inl also) = let same : damaged_at at ≡ holding (payloads_of h) = sym also ∙ is.history.journal in cc (same)
apart file h (Damaged at) is (inr also) =
    let all : also.payloads ≡ payloads_of h = same_payloads file also.payloads (payloads_of h) also.holds is.history.journal in
    let long : length also.payloads ≡ length h = ap length all ∙ length-map h spelling in
    let some = is.some in
    let whole : payloads_of h ≡ take (length h) also.payloads = sym all ∙ sym (take_all (length h) also.payloads (omega (arith, long))) in
    ⊎_elim
    (λ (more : length also.bad.history < length also.payloads). not_longer also.payloads also.bad.history h also.bad.is_history is.history.history also.bad.before whole (behind also.payloads at also.bad) (omega (arith, long, more)))
    (λ (none : also.payloads ≡ []). absurd (omega (arith, ap length none, long, some)))
    also.bad.there

pub one_opening : (file : List ℕ) (answer : Result (List Entry) StartFault) → MatchResult answer (OpensWith file) (IsStartFault file) → IsOnly (OpensWith file) (IsStartFault file) answer
one_opening file answer right = only_from (OpensWith file) (IsStartFault file) (one_value file) (one_fault file) (apart file) answer right
