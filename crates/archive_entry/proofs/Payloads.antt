-- Every payload spells one entry or has one first field that can't stand there.
use Rattle.std.proofs.Common.{◌≡◌, ◌⊎◌, ℕ, ◌-◌, List, [], length, Some, None, Result, Ok, Err, MatchResult, refl, sym, ap, ◌∙◌, inl, inr}
use Rattle.std.specs.Prelude.{IsErrOf}
use Rattle.std.proofs.lemmas.List.{append-nil}
use Rattle.list_laws.specs.Only.{IsOnly}
use Rattle.list_laws.proofs.Answers.{only_from}
use Rattle.mseed_header.specs.Octets.{AreOctets}
use Rattle.archive_entry.specs.Format.{bad_field, IsEntryFault, RefusesPayload}
use Rattle.archive_entry.specs.Reading.{Fails, entry_in, fault_of}
use Rattle.archive_entry.specs.Spelling.{spelling, Spells}
use Rattle.archive_entry.specs.declared.entry.Entry.{Entry}
use Rattle.archive_entry.specs.declared.fault.EntryFault.{EntryFault}
use Rattle.archive_entry.specs.declared.fault.EntryFault.TheVariants as fault
use Rattle.archive_entry.specs.declared.fault.Unread.{Unread}
use Rattle.archive_entry.specs.declared.fault.Unread.TheVariants as unread
use Rattle.archive_entry.proofs.BadFields.{told, bad_is}
use Rattle.archive_entry.proofs.OneEntry.{entry_takes, entry_again, one_spelling}

one_value : (payload : List ℕ) (a b : Entry) → Spells payload a → Spells payload b → a ≡ b
one_value payload a b h k = one_spelling a b [] h.is_entry k.is_entry (append-nil (spelling a) ∙ sym h.bytes ∙ k.bytes)

one_fault : (payload : List ℕ) (f g : EntryFault) → IsEntryFault payload f → IsEntryFault payload g → f ≡ g
one_fault payload (fault.Bad a) (fault.Bad b) h k = let same : Some a ≡ Some b = sym h ∙ k in let at : a ≡ b = cc in ap fault.Bad at
one_fault payload (fault.Bad a) fault.OutOfMemory h k = absurd k
one_fault payload fault.OutOfMemory g h k = absurd h

none_bad : (payload : List ℕ) (e : Entry) → Spells payload e → bad_field payload ≡ None
none_bad payload e h = sym (bad_is payload) ∙ ap (told (length payload)) (ap entry_in h.bytes ∙ entry_again e h.is_entry)

apart : (payload : List ℕ) (e : Entry) (f : EntryFault) → Spells payload e → IsEntryFault payload f → ⊥
apart payload e (fault.Bad at) h k = let both : None ≡ Some at = sym (none_bad payload e h) ∙ k in cc
apart payload e fault.OutOfMemory h k = k

pub only_payload : (payload : List ℕ) (answer : Result Entry EntryFault) → MatchResult answer (Spells payload) (IsEntryFault payload) → IsOnly (Spells payload) (IsEntryFault payload) answer
only_payload payload answer right = only_from (Spells payload) (IsEntryFault payload) (one_value payload) (one_fault payload) (apart payload) answer right

bad_at : (payload : List ℕ) (left : ℕ) → entry_in payload ≡ Err left → bad_field payload ≡ Some (length payload - left)
bad_at payload left read = sym (bad_is payload) ∙ ap (told (length payload)) read

-- what a reader answers is right
pub refused_by : (payload : List ℕ) (u : Unread) → Fails u (entry_in payload) → RefusesPayload payload (fault_of (length payload) u)
refused_by payload (unread.Bad left) h = bad_at payload left h
refused_by payload unread.OutOfMemory h = tt

abbrev Exact : List ℕ → Result Entry EntryFault → Type 0
Exact payload answer = IsErrOf answer fault.OutOfMemory ⊎ IsOnly (Spells payload) (IsEntryFault payload) answer

pub exact_by : (payload : List ℕ) (u : Unread) → Fails u (entry_in payload) → Exact payload (Err (fault_of (length payload) u))
exact_by payload (unread.Bad left) h = inr (only_payload payload (Err (fault.Bad (length payload - left))) (bad_at payload left h))
exact_by payload unread.OutOfMemory h = inl refl

-- every payload has one answer
pub one_answer : (payload : List ℕ) → AreOctets payload → (answer : Result Entry EntryFault) × IsOnly (Spells payload) (IsEntryFault payload) answer
one_answer payload octets = by (entry_in payload) refl
  where
    by : (read : Result Entry ℕ) → entry_in payload ≡ read → (answer : Result Entry EntryFault) × IsOnly (Spells payload) (IsEntryFault payload) answer
    by (Ok e) is = (Ok e, only_payload payload (Ok e) (entry_takes payload e octets is))
    by (Err left) is = (Err (fault.Bad (length payload - left)), only_payload payload (Err (fault.Bad (length payload - left))) (bad_at payload left is))
