-- Worked examples of the definitions.
use Rattle.std.proofs.Common.{◌≡◌, ℕ, List, [], ◌∷◌, ◌++◌, pos, true, refl}
use Rattle.std.specs.Prelude.{codes}
use Rattle.archive_journal.specs.Frames.{magic, front_of, reading_of}
use Rattle.archive_journal.specs.Journal.{gate_of}
use Rattle.archive_entry.specs.Spelling.{spelling}
use Rattle.archive_entry.specs.declared.entry.Entry.{Entry}
use Rattle.archive_entry.specs.declared.entry.Kind.TheVariants.{Revise}
use Rattle.archive_state.specs.Lawful.{is_lawful, is_next}
use Rattle.archive_log.specs.Histories.{payloads_of, Recovers}

-- the founding entry of the operator op
abbrev founding : Entry
founding = record { number = 1; moment = record { micros = pos 0 }; author = codes "op"; seq = 0; kind = Revise; body = codes "USR|op|939e7578ed9e3c518a452acee763bce9|operator\n" }

founding_is_lawful : is_lawful (founding ∷ []) ≡ true
unfolding is_next
founding_is_lawful = refl

-- the file of a new archive, of 103 bytes
abbrev new_file : List ℕ
new_file = magic ++ (1 ∷ 0 ∷ 0 ∷ 0 ∷ 81 ∷ []) ++ spelling founding ++ (0 ∷ [])

new_file_recovers : Recovers (founding ∷ []) new_file
unfolding reading_of
new_file_recovers = refl

-- where the gate of the second entry stands
second_gate : gate_of (payloads_of (founding ∷ founding ∷ [])) 2 ≡ 102
unfolding front_of
second_gate = refl
