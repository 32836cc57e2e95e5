-- The last entry of a lawful history came next.
use Rattle.std.proofs.Common.{◌≡◌, ◌∙◌, ◌&&◌, Bool, true, List, ◌∷◌, [], ◌++◌, sym}
use Rattle.std.proofs.lemmas.Bool.{and_parts}
use Rattle.archive_entry.specs.declared.entry.Entry.{Entry}
use Rattle.archive_state.specs.Lawful.{IsLawful, is_lawful, is_next}
use Rattle.archive_state.specs.States.{CanAbsorb}
use Rattle.archive_state.proofs.NextEntry.{next_absorbs}
use Rattle.archive_state.proofs.Growth.{lawful_more}

last_parts : (h : List Entry) (e : Entry) → IsLawful (h ++ e ∷ []) → (is_lawful h ≡ true) × (is_next h e ≡ true)
last_parts h e lawful = and_parts (is_lawful h) (is_next h e) (sym (lawful_more h e) ∙ lawful)

pub last_next : (h : List Entry) (e : Entry) → IsLawful (h ++ e ∷ []) → is_next h e ≡ true
last_next h e lawful = (last_parts h e lawful).1

pub last_absorbs : (h : List Entry) (e : Entry) → IsLawful (h ++ e ∷ []) → CanAbsorb h e
last_absorbs h e lawful = let parts = last_parts h e lawful in next_absorbs h e parts.0 parts.1
