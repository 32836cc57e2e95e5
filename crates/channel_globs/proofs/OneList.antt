-- A text spells one list, or has one fault.
use Rattle.std.proofs.Common.{◌≡◌, ◌⊎◌, inl, inr, ℕ, Bool, true, false, not, cond, ◌||◌, ◌==◌, List, length, Result, Ok, Err, MatchResult, nat_lt, refl, subst, arith}
use Rattle.std.specs.List.{list_all}
use Rattle.std.proofs.lemmas.Bool.{cases_lt}
use Rattle.list_laws.specs.Only.{IsOnly}
use Rattle.list_laws.specs.Faults.{IsFirstFault}
use Rattle.list_laws.proofs.Answers.{only_from}
use Rattle.list_laws.proofs.Refusals.{no_values, one_values, one_first_fault, values_or_fault}
use Rattle.channel_globs.specs.declared.nslc.Part.{Part}
use Rattle.channel_globs.specs.declared.patterns.GlobFault.{GlobFault}
use Rattle.channel_globs.specs.declared.patterns.GlobFault.TheVariants.{TooMany, Character, Length, OutOfMemory}
use Rattle.channel_globs.specs.PatternText.{IsPatternList, IsListFault, RefusesList, is_blank, is_pattern_byte, item_of, words_of}

pub one_list : (part : Part) (text : List ℕ) (a b : List (List ℕ)) → IsPatternList part text a → IsPatternList part text b → a ≡ b
one_list part text a b h k = one_values (item_of part) (words_of text) a b h.each k.each

-- a text with a fault spells no list
pub no_list : (part : Part) (text : List ℕ) (list : List (List ℕ)) (fault : GlobFault) → IsPatternList part text list → IsListFault part text fault → ⊥
no_list part text list TooMany h k = omega (arith, h.few, k)
no_list part text list Character h k = no_values (item_of part) (words_of text) Character list k.1 h.each
no_list part text list Length h k = no_values (item_of part) (words_of text) Length list k.1 h.each
no_list part text list OutOfMemory h k = k

one_fault : (part : Part) (text : List ℕ) (f g : GlobFault) → IsListFault part text f → IsListFault part text g → f ≡ g
one_fault part text TooMany TooMany h k = refl
one_fault part text TooMany Character h k = absurd (omega (arith, h, k.0))
one_fault part text TooMany Length h k = absurd (omega (arith, h, k.0))
one_fault part text TooMany OutOfMemory h k = absurd k
one_fault part text Character TooMany h k = absurd (omega (arith, h.0, k))
one_fault part text Character Character h k = refl
one_fault part text Character Length h k = one_first_fault (item_of part) (words_of text) Character Length h.1 k.1
one_fault part text Character OutOfMemory h k = absurd k
one_fault part text Length TooMany h k = absurd (omega (arith, h.0, k))
one_fault part text Length Character h k = one_first_fault (item_of part) (words_of text) Length Character h.1 k.1
one_fault part text Length Length h k = refl
one_fault part text Length OutOfMemory h k = absurd k
one_fault part text OutOfMemory g h k = absurd h

only_list : (part : Part) (text : List ℕ) (answer : Result (List (List ℕ)) GlobFault) → MatchResult answer (IsPatternList part text) (IsListFault part text)
    → IsOnly (IsPatternList part text) (IsListFault part text) answer
only_list part text answer right = only_from (IsPatternList part text) (IsListFault part text) (one_list part text) (one_fault part text) (no_list part text) answer right

pub only_read : (part : Part) (text : List ℕ) (list : List (List ℕ)) → IsPatternList part text list → IsOnly (IsPatternList part text) (IsListFault part text) (Ok list)
only_read part text list h = only_list part text (Ok list) h

-- the same of a reader that may want memory
pub only_refused : (part : Part) (text : List ℕ) (fault : GlobFault) → RefusesList part text fault
    → (fault ≡ OutOfMemory) ⊎ IsOnly (IsPatternList part text) (IsListFault part text) (Err fault)
only_refused part text TooMany h = inr (only_list part text (Err TooMany) h)
only_refused part text Character h = inr (only_list part text (Err Character) h)
only_refused part text Length h = inr (only_list part text (Err Length) h)
only_refused part text OutOfMemory h = inl refl

-- the fault of an item is one of two
fault_by_tests : (blank letters long : Bool) (word pattern : List ℕ) (fault : GlobFault)
    → cond blank (Ok pattern) (cond letters (Err Character) (cond long (Err Length) (Ok word))) ≡ Err fault → (fault ≡ Character) ⊎ (fault ≡ Length)
fault_by_tests true letters long word pattern fault e = cc
fault_by_tests false true long word pattern fault e = inl (cc)
fault_by_tests false false true word pattern fault e = inr (cc)
fault_by_tests false false false word pattern fault e = cc

item_fault : (part : Part) (word : List ℕ) (fault : GlobFault) → item_of part word ≡ Err fault → (fault ≡ Character) ⊎ (fault ≡ Length)
item_fault part word fault e =
    fault_by_tests (is_blank part word) (not (list_all is_pattern_byte word)) (length word == 0 || nat_lt 8 (length word)) word _ fault e

-- every text spells a list or has a fault
pub list_or_fault : (part : Part) (text : List ℕ) → (answer : Result (List (List ℕ)) GlobFault) × IsOnly (IsPatternList part text) (IsListFault part text) answer
list_or_fault part text =
    elim (cases_lt 64 (length (words_of text))) [
      | inl many ↦ (Err TooMany, only_list part text (Err TooMany) many)
      | inr few ↦ elim (values_or_fault (item_of part) (words_of text)) [
        | inl all ↦ (Ok all.0, only_list part text (Ok all.0) (record { few = few; each = all.1 }))
        | inr first ↦ elim (item_fault part first.1.here first.0 first.1.refused) [
          | inl is ↦ (Err Character, only_list part text (Err Character) (few, subst (λ (f : GlobFault). IsFirstFault (item_of part) (words_of text) f) is first.1))
          | inr is ↦ (Err Length, only_list part text (Err Length) (few, subst (λ (f : GlobFault). IsFirstFault (item_of part) (words_of text) f) is first.1))
        ]
      ]
    ]
