-- Worked examples of the definitions.
use Rattle.std.proofs.Common.{◌≡◌, ℕ, List, [], ◌∷◌, ◌++◌, pos, Some, take, refl}
use Rattle.std.specs.Prelude.{codes}
use Rattle.archive_entry.specs.Format.{bad_field}
use Rattle.archive_entry.specs.Spelling.{spelling}
use Rattle.archive_entry.specs.declared.entry.Entry.{Entry}
use Rattle.archive_entry.specs.declared.entry.Kind.TheVariants.{Revise}

-- the founding entry of the operator op
abbrev operator_line : List ℕ
operator_line = codes "USR|op|939e7578ed9e3c518a452acee763bce9|operator\n"

abbrev founding : Entry
founding = record { number = 1; moment = record { micros = pos 0 }; author = codes "op"; seq = 0; kind = Revise; body = operator_line }

-- its spelling, before its body
abbrev numbers : List ℕ
numbers = 0 ∷ 0 ∷ 0 ∷ 0 ∷ 0 ∷ 0 ∷ 0 ∷ 1 ∷ 0 ∷ 0 ∷ 0 ∷ 0 ∷ 0 ∷ 0 ∷ 0 ∷ 0 ∷ []

abbrev behind_name : ℕ → List ℕ
behind_name kind = 0 ∷ 0 ∷ 0 ∷ 0 ∷ 0 ∷ 0 ∷ 0 ∷ 0 ∷ kind ∷ 0 ∷ 0 ∷ 0 ∷ 49 ∷ []

abbrev front : List ℕ
front = numbers ++ (2 ∷ 111 ∷ 112 ∷ behind_name 2)

founding_is_spelled : spelling founding ≡ front ++ operator_line
founding_is_spelled = refl

-- cut in a field, which is bad at its first byte
cut_in_the_moment : bad_field (take 15 front) ≡ Some 8
cut_in_the_moment = refl

cut_in_the_name : bad_field (take 18 front) ≡ Some 17
cut_in_the_name = refl

cut_before_the_length : bad_field (take 31 front) ≡ Some 28
cut_before_the_length = refl

-- with a name of no bytes, a bar in the name, an unknown kind
no_name : bad_field (numbers ++ (0 ∷ 111 ∷ 112 ∷ behind_name 2)) ≡ Some 16
no_name = refl

bar_in_the_name : bad_field (numbers ++ (2 ∷ 124 ∷ 112 ∷ behind_name 2)) ≡ Some 17
bar_in_the_name = refl

third_kind : bad_field (numbers ++ (2 ∷ 111 ∷ 112 ∷ behind_name 3)) ≡ Some 27
third_kind = refl
