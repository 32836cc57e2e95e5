-- What the readers of fields answer.
use Rattle.std.specs.Prelude.{◌≡◌, ◌≤◌, ◌+◌, ◌-◌, ◌++◌, ℕ, List, length, ⊤}
use Rattle.std.specs.Str.Lines.{lines}
use Rattle.channel_globs.specs.declared.patterns.GlobFault.{GlobFault}
use Rattle.channel_globs.specs.declared.patterns.GlobFault.TheVariants as glob
use Rattle.epochs.specs.declared.kinds.Head.{Head}
use Rattle.epochs.specs.Kinds.{Text, FieldKind, head_texts, fields_behind}
use Rattle.epochs.specs.Fields.{Value}
use Rattle.epochs.specs.Lines.{LineValues, SpellsNone, IsFirstBadField, AreValues, IsInOrder, IsLineFault}
use Rattle.epochs.specs.declared.fault.LineFault.TheVariants.{Fields, Value as BadValue, Order}
use Rattle.epochs.specs.Revisions.{said_in, AreLines}
use Rattle.epochs.specs.declared.fault.RevisionFault.{RevisionFault}
use Rattle.epochs.specs.declared.fault.RevisionFault.TheVariants as revision
use Rattle.epochs.specs.declared.values.FieldFault.{FieldFault}
use Rattle.epochs.specs.declared.values.FieldFault.TheVariants.{Bad, OutOfMemory}

-- the field of this number is bad
abbrev pub bad_value : ℕ → FieldFault
bad_value number = Bad (BadValue number)

-- why the field of this number wasn't read: it spells no value; want of memory is free
abbrev pub RefusesField : FieldKind → ℕ → Text → FieldFault → Type 0
RefusesField kind number text (Bad (BadValue n)) = (n ≡ number) × SpellsNone kind text
RefusesField kind number text (Bad _) = ⊥
RefusesField kind number text OutOfMemory = ⊤

-- why fields, numbered from this number on, weren't read: one of them is the first that spells no
-- value; want of memory is free
abbrev pub RefusesLineFields : List FieldKind → ℕ → List Text → FieldFault → Type 0
RefusesLineFields kinds first texts (Bad (BadValue n)) = (first ≤ n) × IsFirstBadField kinds texts (n - first)
RefusesLineFields kinds first texts (Bad _) = ⊥
RefusesLineFields kinds first texts OutOfMemory = ⊤

-- the fields behind a head spell these values of a line
pub record IsSpelled (head : Head) (rest : List Text) (e : LineValues) : Type 0 where
  pub head_is : e.head ≡ head
  pub spells : AreValues (fields_behind head) rest e.values
  pub in_order : IsInOrder e.values

-- the fields behind a head are right, but the end isn't after the start
pub record IsBackward (head : Head) (rest : List Text) : Type 0 where
  pub values : List Value
  pub spells : AreValues (fields_behind head) rest values
  pub backward : ¬ (IsInOrder values)

-- why the fields behind a head weren't read; want of memory is free
abbrev pub RefusesBehind : Head → List Text → FieldFault → Type 0
RefusesBehind head rest (Bad Fields) = ¬ (length rest ≡ length (fields_behind head))
RefusesBehind head rest (Bad (BadValue n)) =
    (length rest ≡ length (fields_behind head)) × RefusesLineFields (fields_behind head) (length (head_texts head) + 1) rest (bad_value n)
RefusesBehind head rest (Bad Order) = IsBackward head rest
RefusesBehind head rest (Bad _) = ⊥
RefusesBehind head rest OutOfMemory = ⊤

-- how a fault of a pattern list is one of its field
abbrev pub field_list_fault : ℕ → GlobFault → FieldFault
field_list_fault number glob.TooMany = bad_value number
field_list_fault number glob.Character = bad_value number
field_list_fault number glob.Length = bad_value number
field_list_fault number glob.OutOfMemory = OutOfMemory

-- texts begin with a head, and have these behind it
abbrev pub IsHead : List Text → Head → List Text → Type 0
IsHead texts head rest = texts ≡ head_texts head ++ rest

-- texts begin with no head
abbrev pub HasNoHead : List Text → Type 0
HasNoHead texts = (head : Head) (rest : List Text) → ¬ (IsHead texts head rest)

-- why a line wasn't read; want of memory is free
abbrev pub RefusesRevisionLine : Text → FieldFault → Type 0
RefusesRevisionLine text (Bad fault) = IsLineFault text fault
RefusesRevisionLine text OutOfMemory = ⊤

-- how the fault of a line is one of the body
abbrev pub raised : ℕ → FieldFault → RevisionFault
raised number (Bad fault) = revision.Bad number fault
raised number OutOfMemory = revision.OutOfMemory

-- the lines before what is left of a body, their number, and what they spell
pub record HasReadLines (body left : Text) (number : ℕ) (spelled : List LineValues) : Type 0 where
  pub before : List Text
  pub split : lines body ≡ before ++ lines left
  pub number_is : number ≡ length before
  pub room : number + length left ≤ length body
  pub clean : AreLines (said_in before) spelled
