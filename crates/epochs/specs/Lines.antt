-- What a revision line spells, and its fault.
use Rattle.std.specs.Prelude.{◌≡◌, ℕ, zero, suc, ◌+◌, ◌==◌, ◌≤◌, ◌||◌, Bool, false, ℤ, ◌<ℤ◌, List, [], ◌∷◌, ◌++◌, length, Option, Some, None, ⊤}
use Rattle.std.specs.List.{list_all, slice_split}
use Rattle.std.specs.Str.{IsUtf8}
use Rattle.epochs.specs.declared.kinds.Head.{Head}
use Rattle.epochs.specs.Kinds.{Text, FieldKind, head_texts, fields_behind}
use Rattle.epochs.specs.Fields.{Value, time, end, IsField, bar, has_control}
use Rattle.epochs.specs.declared.fault.LineFault.{LineFault}
use Rattle.epochs.specs.declared.fault.LineFault.TheVariants as fault

-- a line, without where it lies in memory
pub record LineValues : Type 0 where
  pub head : Head
  pub values : List Value

abbrev pub line_values : Head → List Value → LineValues
line_values head values = record { head = head; values = values }

abbrev pub number_sign : ℕ
number_sign = 35

-- how many bytes a line may have, without its end
abbrev pub most_bytes_of_line : ℕ
most_bytes_of_line = 4000

abbrev pub begins_with_number_sign : Text → Bool
begins_with_number_sign [] = false
begins_with_number_sign (c ∷ cs) = c == number_sign

-- a line that says nothing: spaces and tabs alone, or a comment
abbrev pub is_skipped : Text → Bool
is_skipped text = list_all (λ c. c == 32 || c == 9) text || begins_with_number_sign text

-- short, in UTF-8, and without control characters (Unicode, general category Cc)
pub record IsPlain (text : Text) : Type 0 where
  pub short : length text ≤ most_bytes_of_line
  pub utf8 : IsUtf8 text
  pub printable : has_control text ≡ false

-- the fields of a line, between bars
abbrev pub texts_of : Text → List Text
texts_of text = slice_split (λ c. c == bar) text

-- the texts spell these values, each by its kind
abbrev pub AreValues : List FieldKind → List Text → List Value → Type 0
AreValues [] [] [] = ⊤
AreValues (kind ∷ kinds) (text ∷ texts) (value ∷ values) = IsField kind text value × AreValues kinds texts values
AreValues _ _ _ = ⊥

-- the start among the values of a line, and its end, if it has one
abbrev pub start_of : List Value → Option ℤ
start_of [] = None
start_of (time micros ∷ values) = Some micros
start_of (_ ∷ values) = start_of values

abbrev pub end_of : List Value → Option ℤ
end_of [] = None
end_of (end micros ∷ values) = micros
end_of (_ ∷ values) = end_of values

-- an end is after its start
abbrev pub IsAfter : Option ℤ → Option ℤ → Type 0
IsAfter (Some start) (Some stop) = start <ℤ stop
IsAfter _ _ = ⊤

abbrev pub IsInOrder : List Value → Type 0
IsInOrder values = IsAfter (start_of values) (end_of values)

-- a line begins with this head, and has these fields behind it
pub record HasHead (text : Text) (head : Head) (rest : List Text) : Type 0 where
  pub is_plain : IsPlain text
  pub split : texts_of text ≡ head_texts head ++ rest

-- a line spells these values
pub record IsLine (text : Text) (e : LineValues) : Type 0 where
  pub rest : List Text
  pub has_head : HasHead text e.head rest
  pub spells : AreValues (fields_behind e.head) rest e.values
  pub in_order : IsInOrder e.values

-- a text spells no value of that kind
abbrev pub SpellsNone : FieldKind → Text → Type 0
SpellsNone kind text = (value : Value) → ¬ (IsField kind text value)

abbrev pub CanBeField : FieldKind → Text → Type 0
CanBeField kind text = (value : Value) × IsField kind text value

-- the text that has so many before it spells no value of its kind, and each before it spells one
abbrev pub IsFirstBadField : List FieldKind → List Text → ℕ → Type 0
IsFirstBadField (kind ∷ kinds) (text ∷ texts) zero = SpellsNone kind text
IsFirstBadField (kind ∷ kinds) (text ∷ texts) (suc count) = CanBeField kind text × IsFirstBadField kinds texts count
IsFirstBadField _ _ _ = ⊥

-- there is no known kind, also behind DEL
pub record HasNoKind (text : Text) : Type 0 where
  pub is_plain : IsPlain text
  pub none : (head : Head) (rest : List Text) → ¬ (texts_of text ≡ head_texts head ++ rest)

-- the kind has another number of fields
pub record HasOtherFields (text : Text) : Type 0 where
  pub head : Head
  pub rest : List Text
  pub has_head : HasHead text head rest
  pub other : ¬ (length rest ≡ length (fields_behind head))

-- the field of this number, the kind being field 1, is the first bad one
pub record HasBadField (text : Text) (number : ℕ) : Type 0 where
  pub head : Head
  pub rest : List Text
  pub has_head : HasHead text head rest
  pub as_many : length rest ≡ length (fields_behind head)
  pub count : ℕ
  pub first : IsFirstBadField (fields_behind head) rest count
  pub number_is : number ≡ length (head_texts head) + count + 1

-- the end isn't after the start
pub record IsOutOfOrder (text : Text) : Type 0 where
  pub head : Head
  pub rest : List Text
  pub has_head : HasHead text head rest
  pub values : List Value
  pub spells : AreValues (fields_behind head) rest values
  pub backward : ¬ (IsInOrder values)

-- why a line that isn't skipped spells nothing; the first of these that holds. That a body has no
-- line at all is no fault of a line.
abbrev pub IsLineFault : Text → LineFault → Type 0
IsLineFault text fault.NoLine = ⊥
IsLineFault text fault.Form = ¬ (IsPlain text)
IsLineFault text fault.LineKind = HasNoKind text
IsLineFault text fault.Fields = HasOtherFields text
IsLineFault text (fault.Value number) = HasBadField text number
IsLineFault text fault.Order = IsOutOfOrder text
