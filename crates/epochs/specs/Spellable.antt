-- Which values a field of each kind can have, and so what lines can spell.
use Rattle.std.specs.Prelude.{◌<◌, ◌≤◌, ℕ, ◌==◌, ◌||◌, ◌&&◌, Bool, false, IsTrue, ℤ, unsigned_abs, List, [], ◌∷◌, Option, Some, None, ⊤}
use Rattle.std.specs.Coded.{Unit-prop}
use Rattle.std.proofs.Props.{props}
use Rattle.exact_time.specs.Written.{IsNameable}
use Rattle.channel_globs.specs.PatternText.{space, IsPatternList}
use Rattle.channel_globs.specs.declared.nslc.Part.{Part}
use Rattle.channel_globs.specs.declared.nslc.Part.TheVariants.{Location}
use Rattle.epochs.specs.declared.quantity.Quantity.{Quantity}
use Rattle.epochs.specs.declared.quantity.Quantity.TheVariants.{Latitude, Longitude, Azimuth, Dip, Rate, Measure}
use Rattle.epochs.specs.Kinds.{Text, FieldKind, CodeOf, Words, Time, End, Required, Optional, PatternsOf, EventId, UserName, Ha1, RoleNames, EntryNumber, fields_behind}
use Rattle.epochs.specs.Fields.{Value, code, words, time, end, number, optional, patterns, roles, entry_number, is_code_text, is_words, is_event_id, is_user_name, is_ha1, IsQuantity}
use Rattle.epochs.specs.Lines.{LineValues, IsAfter, IsInOrder, start_of, end_of}

-- the blank location is kept as two spaces
abbrev pub is_blank_code : Part → Text → Bool
is_blank_code Location (a ∷ b ∷ []) = a == space && b == space
is_blank_code _ _ = false

abbrev pub is_code : Part → Text → Bool
is_code part text = is_code_text part text || is_blank_code part text

-- a number of that quantity, of at most 18 digits before its point
pub record IsNumberOf (quantity : Quantity) (millionths : ℤ) : Type 0 where
  pub small : unsigned_abs millionths < 1_000_000_000_000_000_000_000_000
  pub within : IsQuantity quantity millionths

-- a fact of a value, if there is one
abbrev pub IfThere : (ℤ → Type 0) → Option ℤ → Type 0
IfThere P None = ⊤
IfThere P (Some n) = P n

-- an entry can have this number
pub record IsNumberOfEntry (n : ℕ) : Type 0 where
  pub some : 1 ≤ n
  pub small : n ≤ 1_000_000_000_000_000_000

-- a field of the kind can have the value
abbrev pub IsValueOf : FieldKind → Value → Type 0
IsValueOf (CodeOf part) (code c) = IsTrue (is_code part c)
IsValueOf Words (words t) = IsTrue (is_words t)
IsValueOf Time (time micros) = IsNameable micros
IsValueOf End (end micros) = IfThere IsNameable micros
IsValueOf (Required quantity) (number n) = IsNumberOf quantity n
IsValueOf (Optional quantity) (optional n) = IfThere (IsNumberOf quantity) n
IsValueOf (PatternsOf part) (patterns t list) = IsPatternList part t list
IsValueOf EventId (words t) = IsTrue (is_event_id t)
IsValueOf UserName (words t) = IsTrue (is_user_name t)
IsValueOf Ha1 (words t) = IsTrue (is_ha1 t)
IsValueOf RoleNames (roles r) = IsTrue (r.reader || r.feed || r.operator || r.replica)
IsValueOf EntryNumber (entry_number n) = IsNumberOfEntry n
IsValueOf _ _ = ⊥

-- fields of these kinds can have these values
abbrev pub AreValuesOf : List FieldKind → List Value → Type 0
AreValuesOf [] [] = ⊤
AreValuesOf (kind ∷ kinds) (value ∷ values) = IsValueOf kind value × AreValuesOf kinds values
AreValuesOf _ _ = ⊥

-- its fields can have these values, and its end is after its start
pub record HasValues (e : LineValues) : Type 0 where
  pub values_are : AreValuesOf (fields_behind e.head) e.values
  pub in_order : IsInOrder e.values

-- values that a line can spell; a closed word, which `proofs/SpellableWord.antt` opens
unfoldable pub IsSpellable : LineValues → Type 0
IsSpellable e = HasValues e

-- each of these facts has one proof at most
IsQuantity-prop : (quantity : Quantity) (n : ℤ) → IsProp (IsQuantity quantity n)
IsQuantity-prop Latitude n = hlevel props
IsQuantity-prop Longitude n = hlevel props
IsQuantity-prop Azimuth n = hlevel props
IsQuantity-prop Dip n = hlevel props
IsQuantity-prop Rate n = hlevel props
IsQuantity-prop Measure n = Unit-prop

IsNumberOf-prop : (quantity : Quantity) (n : ℤ) → IsProp (IsNumberOf quantity n)
IsNumberOf-prop quantity n = hlevel (props, IsQuantity-prop)

IfThere-prop : (P : ℤ → Type 0) → ((n : ℤ) → IsProp (P n)) → (n : Option ℤ) → IsProp (IfThere P n)
IfThere-prop P one None = Unit-prop
IfThere-prop P one (Some n) = one n

IsPatternList-prop : (part : Part) (text : Text) (list : List Text) → IsProp (IsPatternList part text list)
IsPatternList-prop part text list = hlevel props

IsValueOf-prop : (kind : FieldKind) (value : Value) → IsProp (IsValueOf kind value)
IsValueOf-prop (CodeOf part) (code c) = hlevel props
IsValueOf-prop Words (words t) = hlevel props
IsValueOf-prop Time (time micros) = hlevel props
IsValueOf-prop End (end micros) = IfThere-prop IsNameable (λ n. hlevel props) micros
IsValueOf-prop (Required quantity) (number n) = IsNumberOf-prop quantity n
IsValueOf-prop (Optional quantity) (optional n) = IfThere-prop (IsNumberOf quantity) (IsNumberOf-prop quantity) n
IsValueOf-prop (PatternsOf part) (patterns t list) = IsPatternList-prop part t list
IsValueOf-prop EventId (words t) = hlevel props
IsValueOf-prop UserName (words t) = hlevel props
IsValueOf-prop Ha1 (words t) = hlevel props
IsValueOf-prop RoleNames (roles r) = hlevel props
IsValueOf-prop EntryNumber (entry_number n) = hlevel props
IsValueOf-prop _ _ = λ a b. absurd a

AreValuesOf-prop : (kinds : List FieldKind) (values : List Value) → IsProp (AreValuesOf kinds values)
AreValuesOf-prop [] [] = Unit-prop
AreValuesOf-prop (kind ∷ kinds) (value ∷ values) = hlevel (props, IsValueOf-prop kind value, AreValuesOf-prop kinds values)
AreValuesOf-prop _ _ = λ a b. absurd a

IsAfter-prop : (start stop : Option ℤ) → IsProp (IsAfter start stop)
IsAfter-prop (Some start) (Some stop) = hlevel props
IsAfter-prop _ _ = Unit-prop

IsInOrder-prop : (values : List Value) → IsProp (IsInOrder values)
IsInOrder-prop values = IsAfter-prop (start_of values) (end_of values)

pub IsSpellable-prop : (e : LineValues) → IsProp (IsSpellable e)
unfolding IsSpellable
IsSpellable-prop e = hlevel (props, AreValuesOf-prop, IsInOrder-prop)
