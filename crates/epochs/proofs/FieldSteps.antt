-- Texts of fields that spell no value.
use Rattle.std.proofs.Common.{◌≡◌, refl, ap, subst, Bool, ◌||◌, map, ◌∷◌, ℕ, ℤ, List, [], Option, Some, None, Ok, Err}
use Rattle.std.specs.List.{list_any}
use Rattle.exact_time.specs.declared.moment.TimeFault.{TimeFault}
use Rattle.exact_time.specs.Decimals.{IsDecimal, RefusesDecimal}
use Rattle.exact_time.proofs.DecimalTexts.{number_or_fault}
use Rattle.channel_globs.specs.declared.nslc.Part.{Part}
use Rattle.channel_globs.specs.declared.patterns.GlobFault.{GlobFault}
use Rattle.channel_globs.specs.declared.patterns.GlobFault.TheVariants.{TooMany, Character, Length, OutOfMemory}
use Rattle.channel_globs.specs.PatternText.{RefusesList, IsListFault}
use Rattle.channel_globs.proofs.OneList.{no_list}
use Rattle.epochs.specs.declared.quantity.Quantity.{Quantity}
use Rattle.epochs.specs.declared.fault.LineFault.TheVariants as fault
use Rattle.epochs.specs.declared.values.FieldFault.{FieldFault}
use Rattle.epochs.specs.declared.values.FieldFault.TheVariants as read
use Rattle.epochs.specs.declared.values.FieldFault.TheVariants.{Bad}
use Rattle.epochs.specs.Kinds.{Text, Required, Optional, PatternsOf}
use Rattle.epochs.specs.Fields.{number, IsNumber, IsOptional, IsQuantity}
use Rattle.epochs.specs.Lines.{SpellsNone}
use Rattle.epochs.specs.Reading.{RefusesField, field_list_fault}
use Rattle.epochs.proofs.OneField.{spells, one_number}

pub list_any-map : {X Y : Type 0} (p : X → Bool) (f : Y → X) (ys : List Y) → list_any p (map f ys) ≡ list_any (λ y. p (f y)) ys
list_any-map p f [] = refl
list_any-map p f (y ∷ ys) = ap (λ (b : Bool). p (f y) || b) (list_any-map p f ys)

pub no_number : (text : Text) (why : TimeFault) (a : ℤ) → RefusesDecimal text why → IsDecimal text a → ⊥
no_number text why a h k =
    let w = number_or_fault text in
    let x = w.1.only (Err why) h in
    let y = w.1.only (Ok a) k in
    cc

pub spells_no_number : (quantity : Quantity) (text : Text) → ((n : ℤ) → ¬ (IsNumber quantity text n)) → SpellsNone (Required quantity) text
spells_no_number quantity text none value h = let s = spells (Required quantity) text value h in none s.0 s.1

-- a decimal that the quantity may not have
pub out_of_range : (quantity : Quantity) (text : Text) (a : ℤ) → IsDecimal text a → ¬ (IsQuantity quantity a) → SpellsNone (Required quantity) text
out_of_range quantity text a h out =
    spells_no_number quantity text (λ n k. out (subst (λ (m : ℤ). IsQuantity quantity m) (one_number text n a k.decimal h) k.within))

nothing_or_number : (quantity : Quantity) (text : Text) (n : Option ℤ) → ¬ (text ≡ []) → SpellsNone (Required quantity) text → IsOptional quantity text n → ⊥
nothing_or_number quantity text None some none h = some h
nothing_or_number quantity text (Some n) some none h = none (number n) h

pub optional_refused : (quantity : Quantity) (number : ℕ) (text : Text) (why : FieldFault) → ¬ (text ≡ []) → RefusesField (Required quantity) number text why → RefusesField (Optional quantity) number text why
optional_refused quantity at text (Bad (fault.Value n)) some h = (h.0, λ value k. let s = spells (Optional quantity) text value k in nothing_or_number quantity text s.0 some h.1 s.1)
optional_refused quantity at text read.OutOfMemory some h = tt
optional_refused quantity at text (Bad _) some h = h

spells_no_list : (part : Part) (text : Text) (why : GlobFault) → IsListFault part text why → SpellsNone (PatternsOf part) text
spells_no_list part text why h value k = let s = spells (PatternsOf part) text value k in no_list part text s.0 why s.1 h

pub list_refused : (part : Part) (number : ℕ) (text : Text) (why : GlobFault) → RefusesList part text why → RefusesField (PatternsOf part) number text (field_list_fault number why)
list_refused part at text TooMany h = (refl, spells_no_list part text TooMany h)
list_refused part at text Character h = (refl, spells_no_list part text Character h)
list_refused part at text Length h = (refl, spells_no_list part text Length h)
list_refused part at text OutOfMemory h = tt
