-- A text spells one value of a kind at most, and it spells one or none.
use Rattle.std.proofs.Common.{◌≡◌, ◌⊎◌, inl, inr, ℕ, ◌≤◌, ℤ, pos, negsuc, ◌≤ℤ◌, unsigned_abs, IsTrue, Bool, true, List, [], ◌∷◌, ◌++◌, length, length-append, Option, Some, None, Result, Ok, Err, refl, sym, ap, subst, ◌∙◌, arith}
use Rattle.std.proofs.lemmas.Bool.{cases_Bool, cases_lt, both_ways}
use Rattle.std.proofs.lemmas.Int.{ints}
use Rattle.list_laws.specs.Only.{IsOnly}
use Rattle.exact_time.specs.Decimals.{whole_of, sign_text, behind_whole, IsDecimal, RefusesDecimal}
use Rattle.exact_time.specs.MomentText.{IsMoment, RefusesMoment}
use Rattle.exact_time.specs.declared.moment.Moment.{Moment}
use Rattle.exact_time.specs.declared.moment.TimeFault.{TimeFault}
use Rattle.exact_time.proofs.DecimalTexts.{number_or_fault}
use Rattle.exact_time.proofs.MomentFound.{moment_or_fault}
use Rattle.channel_globs.specs.PatternText.{IsPatternList, IsListFault}
use Rattle.channel_globs.specs.declared.nslc.Part.{Part}
use Rattle.channel_globs.specs.declared.patterns.GlobFault.{GlobFault}
use Rattle.channel_globs.proofs.OneList.{list_or_fault, one_list}
use Rattle.epochs.specs.declared.parts.Roles.{Roles}
use Rattle.epochs.specs.declared.quantity.Quantity.{Quantity}
use Rattle.epochs.specs.declared.quantity.Quantity.TheVariants.{Latitude, Longitude, Azimuth, Dip, Rate, Measure}
use Rattle.epochs.specs.Kinds.{Text, FieldKind, CodeOf, Words, Time, End, Required, Optional, PatternsOf, EventId, UserName, Ha1, RoleNames, EntryNumber}
use Rattle.epochs.specs.Fields.{Value, code, words, time, end, number, optional, patterns, roles, entry_number, IsField, IsEntryNumber, IsEnd, IsNumber, IsOptional, IsQuantity, code_of, is_words, is_event_id, is_user_name, is_ha1, roles_of}
use Rattle.epochs.specs.Lines.{SpellsNone, CanBeField}

-- something has the property, or nothing has
abbrev pub Found : {V : Type 0} → (V → Type 0) → Type 0
Found {V} P = ((v : V) × P v) ⊎ ((v : V) → ¬ (P v))

-- what a field spells, by its kind alone
abbrev Spells : FieldKind → Text → Value → Type 0
Spells (CodeOf part) text value = (c : Text) × (code_of part text ≡ Some c) × (value ≡ code c)
Spells Words text value = IsTrue (is_words text) × (value ≡ words text)
Spells Time text value = (micros : ℤ) × IsMoment text micros × (value ≡ time micros)
Spells End text value = (micros : Option ℤ) × IsEnd text micros × (value ≡ end micros)
Spells (Required quantity) text value = (n : ℤ) × IsNumber quantity text n × (value ≡ number n)
Spells (Optional quantity) text value = (n : Option ℤ) × IsOptional quantity text n × (value ≡ optional n)
Spells (PatternsOf part) text value = (list : List Text) × IsPatternList part text list × (value ≡ patterns text list)
Spells EventId text value = IsTrue (is_event_id text) × (value ≡ words text)
Spells UserName text value = IsTrue (is_user_name text) × (value ≡ words text)
Spells Ha1 text value = IsTrue (is_ha1 text) × (value ≡ words text)
Spells RoleNames text value = (r : Roles) × (roles_of text ≡ Some r) × (value ≡ roles r)
Spells EntryNumber text value = (n : ℕ) × IsEntryNumber text n × (value ≡ entry_number n)

pub spells : (kind : FieldKind) (text : Text) (value : Value) → IsField kind text value → Spells kind text value
spells (CodeOf part) text (code c) h = (c, h, refl)
spells Words text (words t) h = (h.1, ap words h.0)
spells Time text (time micros) h = (micros, h, refl)
spells End text (end micros) h = (micros, h, refl)
spells (Required quantity) text (number n) h = (n, h, refl)
spells (Optional quantity) text (optional n) h = (n, h, refl)
spells (PatternsOf part) text (patterns t list) h = (list, h.1, ap (λ (s : Text). patterns s list) h.0)
spells EventId text (words t) h = (h.1, ap words h.0)
spells UserName text (words t) h = (h.1, ap words h.0)
spells Ha1 text (words t) h = (h.1, ap words h.0)
spells RoleNames text (roles r) h = (r, h, refl)
spells EntryNumber text (entry_number n) h = (n, h, refl)
spells _ text _ h = absurd h

-- of one text one moment, one number, one end
abbrev micros_in : Result Moment TimeFault → ℤ
micros_in (Ok m) = m.micros
micros_in (Err fault) = pos 0

moment_of : (text : Text) (answer : Result Moment TimeFault) → IsOnly (λ (m : Moment). IsMoment text m.micros) (RefusesMoment text) answer → (a b : ℤ) → IsMoment text a → IsMoment text b → a ≡ b
moment_of text answer h a b k l =
    ap micros_in (h.only (Ok (record { micros = a })) k) ∙ sym (ap micros_in (h.only (Ok (record { micros = b })) l))

one_moment : (text : Text) (a b : ℤ) → IsMoment text a → IsMoment text b → a ≡ b
one_moment text a b h k = let w = moment_or_fault text in moment_of text w.0 w.1 a b h k

pub one_number : (text : Text) (a b : ℤ) → IsDecimal text a → IsDecimal text b → a ≡ b
one_number text a b h k =
    let w = number_or_fault text in
    let x = w.1.only (Ok a) h in
    let y = w.1.only (Ok b) k in
    cc

moment_by : (text : Text) (answer : Result Moment TimeFault) → IsOnly (λ (m : Moment). IsMoment text m.micros) (RefusesMoment text) answer → Found (λ (micros : ℤ). IsMoment text micros)
moment_by text (Ok m) h = inl (m.micros, h.right)
moment_by text (Err fault) h = inr (λ micros k. let e : Ok (record { micros = micros }) ≡ Err fault = h.only (Ok (record { micros = micros })) k in cc)

moment_found : (text : Text) → Found (λ (micros : ℤ). IsMoment text micros)
moment_found text = let a = moment_or_fault text in moment_by text a.0 a.1

list_by : (part : Part) (text : Text) (answer : Result (List Text) GlobFault) → IsOnly (IsPatternList part text) (IsListFault part text) answer → Found (λ (list : List Text). IsPatternList part text list)
list_by part text (Ok list) h = inl (list, h.right)
list_by part text (Err fault) h = inr (λ list k. let e : Ok list ≡ Err fault = h.only (Ok list) k in cc)

list_found : (part : Part) (text : Text) → Found (λ (list : List Text). IsPatternList part text list)
list_found part text = let a = list_or_fault part text in list_by part text a.0 a.1

option_found : {A : Type 0} (o : Option A) → Found (λ (a : A). o ≡ Some a)
option_found (Some a) = inl (a, refl)
option_found None = inr (λ a e. cc)

small_or_not : (most : ℕ) (n : ℕ) → (n ≤ most) ⊎ (¬ (n ≤ most))
small_or_not most n = elim (cases_lt most n) [ inl great ↦ inr (λ small. omega (arith, great, small)) | inr small ↦ inl small ]

positive_or_not : (n : ℤ) → (pos 0 ≤ℤ n) ⊎ (¬ (pos 0 ≤ℤ n))
positive_or_not (pos n) = inl (omega (arith, ints))
positive_or_not (negsuc n) = inr (λ h. omega (arith, ints, h))

bearing_or_not : (n : ℤ) → IsQuantity Azimuth n ⊎ (¬ (IsQuantity Azimuth n))
bearing_or_not (pos n) =
    elim (cases_lt 360_000_000 n) [
      | inl great ↦ inr (λ h. let most = h.1 in omega (arith, ints, great, most))
      | inr small ↦ inl (omega (arith, ints), omega (arith, ints, small))
    ]
bearing_or_not (negsuc n) = inr (λ h. let least = h.0 in omega (arith, ints, least))

within_or_not : (quantity : Quantity) (n : ℤ) → IsQuantity quantity n ⊎ (¬ (IsQuantity quantity n))
within_or_not Latitude n = small_or_not 90_000_000 (unsigned_abs n)
within_or_not Longitude n = small_or_not 180_000_000 (unsigned_abs n)
within_or_not Azimuth n = bearing_or_not n
within_or_not Dip n = small_or_not 90_000_000 (unsigned_abs n)
within_or_not Rate n = positive_or_not n
within_or_not Measure n = inl tt

number_by : (quantity : Quantity) (text : Text) (answer : Result ℤ TimeFault) → IsOnly (IsDecimal text) (RefusesDecimal text) answer → Found (λ (n : ℤ). IsNumber quantity text n)
number_by quantity text (Ok n) h =
    elim (within_or_not quantity n) [
      | inl within ↦ inl (n, record { decimal = h.right; within = within })
      | inr out ↦ inr (λ m k. out (subst (λ (x : ℤ). IsQuantity quantity x) (one_number text m n k.decimal h.right) k.within))
    ]
number_by quantity text (Err fault) h = inr (λ n k. let e : Ok n ≡ Err fault = h.only (Ok n) k.decimal in cc)

number_found : (quantity : Quantity) (text : Text) → Found (λ (n : ℤ). IsNumber quantity text n)
number_found quantity text = let a = number_or_fault text in number_by quantity text a.0 a.1

-- nothing, or what else a text spells
end_found : (text : Text) → Found (λ (micros : Option ℤ). IsEnd text micros)
end_found [] = inl (None, refl)
end_found (c ∷ text) =
    elim (moment_found (c ∷ text)) [
      | inl found ↦ inl (Some found.0, found.1)
      | inr none ↦ inr (λ micros. (elim micros as (λ m. ¬ (IsEnd (c ∷ text) m)) [ None ↦ λ e. cc | Some n ↦ λ h. none n h ]))
    ]

optional_found : (quantity : Quantity) (text : Text) → Found (λ (n : Option ℤ). IsOptional quantity text n)
optional_found quantity [] = inl (None, refl)
optional_found quantity (c ∷ text) =
    elim (number_found quantity (c ∷ text)) [
      | inl found ↦ inl (Some found.0, found.1)
      | inr none ↦ inr (λ n. (elim n as (λ m. ¬ (IsOptional quantity (c ∷ text) m)) [ None ↦ λ e. cc | Some m ↦ λ h. none m h ]))
    ]

entry_by : (text : Text) (o : Option ℕ) → whole_of text ≡ o → Found (λ (n : ℕ). IsEntryNumber text n)
entry_by text None is = inr (λ n h. let e : None ≡ Some n = sym is ∙ h.whole in cc)
entry_by text (Some m) is =
    elim (small_or_not 0 m) [
      | inl zero ↦ inr (λ n h. let e : Some m ≡ Some n = sym is ∙ h.whole in let same : m ≡ n = cc in omega (arith, zero, h.some, same))
      | inr more ↦ elim (small_or_not 1_000_000_000_000_000_000 m) [
        | inl small ↦ inl (m, record { whole = is; some = omega (arith, more); small = small })
        | inr great ↦ inr (λ n h. let e : Some m ≡ Some n = sym is ∙ h.whole in let same : m ≡ n = cc in great (subst (λ (k : ℕ). k ≤ 1_000_000_000_000_000_000) (sym same) h.small))
      ]
    ]

entry_found : (text : Text) → Found (λ (n : ℕ). IsEntryNumber text n)
entry_found text = entry_by text (whole_of text) refl

-- no text at all is no moment and no number
no_moment : (micros : ℤ) → IsMoment [] micros → ⊥
no_moment micros h = let e = h.1.date.text_is in cc

no_number : (n : ℤ) → IsDecimal [] n → ⊥
no_number n h =
    let whole = length-append (sign_text h.sign) h.whole in
    let all = length-append (sign_text h.sign ++ h.whole) (behind_whole h.decimals) in
    omega (arith, ap length h.form.text_is, whole, all, h.form.some)

one_end : (text : Text) (a b : Option ℤ) → IsEnd text a → IsEnd text b → a ≡ b
one_end text None None h k = refl
one_end [] None (Some b) h k = absurd (no_moment b k)
one_end (c ∷ text) None (Some b) h k = cc
one_end [] (Some a) None h k = absurd (no_moment a h)
one_end (c ∷ text) (Some a) None h k = cc
one_end text (Some a) (Some b) h k = ap Some (one_moment text a b h k)

one_optional : (quantity : Quantity) (text : Text) (a b : Option ℤ) → IsOptional quantity text a → IsOptional quantity text b → a ≡ b
one_optional quantity text None None h k = refl
one_optional quantity [] None (Some b) h k = absurd (no_number b k.decimal)
one_optional quantity (c ∷ text) None (Some b) h k = cc
one_optional quantity [] (Some a) None h k = absurd (no_number a h.decimal)
one_optional quantity (c ∷ text) (Some a) None h k = cc
one_optional quantity text (Some a) (Some b) h k = ap Some (one_number text a b h.decimal k.decimal)

same_found : {A : Type 0} (o : Option A) (a b : A) → o ≡ Some a → o ≡ Some b → a ≡ b
same_found o a b h k = let e : Some a ≡ Some b = sym h ∙ k in cc

one_spelled : (kind : FieldKind) (text : Text) (a b : Value) → Spells kind text a → Spells kind text b → a ≡ b
one_spelled (CodeOf part) text a b h k = h.2 ∙ ap code (same_found (code_of part text) h.0 k.0 h.1 k.1) ∙ sym k.2
one_spelled Words text a b h k = h.1 ∙ sym k.1
one_spelled Time text a b h k = h.2 ∙ ap time (one_moment text h.0 k.0 h.1 k.1) ∙ sym k.2
one_spelled End text a b h k = h.2 ∙ ap end (one_end text h.0 k.0 h.1 k.1) ∙ sym k.2
one_spelled (Required quantity) text a b h k = h.2 ∙ ap number (one_number text h.0 k.0 h.1.decimal k.1.decimal) ∙ sym k.2
one_spelled (Optional quantity) text a b h k = h.2 ∙ ap optional (one_optional quantity text h.0 k.0 h.1 k.1) ∙ sym k.2
one_spelled (PatternsOf part) text a b h k = h.2 ∙ ap (λ (list : List Text). patterns text list) (one_list part text h.0 k.0 h.1 k.1) ∙ sym k.2
one_spelled EventId text a b h k = h.1 ∙ sym k.1
one_spelled UserName text a b h k = h.1 ∙ sym k.1
one_spelled Ha1 text a b h k = h.1 ∙ sym k.1
one_spelled RoleNames text a b h k = h.2 ∙ ap roles (same_found (roles_of text) h.0 k.0 h.1 k.1) ∙ sym k.2
one_spelled EntryNumber text a b h k = h.2 ∙ ap entry_number (same_found (whole_of text) h.0 k.0 h.1.whole k.1.whole) ∙ sym k.2

pub one_value : (kind : FieldKind) (text : Text) (a b : Value) → IsField kind text a → IsField kind text b → a ≡ b
one_value kind text a b h k = one_spelled kind text a b (spells kind text a h) (spells kind text b k)

-- by a test
by_test : (kind : FieldKind) (text : Text) (b : Bool) → (b ≡ true → CanBeField kind text) → ((value : Value) → IsField kind text value → b ≡ true) → CanBeField kind text ⊎ SpellsNone kind text
by_test kind text b can needs = elim (cases_Bool b) [ inl holds ↦ inl (can holds) | inr none ↦ inr (λ value h. both_ways b none (needs value h)) ]

-- by what is found
by_found : {V : Type 0} (kind : FieldKind) (text : Text) (P : V → Type 0) → Found P → ((v : V) → P v → CanBeField kind text) → ((value : Value) → IsField kind text value → (v : V) × P v) → CanBeField kind text ⊎ SpellsNone kind text
by_found kind text P (inl found) can needs = inl (can found.0 found.1)
by_found kind text P (inr none) can needs = inr (λ value h. let s = needs value h in none s.0 s.1)

pub field_found : (kind : FieldKind) (text : Text) → CanBeField kind text ⊎ SpellsNone kind text
field_found (CodeOf part) text = by_found (CodeOf part) text (λ (c : Text). code_of part text ≡ Some c) (option_found (code_of part text)) (λ c h. (code c, h)) (λ value h. let s = spells (CodeOf part) text value h in (s.0, s.1))
field_found Words text = by_test Words text (is_words text) (λ h. (words text, (refl, h))) (λ value h. (spells Words text value h).0)
field_found Time text = by_found Time text (λ (m : ℤ). IsMoment text m) (moment_found text) (λ m h. (time m, h)) (λ value h. let s = spells Time text value h in (s.0, s.1))
field_found End text = by_found End text (λ (m : Option ℤ). IsEnd text m) (end_found text) (λ m h. (end m, h)) (λ value h. let s = spells End text value h in (s.0, s.1))
field_found (Required quantity) text =
    by_found (Required quantity) text (λ (n : ℤ). IsNumber quantity text n) (number_found quantity text) (λ n h. (number n, h)) (λ value h. let s = spells (Required quantity) text value h in (s.0, s.1))
field_found (Optional quantity) text =
    by_found (Optional quantity) text (λ (n : Option ℤ). IsOptional quantity text n) (optional_found quantity text) (λ n h. (optional n, h)) (λ value h. let s = spells (Optional quantity) text value h in (s.0, s.1))
field_found (PatternsOf part) text =
    by_found (PatternsOf part) text (λ (list : List Text). IsPatternList part text list) (list_found part text) (λ list h. (patterns text list, (refl, h))) (λ value h. let s = spells (PatternsOf part) text value h in (s.0, s.1))
field_found EventId text = by_test EventId text (is_event_id text) (λ h. (words text, (refl, h))) (λ value h. (spells EventId text value h).0)
field_found UserName text = by_test UserName text (is_user_name text) (λ h. (words text, (refl, h))) (λ value h. (spells UserName text value h).0)
field_found Ha1 text = by_test Ha1 text (is_ha1 text) (λ h. (words text, (refl, h))) (λ value h. (spells Ha1 text value h).0)
field_found RoleNames text = by_found RoleNames text (λ (r : Roles). roles_of text ≡ Some r) (option_found (roles_of text)) (λ r h. (roles r, h)) (λ value h. let s = spells RoleNames text value h in (s.0, s.1))
field_found EntryNumber text = by_found EntryNumber text (λ (n : ℕ). IsEntryNumber text n) (entry_found text) (λ n h. (entry_number n, h)) (λ value h. let s = spells EntryNumber text value h in (s.0, s.1))
