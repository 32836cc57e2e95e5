-- How the fault of one field is that of the fields that it stands among, and of those behind a head.
use Rattle.std.proofs.Common.{◌≡◌, ◌+◌, ◌-◌, ◌≤◌, ℕ, zero, suc, List, [], ◌∷◌, ◌++◌, length, map, get_or, refl, sym, ap, ◌∙◌, subst, arith, Result, Ok, Err, IfErr}
use Rattle.std.specs.Borrow.{Bor}
use Rattle.std.proofs.lemmas.List.{length-map}
use Rattle.epochs.specs.declared.fault.LineFault.TheVariants as fault
use Rattle.epochs.specs.declared.values.FieldFault.{FieldFault}
use Rattle.epochs.specs.declared.values.FieldFault.TheVariants.{Bad, OutOfMemory}
use Rattle.epochs.specs.declared.kinds.Head.{Head}
use Rattle.epochs.specs.Kinds.{Text, FieldKind, head_texts, fields_behind}
use Rattle.epochs.specs.Fields.{Value, IsField}
use Rattle.epochs.specs.Lines.{IsFirstBadField, AreValues, IsInOrder, IsPlain, texts_of, line_values}
use Rattle.epochs.specs.Spellable.{IsSpellable}
use Rattle.epochs.specs.Reading.{RefusesField, RefusesLineFields, RefusesBehind, RefusesRevisionLine, IsHead, IsSpelled, IsBackward}
use Rattle.epochs.proofs.SpellableWord.{spellable_is}
use Rattle.epochs.proofs.SpelledValues.{spelled_are_values}

-- the first of these fields is bad
pub first_bad : (kind : FieldKind) (kinds : List FieldKind) (n : ℕ) (text : Text) (texts : List Text) (why : FieldFault) → RefusesField kind n text why → RefusesLineFields (kind ∷ kinds) n (text ∷ texts) why
first_bad kind kinds n text texts (Bad (fault.Value m)) h =
    let e : zero ≡ m - n = omega (arith, h.0) in
    (omega (arith, h.0), subst (λ (count : ℕ). IsFirstBadField (kind ∷ kinds) (text ∷ texts) count) e h.1)
first_bad kind kinds n text texts OutOfMemory h = tt
first_bad kind kinds n text texts (Bad _) h = h

-- the first of these fields is right, and one behind it is bad
later_bad : (kind : FieldKind) (kinds : List FieldKind) (n : ℕ) (text : Text) (texts : List Text) (value : Value) (why : FieldFault) → IsField kind text value → RefusesLineFields kinds (n + 1) texts why → RefusesLineFields (kind ∷ kinds) n (text ∷ texts) why
later_bad kind kinds n text texts value (Bad (fault.Value m)) right h =
    let within : n + 1 ≤ m = h.0 in
    let e : suc (m - (n + 1)) ≡ m - n = omega (arith, within) in
    (omega (arith, within), subst (λ (count : ℕ). IsFirstBadField (kind ∷ kinds) (text ∷ texts) count) e ((value, right), h.1))
later_bad kind kinds n text texts value OutOfMemory right h = tt
later_bad kind kinds n text texts value (Bad _) right h = h

-- fields are bad before others
front_bad : (kinds others : List FieldKind) (n : ℕ) (texts rest : List Text) (why : FieldFault) → RefusesLineFields kinds n texts why → RefusesLineFields (kinds ++ others) n (texts ++ rest) why
front_bad kinds others n texts rest (Bad (fault.Value m)) h = (h.0, first_still kinds texts (m - n) h.1)
  where
    first_still : (ks : List FieldKind) (ts : List Text) (count : ℕ) → IsFirstBadField ks ts count → IsFirstBadField (ks ++ others) (ts ++ rest) count
    first_still (k ∷ ks) (t ∷ ts) zero h = h
    first_still (k ∷ ks) (t ∷ ts) (suc count) h = (h.0, first_still ks ts count h.1)
    first_still [] ts count h = absurd h
    first_still (k ∷ ks) [] count h = absurd h
front_bad kinds others n texts rest OutOfMemory h = tt
front_bad kinds others n texts rest (Bad _) h = h

-- fields are bad behind right ones
behind_right : (front kinds : List FieldKind) (n : ℕ) (before texts : List Text) (values : List Value) (why : FieldFault) → AreValues front before values → RefusesLineFields kinds (n + length front) texts why → RefusesLineFields (front ++ kinds) n (before ++ texts) why
behind_right [] kinds n [] texts [] why right h = subst (λ (m : ℕ). RefusesLineFields kinds m texts why) (omega arith) h
behind_right (k ∷ front) kinds n (t ∷ before) texts (v ∷ values) why right h =
    later_bad k (front ++ kinds) n t (before ++ texts) v why right.0
    (behind_right front kinds (n + 1) before texts values why right.1 (subst (λ (m : ℕ). RefusesLineFields kinds m texts why) (omega arith) h))
behind_right _ kinds n _ texts _ why right h = absurd right

-- fields are bad among others, those before them being right
pub group_among : (front here rest : List FieldKind) (n : ℕ) (before texts after : List Text) (values : List Value) (why : FieldFault) → AreValues front before values → RefusesLineFields here (n + length front) texts why
    → RefusesLineFields (front ++ (here ++ rest)) n (before ++ (texts ++ after)) why
group_among front here rest n before texts after values why right h =
    behind_right front (here ++ rest) n before (texts ++ after) values why right (front_bad here rest (n + length front) texts after why h)

-- one field is
pub field_among : (front : List FieldKind) (kind : FieldKind) (rest : List FieldKind) (n : ℕ) (before : List Text) (text : Text) (after : List Text) (values : List Value) (why : FieldFault) → AreValues front before values → RefusesField kind (n + length front) text why
    → RefusesLineFields (front ++ kind ∷ rest) n (before ++ text ∷ after) why
field_among front kind rest n before text after values why right h =
    behind_right front (kind ∷ rest) n before (text ∷ after) values why right (first_bad kind rest (n + length front) text after why h)

-- a bad field behind a head
behind_head : (head : Head) (rest : List Text) (why : FieldFault) → length rest ≡ length (fields_behind head) → RefusesLineFields (fields_behind head) (length (head_texts head) + 1) rest why → RefusesBehind head rest why
behind_head head rest (Bad (fault.Value m)) n h = (n, h)
behind_head head rest (Bad fault.Fields) n h = absurd h
behind_head head rest (Bad fault.Order) n h = absurd h
behind_head head rest OutOfMemory n h = tt
behind_head head rest (Bad _) n h = h

-- some texts, by their places
abbrev pub text_at : List (Bor Text) → ℕ → Text
text_at fields i = (get_or fields i (record { ref_ptr = (0, 0); now = [] })).now

abbrev pub some_from : List (Bor Text) → ℕ → ℕ → List Text
some_from fields i zero = []
some_from fields i (suc n) = text_at fields i ∷ some_from fields (suc i) n

all_from : (fields : List (Bor Text)) → map (λ x. x.now) fields ≡ some_from fields 0 (length fields)
all_from [] = refl
all_from (x ∷ fields) = ap (λ (ts : List Text). x.now ∷ ts) (all_from fields ∙ sym (shifted x fields 0 (length fields)))
  where
    shifted : (x : Bor Text) (fields : List (Bor Text)) (i n : ℕ) → some_from (x ∷ fields) (suc i) n ≡ some_from fields i n
    shifted x fields i zero = refl
    shifted x fields i (suc n) = ap (λ (ts : List Text). text_at fields i ∷ ts) (shifted x fields (suc i) n)

-- the texts of a list of known length
pub spread : (n : ℕ) (fields : List (Bor Text)) → length fields ≡ n → map (λ x. x.now) fields ≡ some_from fields 0 n
spread n fields e = all_from fields ∙ ap (some_from fields 0) e

module _ (head : Head) (fields : List (Bor Text)) where
  abbrev texts : List Text
  texts = map (λ x. x.now) fields

  abbrev places : List Text
  places = some_from fields 0 (length (fields_behind head))

  pub refused_behind : (why : FieldFault) → length fields ≡ length (fields_behind head) → RefusesLineFields (fields_behind head) (length (head_texts head) + 1) places why → RefusesBehind head texts why
  refused_behind why n h = behind_head head texts why (length-map fields (λ (x : Bor Text). x.now) ∙ n) (subst (λ (ts : List Text). RefusesLineFields (fields_behind head) (length (head_texts head) + 1) ts why) (sym (spread _ fields n)) h)

  pub spelled_behind : (values : List Value) → length fields ≡ length (fields_behind head) → AreValues (fields_behind head) places values → IsInOrder values → IsSpelled head texts (line_values head values)
  spelled_behind values n spells order = record { head_is = refl; spells = subst (λ (ts : List Text). AreValues (fields_behind head) ts values) (sym (spread _ fields n)) spells; in_order = order }

  pub backward_behind : (values : List Value) → length fields ≡ length (fields_behind head) → AreValues (fields_behind head) places values → ¬ (IsInOrder values) → IsBackward head texts
  backward_behind values n spells backward = record { values = values; spells = subst (λ (ts : List Text). AreValues (fields_behind head) ts values) (sym (spread _ fields n)) spells; backward = backward }

  -- values that fields spell
  pub spellable_behind : (values : List Value) → AreValues (fields_behind head) places values → IsInOrder values → IsSpellable (line_values head values)
  spellable_behind values spells order = spellable_is (line_values head values) (record { values_are = spelled_are_values (fields_behind head) places values spells; in_order = order })

-- what fields behind a head are refused for, their line is
pub line_refused : (text : Text) (head : Head) (rest : List Text) (why : FieldFault) → IsPlain text → IsHead (texts_of text) head rest → RefusesBehind head rest why → RefusesRevisionLine text why
line_refused text head rest (Bad fault.Fields) plain split h = record { head = head; rest = rest; has_head = record { is_plain = plain; split = split }; other = h }
line_refused text head rest (Bad (fault.Value n)) plain split h = record {
  head = head;
  rest = rest;
  has_head = record { is_plain = plain; split = split };
  as_many = h.0;
  count = n - (length (head_texts head) + 1);
  first = h.1.1;
  number_is = omega (arith, h.1.0);
}
line_refused text head rest (Bad fault.Order) plain split h = record { head = head; rest = rest; has_head = record { is_plain = plain; split = split }; values = h.values; spells = h.spells; backward = h.backward }
line_refused text head rest OutOfMemory plain split h = tt
line_refused text head rest (Bad _) plain split h = absurd h

pub refused_by : {V : Type 0} (P Q : FieldFault → Type 0) → ((why : FieldFault) → P why → Q why) → (r : Result V FieldFault) → IfErr r P → IfErr r Q
refused_by P Q turn (Ok v) h = tt
refused_by P Q turn (Err why) h = turn why h
