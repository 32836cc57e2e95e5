-- The values of the fields of a name, a field more at a time.
use Rattle.std.proofs.Common.{◌≡◌, ◌∙◌, refl, sym, ap, ℕ, ◌+◌, ◌<◌, ◌≤◌, Bool, true, false, List, [], ◌∷◌, ◌++◌, length, take, drop, map, filter, slice_index_or, Bor, if◌then◌else◌, is_some, option_map, Option, None, Some, Ok, Err, option_to_list}
use Rattle.std.proofs.lemmas.List.{append-nil, map-append, take_more, take_all, take-append-drop}
use Rattle.std.proofs.lemmas.List.Elements.{filter-append}
use Rattle.http_wire.specs.FieldPairs.{as_pair}
use Rattle.http_wire.specs.Heads.{is_field}
use Rattle.http_wire.specs.declared.field.Field.{Field}
use Rattle.centre_desk.specs.Fields.{values_of, only_of}
use Rattle.centre_desk.specs.declared.fields.Repeated.{Repeated}

pub values_more : (name : List ℕ) (xs ys : List (List ℕ × List ℕ)) → values_of name (xs ++ ys) ≡ values_of name xs ++ values_of name ys
values_more name xs ys =
    ap (map (λ field. field.1)) (filter-append (is_field name) xs ys) ∙ map-append (λ field. field.1) (filter (is_field name) xs) (filter (is_field name) ys)

-- one value so far, or none
pub only_one : (found : Option (List ℕ)) → only_of (option_to_list found) ≡ Ok found
only_one None = refl
only_one (Some value) = refl

module _ (name : List ℕ) (fields : List Field) where
  -- what stands up to a place
  abbrev upto : ℕ → List (List ℕ)
  upto k = values_of name (map as_pair (take k fields))

  one_more : (k : ℕ) (field : Field) → k < length fields → field ≡ slice_index_or fields k field → upto (k + 1) ≡ upto k ++ values_of name (as_pair field ∷ [])
  one_more k field lt at =
      let step : take (k + 1) fields ≡ take k fields ++ field ∷ [] = take_more fields k field lt ∙ ap (λ f. take k fields ++ f ∷ []) (sym at) in
      ap (λ l. values_of name (map as_pair l)) step
      ∙ (ap (values_of name) (map-append as_pair (take k fields) (field ∷ [])) ∙ values_more name (map as_pair (take k fields)) (as_pair field ∷ []))

  of_this : (field : Field) (b : Bool) → is_field name (as_pair field) ≡ b → values_of name (as_pair field ∷ []) ≡ (if b then field.value ∷ [] else [])
  of_this field true is = rw is refl
  of_this field false is = rw is refl

  -- a field of another name
  pub passed_over : (k : ℕ) (field : Field) (found : Option (List ℕ)) → k < length fields → field ≡ slice_index_or fields k field → is_field name (as_pair field) ≡ false
      → upto k ≡ option_to_list found → upto (k + 1) ≡ option_to_list found
  passed_over k field found lt at is so = one_more k field lt at ∙ (ap (λ l. upto k ++ l) (of_this field false is) ∙ (append-nil (upto k) ∙ so))

  -- the first field of the name
  pub found_here : (k : ℕ) (field : Field) → k < length fields → field ≡ slice_index_or fields k field → is_field name (as_pair field) ≡ true
      → upto k ≡ [] → upto (k + 1) ≡ field.value ∷ []
  found_here k field lt at is none = one_more k field lt at ∙ (ap (λ l. upto k ++ l) (of_this field true is) ∙ ap (λ l. l ++ field.value ∷ []) none)

  -- a second field of the name
  pub found_twice : (k : ℕ) (field : Field) (value : List ℕ) (repeated : Repeated) → k < length fields → field ≡ slice_index_or fields k field → is_field name (as_pair field) ≡ true
      → upto k ≡ value ∷ [] → only_of (values_of name (map as_pair fields)) ≡ Err repeated
  found_twice k field value repeated lt at is so =
      let here : upto (k + 1) ≡ value ∷ (field.value ∷ []) = one_more k field lt at ∙ (ap (λ l. upto k ++ l) (of_this field true is) ∙ ap (λ l. l ++ field.value ∷ []) so) in
      let whole : values_of name (map as_pair fields) ≡ upto (k + 1) ++ values_of name (map as_pair (drop (k + 1) fields)) =
      ap (λ l. values_of name (map as_pair l)) (sym (take-append-drop (k + 1) fields))
      ∙ (ap (values_of name) (map-append as_pair (take (k + 1) fields) (drop (k + 1) fields)) ∙ values_more name (map as_pair (take (k + 1) fields)) (map as_pair (drop (k + 1) fields))) in
      ap only_of (whole ∙ ap (λ l. l ++ values_of name (map as_pair (drop (k + 1) fields))) here)

  -- all of them were looked at
  pub all_seen : (k : ℕ) (found : Option (List ℕ)) → length fields ≤ k → upto k ≡ option_to_list found → only_of (values_of name (map as_pair fields)) ≡ Ok found
  all_seen k found le so = ap (λ l. only_of (values_of name (map as_pair l))) (sym (take_all k fields le)) ∙ (ap only_of so ∙ only_one found)

-- what was found, where something was, and where nothing was
pub found_value : (o : Option (Bor (List ℕ))) → is_some o ≡ true → (value : List ℕ) × (option_map (λ v. v.now) o ≡ Some value)
found_value (Some v) is = (v.now, refl)
found_value None is = absurd cc

pub found_none : (o : Option (Bor (List ℕ))) → is_some o ≡ false → option_map (λ v. v.now) o ≡ None
found_none (Some v) is = absurd cc
found_none None is = refl
