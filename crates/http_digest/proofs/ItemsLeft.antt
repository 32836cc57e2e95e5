-- What reads as items is what valid items print.
use Rattle.std.proofs.Common.{◌≡◌, ℕ, Bool, true, false, ◌==◌, ◌&&◌, not, List, [], ◌∷◌, ◌++◌, map, Some, None, cond, refl, sym, ap, ap₂, ◌∙◌, append_assoc}
use Rattle.std.specs.Option.{option_and_then}
use Rattle.std.specs.List.{list_all, flat_map}
use Rattle.std.proofs.lemmas.Bool.{and_from, and_parts}
use Rattle.std.proofs.lemmas.List.{append-nil}
use Rattle.http_digest.specs.Credentials.{space, quotation_mark, comma, equals_sign, backslash, is_token_byte, is_token, QuotedByte, Plain, Escaped, print_byte, said_byte, is_quotable, Spelling, Token, Quoted, print_spelling, said_spelling, is_spelling, Parameter, print_parameter, is_parameter, said_parameter, are_spaces, Further, print_further, is_further, print_items}
use Rattle.http_digest.specs.Items.{in_name, in_value, moved, with_item, items_from}
use Rattle.http_digest.specs.declared.item.Item.{Item}
use Rattle.http_digest.specs.declared.scan.Place.{Place}
use Rattle.http_digest.specs.declared.scan.Place.TheVariants as place
use Rattle.http_digest.proofs.ScanSteps.{scan_at, reads, same_byte}

abbrev pub said_more : List Further → List Item
said_more more = map (λ f. said_parameter f.parameter) more

abbrev pub print_more : List Further → List ℕ
print_more more = flat_map print_further more

abbrev pub item_of : List ℕ → List ℕ → Item
item_of name value = record { name = name; value = value }

-- what is left before an item
pub record LeftBefore (items : List Item) (text : List ℕ) (final : List Item) : Type 0 where
  pub spaces : List ℕ
  pub first : Parameter
  pub more : List Further
  pub spaces_are : are_spaces spaces ≡ true
  pub first_is : is_parameter first ≡ true
  pub more_are : list_all is_further more ≡ true
  pub printed : text ≡ spaces ++ print_items first more
  pub told : final ≡ items ++ said_parameter first ∷ said_more more

-- in a name
pub record LeftName (items : List Item) (name text : List ℕ) (final : List Item) : Type 0 where
  pub tail : List ℕ
  pub spelling : Spelling
  pub more : List Further
  pub tail_is : list_all is_token_byte tail ≡ true
  pub spelling_is : is_spelling spelling ≡ true
  pub more_are : list_all is_further more ≡ true
  pub printed : text ≡ tail ++ equals_sign ∷ (print_spelling spelling ++ print_more more)
  pub told : final ≡ items ++ item_of (name ++ tail) (said_spelling spelling) ∷ said_more more

-- before a value
pub record LeftValue (items : List Item) (name text : List ℕ) (final : List Item) : Type 0 where
  pub spelling : Spelling
  pub more : List Further
  pub spelling_is : is_spelling spelling ≡ true
  pub more_are : list_all is_further more ≡ true
  pub printed : text ≡ print_spelling spelling ++ print_more more
  pub told : final ≡ items ++ item_of name (said_spelling spelling) ∷ said_more more

-- in a token
pub record LeftToken (items : List Item) (name value text : List ℕ) (final : List Item) : Type 0 where
  pub tail : List ℕ
  pub more : List Further
  pub tail_is : list_all is_token_byte tail ≡ true
  pub more_are : list_all is_further more ≡ true
  pub printed : text ≡ tail ++ print_more more
  pub told : final ≡ items ++ item_of name (value ++ tail) ∷ said_more more

-- in a quoted text
pub record LeftQuoted (items : List Item) (name value text : List ℕ) (final : List Item) : Type 0 where
  pub bytes : List QuotedByte
  pub more : List Further
  pub bytes_are : list_all is_quotable bytes ≡ true
  pub more_are : list_all is_further more ≡ true
  pub printed : text ≡ flat_map print_byte bytes ++ quotation_mark ∷ print_more more
  pub told : final ≡ items ++ item_of name (value ++ map said_byte bytes) ∷ said_more more

-- behind a backslash
pub record LeftEscaped (items : List Item) (name value text : List ℕ) (final : List Item) : Type 0 where
  pub byte : ℕ
  pub behind : List ℕ
  pub split : text ≡ byte ∷ behind
  pub left : LeftQuoted items name (value ++ byte ∷ []) behind final

-- behind a value
pub record LeftClosed (items : List Item) (name value text : List ℕ) (final : List Item) : Type 0 where
  pub more : List Further
  pub more_are : list_all is_further more ≡ true
  pub printed : text ≡ print_more more
  pub told : final ≡ items ++ item_of name value ∷ said_more more

-- behind spaces: a comma has to come
pub record LeftGap (items : List Item) (name value text : List ℕ) (final : List Item) : Type 0 where
  pub next : Further
  pub more : List Further
  pub next_is : is_further next ≡ true
  pub more_are : list_all is_further more ≡ true
  pub printed : text ≡ print_further next ++ print_more more
  pub told : final ≡ items ++ item_of name value ∷ said_parameter next.parameter ∷ said_more more

abbrev pub Left : Place → List Item → List ℕ → List ℕ → List ℕ → List Item → Type 0
Left place.Before items name value text final = (name ≡ []) → (value ≡ []) → LeftBefore items text final
Left place.Name items name value text final = (value ≡ []) → LeftName items name text final
Left place.Value items name value text final = (value ≡ []) → LeftValue items name text final
Left place.Token items name value text final = LeftToken items name value text final
Left place.Quoted items name value text final = LeftQuoted items name value text final
Left place.Escaped items name value text final = LeftEscaped items name value text final
Left place.Closed items name value text final = LeftClosed items name value text final
Left place.Gap items name value text final = LeftGap items name value text final

-- one byte, where what follows is known
module _ (b : ℕ) (rest : List ℕ) (final : List Item)
    (left : (p : Place) (items : List Item) (name value : List ℕ) → reads p items name value rest ≡ Some final → Left p items name value rest final) where
  before_left : (items : List Item) (spaced token : Bool) → (b == space) ≡ spaced → is_token_byte b ≡ token
      → option_and_then (λ t. items_from t rest) (cond spaced (Some (scan_at place.Before items [] [])) (cond token (Some (in_name (scan_at place.Before items [] []) b)) None)) ≡ Some final
      → LeftBefore items (b ∷ rest) final
  before_left items true token is _ h =
      let l = left place.Before items [] [] h refl refl in
      record {
        spaces = b ∷ l.spaces;
        first = l.first;
        more = l.more;
        spaces_are = and_from (b == space) (are_spaces l.spaces) is l.spaces_are;
        first_is = l.first_is;
        more_are = l.more_are;
        printed = ap (λ (t : List ℕ). b ∷ t) l.printed;
        told = l.told;
      }
  before_left items false true _ is h =
      let l = left place.Name items (b ∷ []) [] h refl in
      record {
        spaces = [];
        first = record { name = b ∷ l.tail; spelling = l.spelling };
        more = l.more;
        spaces_are = refl;
        first_is = and_from (is_token (b ∷ l.tail)) (is_spelling l.spelling) (and_from (is_token_byte b) (list_all is_token_byte l.tail) is l.tail_is) l.spelling_is;
        more_are = l.more_are;
        printed = ap (λ (t : List ℕ). b ∷ t) (l.printed ∙ sym (append_assoc l.tail (equals_sign ∷ print_spelling l.spelling) (print_more l.more)));
        told = l.told;
      }
  before_left items false false _ _ h = absurd (let e : None ≡ Some final = h in cc)

  name_left : (items : List Item) (name : List ℕ) (ends token : Bool) → (b == equals_sign) ≡ ends → is_token_byte b ≡ token
      → option_and_then (λ t. items_from t rest) (cond ends (Some (moved place.Value (scan_at place.Name items name []))) (cond token (Some (in_name (scan_at place.Name items name []) b)) None)) ≡ Some final
      → LeftName items name (b ∷ rest) final
  name_left items name true token is _ h =
      let l = left place.Value items name [] h refl in
      record {
        tail = [];
        spelling = l.spelling;
        more = l.more;
        tail_is = refl;
        spelling_is = l.spelling_is;
        more_are = l.more_are;
        printed = ap₂ (λ (c : ℕ) (t : List ℕ). c ∷ t) (same_byte b equals_sign is) l.printed;
        told = l.told ∙ ap (λ (n : List ℕ). items ++ item_of n (said_spelling l.spelling) ∷ said_more l.more) (sym (append-nil name));
      }
  name_left items name false true _ is h =
      let l = left place.Name items (name ++ b ∷ []) [] h refl in
      record {
        tail = b ∷ l.tail;
        spelling = l.spelling;
        more = l.more;
        tail_is = and_from (is_token_byte b) (list_all is_token_byte l.tail) is l.tail_is;
        spelling_is = l.spelling_is;
        more_are = l.more_are;
        printed = ap (λ (t : List ℕ). b ∷ t) l.printed;
        told = l.told ∙ ap (λ (n : List ℕ). items ++ item_of n (said_spelling l.spelling) ∷ said_more l.more) (append_assoc name (b ∷ []) l.tail);
      }
  name_left items name false false _ _ h = absurd (let e : None ≡ Some final = h in cc)

  spaced_next : (f : Further) → (b == space) ≡ true → is_further f ≡ true
      → is_further (record { before = b ∷ f.before; behind = f.behind; parameter = f.parameter }) ≡ true
  spaced_next f is h =
      let parts = and_parts (are_spaces f.before && are_spaces f.behind) (is_parameter f.parameter) h in
      let spaces = and_parts (are_spaces f.before) (are_spaces f.behind) parts.0 in
      and_from (are_spaces (b ∷ f.before) && are_spaces f.behind) (is_parameter f.parameter)
      (and_from (are_spaces (b ∷ f.before)) (are_spaces f.behind) (and_from (b == space) (are_spaces f.before) is spaces.0) spaces.1)
      parts.1

  gap_left : (items : List Item) (name value : List ℕ) (from : Place) (spaced ends : Bool) → (b == space) ≡ spaced → (b == comma) ≡ ends
      → option_and_then (λ t. items_from t rest) (cond spaced (Some (moved place.Gap (scan_at from items name value))) (cond ends (Some (with_item (scan_at from items name value))) None)) ≡ Some final
      → LeftGap items name value (b ∷ rest) final
  gap_left items name value from true ends is _ h =
      let l = left place.Gap items name value h in
      record {
        next = record { before = b ∷ l.next.before; behind = l.next.behind; parameter = l.next.parameter };
        more = l.more;
        next_is = spaced_next l.next is l.next_is;
        more_are = l.more_are;
        printed = ap (λ (t : List ℕ). b ∷ t) l.printed;
        told = l.told;
      }
  gap_left items name value from false true _ is h =
      let l = left place.Before (items ++ item_of name value ∷ []) [] [] h refl refl in
      record {
        next = record { before = []; behind = l.spaces; parameter = l.first };
        more = l.more;
        next_is = and_from (are_spaces l.spaces) (is_parameter l.first) l.spaces_are l.first_is;
        more_are = l.more_are;
        printed = ap₂ (λ (c : ℕ) (t : List ℕ). c ∷ t) (same_byte b comma is) (l.printed ∙ sym (append_assoc l.spaces (print_parameter l.first) (print_more l.more)));
        told = l.told ∙ append_assoc items (item_of name value ∷ []) (said_parameter l.first ∷ said_more l.more);
      }
  gap_left items name value from false false _ _ h = absurd (let e : None ≡ Some final = h in cc)

  closed_left : (items : List Item) (name value : List ℕ) → LeftGap items name value (b ∷ rest) final → LeftClosed items name value (b ∷ rest) final
  closed_left items name value l = record {
    more = l.next ∷ l.more;
    more_are = and_from (is_further l.next) (list_all is_further l.more) l.next_is l.more_are;
    printed = l.printed;
    told = l.told;
  }

  token_left : (items : List Item) (name value : List ℕ) (token : Bool) → is_token_byte b ≡ token
      → option_and_then (λ t. items_from t rest) (cond token (Some (in_value place.Token (scan_at place.Token items name value) b)) (cond (b == space) (Some (moved place.Gap (scan_at place.Token items name value))) (cond (b == comma) (Some (with_item (scan_at place.Token items name value))) None))) ≡ Some final
      → LeftToken items name value (b ∷ rest) final
  token_left items name value true is h =
      let l = left place.Token items name (value ++ b ∷ []) h in
      record {
        tail = b ∷ l.tail;
        more = l.more;
        tail_is = and_from (is_token_byte b) (list_all is_token_byte l.tail) is l.tail_is;
        more_are = l.more_are;
        printed = ap (λ (t : List ℕ). b ∷ t) l.printed;
        told = l.told ∙ ap (λ (v : List ℕ). items ++ item_of name v ∷ said_more l.more) (append_assoc value (b ∷ []) l.tail);
      }
  token_left items name value false _ h =
      let l = closed_left items name value (gap_left items name value place.Token (b == space) (b == comma) refl refl h) in
      record {
        tail = [];
        more = l.more;
        tail_is = refl;
        more_are = l.more_are;
        printed = l.printed;
        told = l.told ∙ ap (λ (v : List ℕ). items ++ item_of name v ∷ said_more l.more) (sym (append-nil value));
      }

  value_left : (items : List Item) (name : List ℕ) (opens token : Bool) → (b == quotation_mark) ≡ opens → is_token_byte b ≡ token
      → option_and_then (λ t. items_from t rest) (cond opens (Some (moved place.Quoted (scan_at place.Value items name []))) (cond token (Some (in_value place.Token (scan_at place.Value items name []) b)) None)) ≡ Some final
      → LeftValue items name (b ∷ rest) final
  value_left items name true token is _ h =
      let l = left place.Quoted items name [] h in
      record {
        spelling = Quoted l.bytes;
        more = l.more;
        spelling_is = l.bytes_are;
        more_are = l.more_are;
        printed = ap₂ (λ (c : ℕ) (t : List ℕ). c ∷ t) (same_byte b quotation_mark is) (l.printed ∙ sym (append_assoc (flat_map print_byte l.bytes) (quotation_mark ∷ []) (print_more l.more)));
        told = l.told;
      }
  value_left items name false true _ is h =
      let l = left place.Token items name (b ∷ []) h in
      record {
        spelling = Token (b ∷ l.tail);
        more = l.more;
        spelling_is = and_from (is_token_byte b) (list_all is_token_byte l.tail) is l.tail_is;
        more_are = l.more_are;
        printed = ap (λ (t : List ℕ). b ∷ t) l.printed;
        told = l.told;
      }
  value_left items name false false _ _ h = absurd (let e : None ≡ Some final = h in cc)

  quoted_left : (items : List Item) (name value : List ℕ) (closes escapes : Bool) → (b == quotation_mark) ≡ closes → (b == backslash) ≡ escapes
      → option_and_then (λ t. items_from t rest) (cond closes (Some (moved place.Closed (scan_at place.Quoted items name value))) (cond escapes (Some (moved place.Escaped (scan_at place.Quoted items name value))) (Some (in_value place.Quoted (scan_at place.Quoted items name value) b)))) ≡ Some final
      → LeftQuoted items name value (b ∷ rest) final
  quoted_left items name value true escapes is _ h =
      let l = left place.Closed items name value h in
      record {
        bytes = [];
        more = l.more;
        bytes_are = refl;
        more_are = l.more_are;
        printed = ap₂ (λ (c : ℕ) (t : List ℕ). c ∷ t) (same_byte b quotation_mark is) l.printed;
        told = l.told ∙ ap (λ (v : List ℕ). items ++ item_of name v ∷ said_more l.more) (sym (append-nil value));
      }
  quoted_left items name value false true _ is h =
      let e = left place.Escaped items name value h in
      let l = e.left in
      record {
        bytes = Escaped e.byte ∷ l.bytes;
        more = l.more;
        bytes_are = l.bytes_are;
        more_are = l.more_are;
        printed = ap₂ (λ (c : ℕ) (t : List ℕ). c ∷ t) (same_byte b backslash is) (e.split ∙ ap (λ (t : List ℕ). e.byte ∷ t) l.printed);
        told = l.told ∙ ap (λ (v : List ℕ). items ++ item_of name v ∷ said_more l.more) (append_assoc value (e.byte ∷ []) (map said_byte l.bytes));
      }
  quoted_left items name value false false inside plain h =
      let l = left place.Quoted items name (value ++ b ∷ []) h in
      record {
        bytes = Plain b ∷ l.bytes;
        more = l.more;
        bytes_are = and_from (is_quotable (Plain b)) (list_all is_quotable l.bytes) (and_from (not (b == quotation_mark)) (not (b == backslash)) (ap not inside) (ap not plain)) l.bytes_are;
        more_are = l.more_are;
        printed = ap (λ (t : List ℕ). b ∷ t) l.printed;
        told = l.told ∙ ap (λ (v : List ℕ). items ++ item_of name v ∷ said_more l.more) (append_assoc value (b ∷ []) (map said_byte l.bytes));
      }

  from_before : (items : List Item) (name value : List ℕ) → reads place.Before items name value (b ∷ rest) ≡ Some final → name ≡ [] → value ≡ [] → LeftBefore items (b ∷ rest) final
  from_before items [] [] h _ _ = before_left items (b == space) (is_token_byte b) refl refl h
  from_before items [] (c ∷ value) h _ e = absurd cc
  from_before items (c ∷ name) value h e _ = absurd cc

  from_name : (items : List Item) (name value : List ℕ) → reads place.Name items name value (b ∷ rest) ≡ Some final → value ≡ [] → LeftName items name (b ∷ rest) final
  from_name items name [] h _ = name_left items name (b == equals_sign) (is_token_byte b) refl refl h
  from_name items name (c ∷ value) h e = absurd cc

  from_value : (items : List Item) (name value : List ℕ) → reads place.Value items name value (b ∷ rest) ≡ Some final → value ≡ [] → LeftValue items name (b ∷ rest) final
  from_value items name [] h _ = value_left items name (b == quotation_mark) (is_token_byte b) refl refl h
  from_value items name (c ∷ value) h e = absurd cc

  pub byte_left : (p : Place) (items : List Item) (name value : List ℕ) → reads p items name value (b ∷ rest) ≡ Some final → Left p items name value (b ∷ rest) final
  byte_left place.Before items name value h = from_before items name value h
  byte_left place.Name items name value h = from_name items name value h
  byte_left place.Value items name value h = from_value items name value h
  byte_left place.Token items name value h = token_left items name value (is_token_byte b) refl h
  byte_left place.Quoted items name value h = quoted_left items name value (b == quotation_mark) (b == backslash) refl refl h
  byte_left place.Escaped items name value h = record { byte = b; behind = rest; split = refl; left = left place.Quoted items name (value ++ b ∷ []) h }
  byte_left place.Closed items name value h = closed_left items name value (gap_left items name value place.Closed (b == space) (b == comma) refl refl h)
  byte_left place.Gap items name value h = gap_left items name value place.Gap (b == space) (b == comma) refl refl h

end_left : (final : List Item) (p : Place) (items : List Item) (name value : List ℕ) → reads p items name value [] ≡ Some final → Left p items name value [] final
end_left final place.Token items name value h = record {
  tail = [];
  more = [];
  tail_is = refl;
  more_are = refl;
  printed = refl;
  told = (let e : Some (items ++ item_of name value ∷ []) ≡ Some final = h in cc) ∙ ap (λ (v : List ℕ). items ++ item_of name v ∷ []) (sym (append-nil value));
}
end_left final place.Closed items name value h =
    record { more = []; more_are = refl; printed = refl; told = let e : Some (items ++ item_of name value ∷ []) ≡ Some final = h in cc }
end_left final place.Before items name value h = absurd (let e : None ≡ Some final = h in cc)
end_left final place.Name items name value h = absurd (let e : None ≡ Some final = h in cc)
end_left final place.Value items name value h = absurd (let e : None ≡ Some final = h in cc)
end_left final place.Quoted items name value h = absurd (let e : None ≡ Some final = h in cc)
end_left final place.Escaped items name value h = absurd (let e : None ≡ Some final = h in cc)
end_left final place.Gap items name value h = absurd (let e : None ≡ Some final = h in cc)

pub items_left : (text : List ℕ) (final : List Item) (p : Place) (items : List Item) (name value : List ℕ) → reads p items name value text ≡ Some final → Left p items name value text final
items_left [] final p items name value h = end_left final p items name value h
items_left (b ∷ rest) final p items name value h = byte_left b rest final (items_left rest final) p items name value h
