-- What valid credentials print reads as their items.
use Rattle.std.proofs.Common.{◌≡◌, ℕ, Bool, true, false, ◌==◌, ◌&&◌, not, List, [], ◌∷◌, ◌++◌, map, Some, refl, sym, ap, ◌∙◌, append_assoc}
use Rattle.std.specs.List.{list_all, flat_map}
use Rattle.std.proofs.lemmas.Bool.{and_parts, cond-true, cond-false}
use Rattle.std.proofs.lemmas.List.{append-nil}
use Rattle.http_digest.specs.Credentials.{space, quotation_mark, comma, equals_sign, backslash, is_token_byte, is_token, QuotedByte, Plain, Escaped, print_byte, said_byte, is_quotable, Spelling, Token, Quoted, print_spelling, said_spelling, is_spelling, Parameter, print_parameter, is_parameter, said_parameter, are_spaces, Further, print_further, is_further, print_items}
use Rattle.http_digest.specs.Items.{in_name, in_value, moved, with_item, behind_step, step_at, items_at}
use Rattle.http_digest.specs.declared.item.Item.{Item}
use Rattle.http_digest.specs.declared.scan.Place.{Place}
use Rattle.http_digest.specs.declared.scan.Place.TheVariants as place
use Rattle.http_digest.specs.declared.scan.Scan.{Scan}
use Rattle.http_digest.proofs.ScanSteps.{scan_at, reads, space_is_none, comma_is_none, same_byte, goes, name_token, before_token, value_token, token_token, token_other}

-- a longer front
more_front : (front : List ℕ) (b : ℕ) (tail : List ℕ) → front ++ b ∷ [] ++ tail ≡ front ++ (b ∷ tail)
more_front front b tail = append_assoc front (b ∷ []) tail

name_read : (items : List Item) (name value tail rest : List ℕ) → list_all is_token_byte tail ≡ true
    → reads place.Name items name value (tail ++ rest) ≡ reads place.Name items (name ++ tail) value rest
name_read items name value [] rest h = ap (λ n. reads place.Name items n value rest) (sym (append-nil name))
name_read items name value (b ∷ tail) rest h =
    let parts = and_parts (is_token_byte b) (list_all is_token_byte tail) h in
    goes (scan_at place.Name items name value) (in_name (scan_at place.Name items name value) b) b (tail ++ rest) (name_token (scan_at place.Name items name value) b parts.0)
    ∙ name_read items (name ++ b ∷ []) value tail rest parts.1
    ∙ ap (λ n. reads place.Name items n value rest) (more_front name b tail)

token_read : (items : List Item) (name value tail rest : List ℕ) → list_all is_token_byte tail ≡ true
    → reads place.Token items name value (tail ++ rest) ≡ reads place.Token items name (value ++ tail) rest
token_read items name value [] rest h = ap (λ v. reads place.Token items name v rest) (sym (append-nil value))
token_read items name value (b ∷ tail) rest h =
    let parts = and_parts (is_token_byte b) (list_all is_token_byte tail) h in
    goes (scan_at place.Token items name value) (in_value place.Token (scan_at place.Token items name value) b) b (tail ++ rest) (token_token (scan_at place.Token items name value) b parts.0)
    ∙ token_read items name (value ++ b ∷ []) tail rest parts.1
    ∙ ap (λ v. reads place.Token items name v rest) (more_front value b tail)

is_not : (b : Bool) → not b ≡ true → b ≡ false
is_not true h = sym h
is_not false h = refl

byte_read : (items : List Item) (name value : List ℕ) (q : QuotedByte) (rest : List ℕ) → is_quotable q ≡ true
    → reads place.Quoted items name value (print_byte q ++ rest) ≡ reads place.Quoted items name (value ++ said_byte q ∷ []) rest
byte_read items name value (Plain b) rest h =
    let parts = and_parts (not (b == quotation_mark)) (not (b == backslash)) h in
    goes (scan_at place.Quoted items name value) (in_value place.Quoted (scan_at place.Quoted items name value) b) b rest (cond-false _ _ _ (is_not _ parts.0) ∙ cond-false _ _ _ (is_not _ parts.1))
byte_read items name value (Escaped b) rest h = refl

quoted_read : (items : List Item) (name value : List ℕ) (bytes : List QuotedByte) (rest : List ℕ) → list_all is_quotable bytes ≡ true
    → reads place.Quoted items name value (flat_map print_byte bytes ++ rest) ≡ reads place.Quoted items name (value ++ map said_byte bytes) rest
quoted_read items name value [] rest h = ap (λ v. reads place.Quoted items name v rest) (sym (append-nil value))
quoted_read items name value (q ∷ bytes) rest h =
    let parts = and_parts (is_quotable q) (list_all is_quotable bytes) h in
    ap (reads place.Quoted items name value) (append_assoc (print_byte q) (flat_map print_byte bytes) rest)
    ∙ byte_read items name value q (flat_map print_byte bytes ++ rest) parts.0
    ∙ quoted_read items name (value ++ said_byte q ∷ []) bytes rest parts.1
    ∙ ap (λ v. reads place.Quoted items name v rest) (more_front value (said_byte q) (map said_byte bytes))

-- the places behind a value; at those that end one the text may end
record IsBehind (p : Place) : Type 0 where
  steps : (s : Scan) (b : ℕ) → is_token_byte b ≡ false → step_at p s b ≡ behind_step s b

record Ends (p : Place) : Type 0 where
  behind : IsBehind p
  at_end : (s : Scan) → items_at p s ≡ Some (with_item s).items

token_ends : Ends place.Token
token_ends = record { behind = record { steps = token_other }; at_end = λ s. refl }

closed_ends : Ends place.Closed
closed_ends = record { behind = record { steps = λ s b h. refl }; at_end = λ s. refl }

gap_behind : IsBehind place.Gap
gap_behind = record { steps = λ s b h. refl }

gap_read : (p : Place) → IsBehind p → (items : List Item) (name value spaces rest : List ℕ) → are_spaces spaces ≡ true
    → reads p items name value (spaces ++ comma ∷ rest) ≡ reads place.Before (items ++ (record { name = name; value = value }) ∷ []) [] [] rest
gap_read p is items name value [] rest h = goes (scan_at p items name value) (with_item (scan_at p items name value)) comma rest (is.steps (scan_at p items name value) comma comma_is_none)
gap_read p is items name value (b ∷ spaces) rest h =
    let parts = and_parts (b == space) (are_spaces spaces) h in
    let e : b ≡ space = same_byte b space parts.0 in
    ap (λ c. reads p items name value (c ∷ (spaces ++ comma ∷ rest))) e
    ∙ goes (scan_at p items name value) (moved place.Gap (scan_at p items name value)) space (spaces ++ comma ∷ rest) (is.steps (scan_at p items name value) space space_is_none)
    ∙ gap_read place.Gap gap_behind items name value spaces rest parts.1

pub spaces_read : (items : List Item) (spaces rest : List ℕ) → are_spaces spaces ≡ true
    → reads place.Before items [] [] (spaces ++ rest) ≡ reads place.Before items [] [] rest
spaces_read items [] rest h = refl
spaces_read items (b ∷ spaces) rest h =
    let parts = and_parts (b == space) (are_spaces spaces) h in
    goes (scan_at place.Before items [] []) (scan_at place.Before items [] []) b (spaces ++ rest) (cond-true _ _ _ parts.0) ∙ spaces_read items spaces rest parts.1

-- a value is read up to a place that ends it
record ReadsTo (items : List Item) (name said printed rest : List ℕ) : Type 0 where
  to : Place
  ends : Ends to
  reading : reads place.Value items name [] (printed ++ rest) ≡ reads to items name said rest

spelling_read : (items : List Item) (name : List ℕ) (s : Spelling) (rest : List ℕ) → is_spelling s ≡ true
    → ReadsTo items name (said_spelling s) (print_spelling s) rest
spelling_read items name (Token []) rest h = absurd (let bad : false ≡ true = h in cc)
spelling_read items name (Token (b ∷ tail)) rest h =
    let parts = and_parts (is_token_byte b) (list_all is_token_byte tail) h in
    record {
      to = place.Token;
      ends = token_ends;
      reading = goes (scan_at place.Value items name []) (in_value place.Token (scan_at place.Value items name []) b) b (tail ++ rest) (value_token (scan_at place.Value items name []) b parts.0) ∙ token_read items name (b ∷ []) tail rest parts.1;
    }
spelling_read items name (Quoted bytes) rest h = record {
  to = place.Closed;
  ends = closed_ends;
  reading =
      ap (reads place.Quoted items name []) (append_assoc (flat_map print_byte bytes) (quotation_mark ∷ []) rest)
      ∙ quoted_read items name [] bytes (quotation_mark ∷ rest) h;
}

parameter_read : (items : List Item) (name : List ℕ) (s : Spelling) (rest : List ℕ) → is_token name ≡ true
    → reads place.Before items [] [] (name ++ equals_sign ∷ print_spelling s ++ rest) ≡ reads place.Value items name [] (print_spelling s ++ rest)
parameter_read items [] s rest h = absurd (let bad : false ≡ true = h in cc)
parameter_read items (b ∷ tail) s rest h =
    let parts = and_parts (is_token_byte b) (list_all is_token_byte tail) h in
    ap (λ t. reads place.Before items [] [] (b ∷ t)) (append_assoc tail (equals_sign ∷ print_spelling s) rest)
    ∙ goes (scan_at place.Before items [] []) (in_name (scan_at place.Before items [] []) b) b (tail ++ (equals_sign ∷ print_spelling s ++ rest)) (before_token (scan_at place.Before items [] []) b parts.0)
    ∙ name_read items (b ∷ []) [] tail (equals_sign ∷ (print_spelling s ++ rest)) parts.1

-- the items of what they print
pub items_read : (items : List Item) (first : Parameter) (more : List Further) → is_parameter first ≡ true → list_all is_further more ≡ true
    → reads place.Before items [] [] (print_items first more) ≡ Some (items ++ said_parameter first ∷ map (λ f. said_parameter f.parameter) more)
items_read items first [] is all =
    let parts = and_parts (is_token first.name) (is_spelling first.spelling) is in
    let r = spelling_read items first.name first.spelling [] parts.1 in
    parameter_read items first.name first.spelling [] parts.0 ∙ r.reading ∙ r.ends.at_end (scan_at r.to items first.name (said_spelling first.spelling))
items_read items first (f ∷ more) is all =
    let parts = and_parts (is_token first.name) (is_spelling first.spelling) is in
    let rest = flat_map print_further more in
    let r = spelling_read items first.name first.spelling (flat_map print_further (f ∷ more)) parts.1 in
    let these = and_parts (is_further f) (list_all is_further more) all in
    let valid = and_parts (are_spaces f.before && are_spaces f.behind) (is_parameter f.parameter) these.0 in
    let spaces = and_parts (are_spaces f.before) (are_spaces f.behind) valid.0 in
    parameter_read items first.name first.spelling (flat_map print_further (f ∷ more)) parts.0
    ∙ r.reading
    ∙ ap (reads r.to items first.name (said_spelling first.spelling)) (append_assoc f.before (comma ∷ (f.behind ++ print_parameter f.parameter)) rest)
    ∙ gap_read r.to r.ends.behind items first.name (said_spelling first.spelling) f.before (f.behind ++ print_parameter f.parameter ++ rest) spaces.0
    ∙ ap (reads place.Before (items ++ said_parameter first ∷ []) [] []) (append_assoc f.behind (print_parameter f.parameter) rest)
    ∙ spaces_read (items ++ said_parameter first ∷ []) f.behind (print_items f.parameter more) spaces.1
    ∙ items_read (items ++ said_parameter first ∷ []) f.parameter more valid.1 these.1
    ∙ ap Some (append_assoc items (said_parameter first ∷ []) (said_parameter f.parameter ∷ map (λ g. said_parameter g.parameter) more))
