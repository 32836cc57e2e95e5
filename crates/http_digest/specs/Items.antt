-- How credentials are cut into items, byte by byte, and how a header is read by that.
use Rattle.std.specs.Prelude.{ℕ, ◌==◌, ◌&&◌, ◌≡◌, Bool, if◌then◌else◌, nat_le, List, [], ◌∷◌, ◌++◌, length, take, drop, Option, Some, None, option_and_then, codes}
use Rattle.std.specs.List.{list_any}
use Rattle.std.specs.Borrow.{Bor}
use Rattle.std.specs.BTreeSet.{BTreeSet}
use Rattle.std.specs.Str.{bytes_eq, str_eq_ignore_ascii_case}
use Rattle.http_digest.specs.Credentials.{space, quotation_mark, comma, equals_sign, backslash, is_token_byte}
use Rattle.http_digest.specs.Parts.{authorization_said}
use Rattle.http_digest.specs.declared.authorization.AuthFault.{AuthFault}
use Rattle.http_digest.specs.declared.authorization.AuthFault.TheVariants.{Unreadable, OutOfMemory}
use Rattle.http_digest.specs.declared.authorization.Authorization.{Authorization}
use Rattle.http_digest.specs.declared.item.Item.{Item}
use Rattle.http_digest.specs.declared.scan.Place.{Place}
use Rattle.http_digest.specs.declared.scan.Place.TheVariants as place
use Rattle.http_digest.specs.declared.scan.Scan.{Scan}

-- a step gave none, or memory ran out
abbrev pub Refuses : {A : Type 0} → Option A → AuthFault → Type 0
Refuses answer Unreadable = answer ≡ None
Refuses answer OutOfMemory = Unit {0}

-- the byte is one of the name; of the value, and then one stands there
abbrev pub in_name : Scan → ℕ → Scan
in_name s b = record { items = s.items; name = s.name ++ b ∷ []; value = s.value; place = place.Name }

abbrev pub in_value : Place → Scan → ℕ → Scan
in_value where_to s b = record { items = s.items; name = s.name; value = s.value ++ b ∷ []; place = where_to }

-- the item is complete
abbrev pub with_item : Scan → Scan
with_item s = record { items = s.items ++ (record { name = s.name; value = s.value }) ∷ []; name = []; value = []; place = place.Before }

abbrev pub moved : Place → Scan → Scan
moved where_to s = record { items = s.items; name = s.name; value = s.value; place = where_to }

-- a byte at each place
abbrev pub before_step : Scan → ℕ → Option Scan
before_step s b = if b == space then Some s else (if is_token_byte b then Some (in_name s b) else None)

abbrev pub name_step : Scan → ℕ → Option Scan
name_step s b = if b == equals_sign then Some (moved place.Value s) else (if is_token_byte b then Some (in_name s b) else None)

abbrev pub value_step : Scan → ℕ → Option Scan
value_step s b = if b == quotation_mark then Some (moved place.Quoted s) else (if is_token_byte b then Some (in_value place.Token s b) else None)

abbrev pub behind_step : Scan → ℕ → Option Scan
behind_step s b = if b == space then Some (moved place.Gap s) else (if b == comma then Some (with_item s) else None)

abbrev pub token_step : Scan → ℕ → Option Scan
token_step s b = if is_token_byte b then Some (in_value place.Token s b) else behind_step s b

abbrev pub quoted_step : Scan → ℕ → Option Scan
quoted_step s b =
    if b == quotation_mark then Some (moved place.Closed s)
    else (if b == backslash then Some (moved place.Escaped s) else Some (in_value place.Quoted s b))

abbrev pub step_at : Place → Scan → ℕ → Option Scan
step_at place.Before s b = before_step s b
step_at place.Name s b = name_step s b
step_at place.Value s b = value_step s b
step_at place.Token s b = token_step s b
step_at place.Quoted s b = quoted_step s b
step_at place.Escaped s b = Some (in_value place.Quoted s b)
step_at place.Closed s b = behind_step s b
step_at place.Gap s b = behind_step s b

-- the items where the text ends there
abbrev pub items_at : Place → Scan → Option (List Item)
items_at place.Token s = Some (with_item s).items
items_at place.Closed s = Some (with_item s).items
items_at _ s = None

-- the items where this text follows
abbrev pub items_from : Scan → List ℕ → Option (List Item)
items_from s [] = items_at s.place s
items_from s (b ∷ text) = option_and_then (λ t. items_from t text) (step_at s.place s b)

abbrev pub nothing_read : Scan
nothing_read = record { items = []; name = []; value = []; place = place.Before }

-- what is behind a space
abbrev pub behind_space : List ℕ → Option (List ℕ)
behind_space [] = None
behind_space (b ∷ text) = if b == space then Some text else None

-- the text begins with the name of the scheme
abbrev pub names_scheme : List ℕ → Bool
names_scheme header = nat_le 6 (length header) && str_eq_ignore_ascii_case (take 6 header) (codes "Digest")

-- what is behind the name of the scheme and a space
abbrev pub behind_scheme : List ℕ → Option (List ℕ)
behind_scheme header = if names_scheme header then behind_space (drop 6 header) else None

-- the items of a header, and what they say
abbrev pub items_in : List ℕ → Option (List Item)
items_in header = option_and_then (items_from nothing_read) (behind_scheme header)

abbrev pub authorization_in : List ℕ → Option Authorization
authorization_in header = option_and_then authorization_said (items_in header)

-- a name is among those of a set
abbrev pub has_name : BTreeSet (Bor (List ℕ)) → List ℕ → Bool
has_name names name = list_any (λ n. bytes_eq n.now name) names.keys
