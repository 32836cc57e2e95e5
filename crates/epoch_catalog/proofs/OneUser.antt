-- Of a name there is one user: where some line is a user of that name, it is the first that is found.
use Rattle.std.proofs.Common.{◌≡◌, ℕ, zero, suc, ◌<◌, ◌≤◌, Bool, true, false, ◌&&◌, ◌||◌, List, [], ◌∷◌, length, get_or, pos, Option, Some, None, Bor, MatchOption, refl, sym, ap, ◌∙◌, arith, inl, inr}
use Rattle.std.specs.Prelude.{find, nat_le, option_map, Contains}
use Rattle.std.specs.List.{list_any, list_all}
use Rattle.std.specs.Str.{bytes_eq}
use Rattle.std.proofs.lemmas.Bool.{cases_Bool, and_parts, cond-true, cond-false}
use Rattle.std.proofs.lemmas.Bool.Decides.{nat_tests}
use Rattle.std.proofs.lemmas.Slice.Eq.{bytes_eq-Decides}
use Rattle.epochs.specs.declared.kinds.Head.{Head}
use Rattle.epochs.specs.declared.kinds.Head.TheVariants.{Says, Deletes}
use Rattle.epochs.specs.declared.kinds.LineKind.TheVariants.{Net, Sta, Cha, Evt, Rst, Grt, Usr, Wdr}
use Rattle.epochs.specs.declared.line.User.{User}
use Rattle.epochs.specs.declared.parts.Roles.{Roles}
use Rattle.epochs.specs.Fields.{Value, code, words, time, end, number, optional, patterns, roles, entry_number, is_name_byte, is_user_name}
use Rattle.epochs.specs.Keys.{key_values, in_key}
use Rattle.epochs.specs.Kinds.{Text, plain, Ha1, RoleNames}
use Rattle.epochs.specs.Lines.{LineValues, line_values}
use Rattle.epochs.specs.Spellable.{IsSpellable}
use Rattle.epochs.specs.Values.{user_line}
use Rattle.epoch_rules.specs.Catalog.{IsCatalog, is_user}
use Rattle.epoch_rules.specs.KeyOrder.{KeyParts, key_parts, key_parts_of}
use Rattle.epoch_rules.proofs.Ended.{one_line}
use Rattle.epoch_rules.proofs.FamilyKeys.{has_one_key}
use Rattle.epoch_rules.proofs.Members.{Has}

-- nothing is found where nothing passes
find_none : {X : Type 0} (test : X → Bool) (xs : List X) → list_any test xs ≡ false → find test xs ≡ None
find_none test [] h = refl
find_none test (x ∷ xs) h =
    elim (cases_Bool (test x)) [
      | inl passes ↦ let bad : true ≡ false = sym (ap (λ b. b || list_any test xs) passes) ∙ h in absurd cc
      | inr fails ↦ cond-false _ _ _ fails ∙ find_none test xs (sym (ap (λ b. b || list_any test xs) fails) ∙ h)
    ]

-- something is where something passes, and it passes
record Found {X : Type 0} (test : X → Bool) (xs : List X) : Type 0 where
  it : X
  is : find test xs ≡ Some it
  has : Has xs it
  passes : test it ≡ true

find_some : {X : Type 0} (test : X → Bool) (xs : List X) (x : X) → Has xs x → test x ≡ true → Found test xs
find_some test [] x h t = absurd h
find_some test (y ∷ ys) x h t =
    elim (cases_Bool (test y)) [
      | inl passes ↦ record { it = y; is = cond-true _ _ _ passes; has = inl refl; passes = passes }
      | inr fails ↦ elim h [
        | inl same ↦ let bad : true ≡ false = sym t ∙ ap test (sym same) ∙ fails in absurd cc
        | inr more ↦ let rest = find_some test ys x more t in record { it = rest.it; is = cond-false _ _ _ fails ∙ rest.is; has = inr rest.has; passes = rest.passes }
      ]
    ]

has_from : {X : Type 0} (xs : List X) (x : X) (i : ℕ) → i < length xs → get_or xs i x ≡ x → Has xs x
has_from [] x i lt e = absurd (omega arith)
has_from (y ∷ ys) x zero lt e = inl e
has_from (y ∷ ys) x (suc i) lt e = inr (has_from ys x i (omega arith) e)

-- the key of a user
user_parts : Text → KeyParts
user_parts name = record { rank = 6; first = name; second = []; third = []; fourth = []; fifth = []; start = pos 0 }

not_empty : (name : Text) → 1 ≤ length name → [] ≡ name → ⊥
not_empty name long e = let size : 0 ≡ length name = ap (λ (t : Text). length t) e in omega (arith, size, long)

key_by : (name : Text) → 1 ≤ length name → (v : Value) → (key_parts (key_values Usr (v ∷ []))).first ≡ name → key_parts (key_values Usr (v ∷ [])) ≡ user_parts name
unfolding user_parts
key_by name long (code c) e = ap user_parts e
key_by name long (words t) e = ap user_parts e
key_by name long (patterns t list) e = ap user_parts e
key_by name long (time t) e = absurd (not_empty name long e)
key_by name long (end t) e = absurd (not_empty name long e)
key_by name long (number n) e = absurd (not_empty name long e)
key_by name long (optional n) e = absurd (not_empty name long e)
key_by name long (roles r) e = absurd (not_empty name long e)
key_by name long (entry_number n) e = absurd (not_empty name long e)

no_more : (vs : List Value) → in_key (plain Ha1 ∷ plain RoleNames ∷ []) vs ≡ []
no_more [] = refl
no_more (v ∷ []) = refl
no_more (v ∷ w ∷ vs) = refl

user_key : (name : Text) → 1 ≤ length name → (head : Head) (values : List Value) → is_user name (line_values head values) ≡ true → key_parts_of (line_values head values) ≡ user_parts name
user_key name long (Says Usr) [] h =
    let e = (bytes_eq-Decides [] name).0 (and_parts true (bytes_eq [] name) h).1 in absurd (not_empty name long e)
user_key name long (Says Usr) (v ∷ vs) h =
    let cut : key_parts_of (line_values (Says Usr) (v ∷ vs)) ≡ key_parts (key_values Usr (v ∷ [])) = ap (λ (rest : List Value). key_parts (key_values Usr (v ∷ rest))) (no_more vs) in
    let first = (key_parts_of (line_values (Says Usr) (v ∷ vs))).first in
    let e = (bytes_eq-Decides first name).0 (and_parts true (bytes_eq first name) h).1 in
    cut ∙ key_by name long v (sym (ap (λ (p : KeyParts). p.first) cut) ∙ e)
user_key name long (Says Net) values h = absurd (let bad : false ≡ true = h in cc)
user_key name long (Says Sta) values h = absurd (let bad : false ≡ true = h in cc)
user_key name long (Says Cha) values h = absurd (let bad : false ≡ true = h in cc)
user_key name long (Says Evt) values h = absurd (let bad : false ≡ true = h in cc)
user_key name long (Says Rst) values h = absurd (let bad : false ≡ true = h in cc)
user_key name long (Says Grt) values h = absurd (let bad : false ≡ true = h in cc)
user_key name long (Says Wdr) values h = absurd (let bad : false ≡ true = h in cc)
user_key name long (Deletes kind) values h = absurd (let bad : false ≡ true = h in cc)

at_least_one : (n : ℕ) → nat_le 1 n ≡ true → 1 ≤ n
at_least_one n h = grind (arith, nat_tests)

-- a name has bytes
not_short : (name : Text) → is_user_name name ≡ true → 1 ≤ length name
not_short name h =
    let parts = and_parts (nat_le 1 (length name) && nat_le (length name) 32) (list_all is_name_byte name) h in
    at_least_one (length name) (and_parts (nat_le 1 (length name)) (nat_le (length name) 32) parts.0).0

-- a user that can be spelled has a name
has_name : (name ha1 : Text) (r : Roles) → IsSpellable (user_line name ha1 r) → is_user_name name ≡ true
unfolding IsSpellable
has_name name ha1 r h = h.values_are.0

-- users of one name are one
same_user : (live : List LineValues) (name : Text) → IsCatalog live → 1 ≤ length name → (e d : LineValues) → Has live e → Has live d → is_user name e ≡ true → is_user name d ≡ true → e ≡ d
same_user live name kept long e d has also is too =
    let key : key_parts_of e ≡ key_parts_of d = user_key name long e.head e.values is ∙ sym (user_key name long d.head d.values too) in
    one_line live e d kept.rises has also (has_one_key e d key)

pub one_user : (live : List LineValues) (name : Text) → IsCatalog live → is_user_name name ≡ true → (e d : LineValues) → Contains live e → Contains live d → is_user name e ≡ true → is_user name d ≡ true → e ≡ d
one_user live name kept named e d there also is too =
    same_user live name kept (not_short name named) e d (has_from live e there.0 there.1 there.2) (has_from live d also.0 also.1 also.2) is too

-- the user that some line is is found first
user_found : (live : List LineValues) (name ha1 : Text) (r : Roles) → IsCatalog live → IsSpellable (user_line name ha1 r) → Contains live (user_line name ha1 r)
    → find (is_user name) live ≡ Some (user_line name ha1 r)
user_found live name ha1 r kept spells there =
    let line = user_line name ha1 r in
    let is : is_user name line ≡ true = (bytes_eq-Decides name name).1 refl in
    let member = has_from live line there.0 there.1 there.2 in
    let found = find_some (is_user name) live line member is in
    found.is ∙ ap Some (same_user live name kept (not_short name (has_name name ha1 r spells)) found.it line found.has member found.passes is)

-- what a search says of the user of a name
pub user_is : (name : Text) (live : List LineValues) (r : Option (Bor User)) → IsCatalog live
    → MatchOption r (list_any (is_user name) live ≡ false) (λ user. (user.now.name ≡ name) × Contains live (user_line user.now.name user.now.ha1 user.now.roles))
    → option_map (λ user. user_line user.now.name user.now.ha1 user.now.roles) r ≡ find (is_user name) live
user_is name live None kept none = sym (find_none (is_user name) live none)
user_is name live (Some user) kept there =
    let u = user.now in
    sym (user_found live u.name u.ha1 u.roles kept u.spellable there.1) ∙ ap (λ (n : Text). find (is_user n) live) there.0
