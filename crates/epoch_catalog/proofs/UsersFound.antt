-- The user of a name among the lines of a catalog: where a search by halves finds it, and that else there is
-- none.
use Rattle.std.proofs.Common.{◌≡◌, ℕ, zero, suc, ◌<◌, true, false, ◌&&◌, List, [], ◌∷◌, map, length, get_or, pos, Option, Some, None, Bor, MatchOption, refl, sym, ap, subst, ◌∙◌, arith, inl, inr, Ordering}
use Rattle.std.specs.Prelude.{Contains}
use Rattle.std.specs.List.{list_any, AllByRecursion}
use Rattle.std.specs.List.Sorted.{IsNonDecreasingBy, IsPartitionPoint, IsSortedBy, IsStrictlySortedBy}
use Rattle.std.specs.Ordering.{is_eq, is_gt, is_lt, nat_cmp, ordering_index, ordering_reverse}
use Rattle.std.specs.declared.cmp.Ordering.TheVariants.{Less, Equal, Greater}
use Rattle.std.specs.Str.{bytes_eq}
use Rattle.std.proofs.lemmas.Bool.{cases_lt}
use Rattle.std.proofs.lemmas.List.Sorted.{searchable_from_sorted}
use Rattle.std.proofs.lemmas.Map.Lookups.{exact_bytes}
use Rattle.epochs.specs.declared.kinds.Head.{Head}
use Rattle.epochs.specs.declared.kinds.LineKind.TheVariants.{Usr}
use Rattle.epochs.specs.declared.line.Line.{Line}
use Rattle.epochs.specs.declared.line.User.{User}
use Rattle.epochs.specs.Fields.{Value}
use Rattle.epochs.specs.Kinds.{Text}
use Rattle.epochs.specs.Lines.{LineValues, line_values}
use Rattle.epochs.specs.Values.{user_line}
use Rattle.epochs.specs.Views.{values_of_line}
use Rattle.epoch_catalog.specs.declared.families.Family.TheVariants as family
use Rattle.epoch_rules.specs.Catalog.{IsCatalog, is_user, user_place}
use Rattle.epoch_rules.specs.KeyOrder.{KeyParts, line_cmp, key_parts_of, rank_of, text_cmp}
use Rattle.epoch_rules.specs.LiveLines.{is_statement, is_said}
use Rattle.epoch_rules.specs.Rules.{is_line_of}
use Rattle.epoch_catalog.proofs.FamilyPlaces.{both_eq, front_cmp, front_rises, front_total, same_rank, same_text}
use Rattle.epoch_catalog.proofs.Heads.{any_mapped, none_at, one_more}
use Rattle.epoch_rules.proofs.KeptCatalog.{kind_by_rank}

below : (o : Ordering) → is_gt o ≡ false → is_lt (ordering_reverse o) ≡ false
below Less h = refl
below Equal h = refl
below Greater h = (cc)

-- lines in order are in order of kind and first text
sorted_front : (name : Text) (lines : List Line) → IsStrictlySortedBy line_cmp (map values_of_line lines)
    → IsSortedBy (λ a b. is_lt (front_cmp (family.StationsOf name) (key_parts_of (values_of_line a)) (key_parts_of (values_of_line b)))) lines
unfolding IsStrictlySortedBy
sorted_front name [] up k d low high = absurd (omega arith)
sorted_front name (x ∷ []) up k d low high = absurd (omega arith)
sorted_front name (x ∷ y ∷ lines) up zero d low high =
    let f = family.StationsOf name in
    let p = key_parts_of (values_of_line x) in
    let q = key_parts_of (values_of_line y) in
    ap is_lt ((front_total f).antisymm q p) ∙ below (front_cmp f p q) (front_rises f p q up.0.0)
sorted_front name (x ∷ y ∷ lines) up (suc k) d low high =
    let f = family.StationsOf name in
    subst (λ n. is_lt (front_cmp f (key_parts_of (values_of_line (get_or (x ∷ y ∷ lines) n d))) (key_parts_of (values_of_line (get_or (y ∷ lines) k d)))) ≡ false) (sym (one_more k))
    (sorted_front name (y ∷ lines) up.1 k d (omega arith) (omega arith))

-- a key of the user's kind and name
user_key : Text → KeyParts
user_key name = record { rank = 6; first = name; second = []; third = []; fourth = []; fifth = []; start = pos 0 }

-- the places of lines in order to a user rise
pub places_rise : (name : Text) (lines : List Line) → IsStrictlySortedBy line_cmp (map values_of_line lines) → IsNonDecreasingBy (λ y. ordering_index (user_place name (key_parts_of (values_of_line y)))) lines
unfolding user_key
places_rise name lines up = searchable_from_sorted (front_total (family.StationsOf name)) (λ (y : Line). key_parts_of (values_of_line y)) lines (user_key name) (sorted_front name lines up)

user_says : (name : Text) (head : Head) (values : List Value) → is_statement head ≡ true → is_user name (line_values head values) ≡ is_eq (user_place name (key_parts_of (line_values head values)))
user_says name head values h =
    let p = key_parts_of (line_values head values) in
    ap (λ b. b && bytes_eq p.first name) (kind_by_rank Usr head values h)
    ∙ sym (both_eq (nat_cmp p.rank (rank_of Usr)) (text_cmp p.first name) ∙ (λ i. same_rank p.rank (rank_of Usr) i && same_text p.first name i))

pub user_by_place : (name : Text) (e : LineValues) → is_said e ≡ true → is_user name e ≡ is_eq (user_place name (key_parts_of e))
user_by_place name e h = user_says name e.head e.values h

all_at : {X : Type 0} (P : LineValues → Type 0) (f : X → LineValues) (xs : List X) → AllByRecursion P (map f xs) → (k : ℕ) (d : X) → k < length xs → P (f (get_or xs k d))
all_at P f [] all k d lt = absurd (omega arith)
all_at P f (x ∷ xs) all zero d lt = all.0
all_at P f (x ∷ xs) all (suc k) d lt = all_at P f xs all.1 k d (omega arith)

-- lines before and behind the user's place are other lines
pub no_user : (name : Text) (lines : List Line) (i : ℕ) → IsCatalog (map values_of_line lines)
    → IsPartitionPoint (λ y. user_place name (key_parts_of (values_of_line y)) ≡ Less) (λ y. user_place name (key_parts_of (values_of_line y)) ≡ Greater) lines i → list_any (is_user name) (map values_of_line lines) ≡ false
no_user name lines i h parts =
    let miss : (k : ℕ) (d : Line) → k < length lines → is_user name (values_of_line (get_or lines k d)) ≡ false = λ k d lt.
    user_by_place name (values_of_line (get_or lines k d)) (all_at (λ e. is_said e ≡ true) values_of_line lines h.states k d lt)
    ∙ elim (cases_lt k i) as (λ _. is_eq (user_place name (key_parts_of (values_of_line (get_or lines k d)))) ≡ false) [
      | inl low ↦ ap is_eq (parts.0 k d (omega arith) low)
      | inr high ↦ ap is_eq (parts.1 k d high lt)
    ] in
    any_mapped values_of_line (is_user name) lines ∙ none_at (λ (l : Line). is_user name (values_of_line l)) lines miss

contained : (lines : List Line) (i : ℕ) (d : Line) (e : LineValues) → i < length lines → values_of_line (get_or lines i d) ≡ e → Contains (map values_of_line lines) e
contained [] i d e lt is = absurd (omega arith)
contained (x ∷ lines) zero d e lt is = (zero, omega arith, is)
contained (x ∷ lines) (suc i) d e lt is =
    let rest = contained lines i d e (omega arith) is in
    (suc rest.0, (let low = rest.1 in omega arith), rest.2)

-- the line at the user's place is the user's
pub user_there : (name : Text) (lines : List Line) (i : ℕ) (line : Line) (r : Option (Bor User)) → IsCatalog (map values_of_line lines) → i < length lines → line ≡ get_or lines i line
    → ((d : Line) → user_place name (key_parts_of (values_of_line (get_or lines i d))) ≡ Equal)
    → MatchOption r (is_line_of Usr (values_of_line line) ≡ false) (λ user. values_of_line line ≡ user_line user.now.name user.now.ha1 user.now.roles)
    → MatchOption r (list_any (is_user name) (map values_of_line lines) ≡ false) (λ user. (user.now.name ≡ name) × Contains (map values_of_line lines) (user_line user.now.name user.now.ha1 user.now.roles))
user_there name lines i line None h lt is place other =
    let here : user_place name (key_parts_of (values_of_line line)) ≡ Equal = ap (λ l. user_place name (key_parts_of (values_of_line l))) is ∙ place line in
    let stated : is_said (values_of_line line) ≡ true = ap (λ l. is_said (values_of_line l)) is ∙ all_at (λ e. is_said e ≡ true) values_of_line lines h.states i line lt in
    let user : is_user name (values_of_line line) ≡ true = user_by_place name (values_of_line line) stated ∙ ap is_eq here in
    let not_user : is_user name (values_of_line line) ≡ false = ap (λ b. b && bytes_eq (key_parts_of (values_of_line line)).first name) other in
    let both : true ≡ false = sym user ∙ not_user in
    (cc)
user_there name lines i line (Some user) h lt is place states =
    let here : user_place name (key_parts_of (values_of_line line)) ≡ Equal = ap (λ l. user_place name (key_parts_of (values_of_line l))) is ∙ place line in
    let e = user_line user.now.name user.now.ha1 user.now.roles in
    let of_user : user_place name (key_parts_of e) ≡ Equal = ap (λ l. user_place name (key_parts_of l)) (sym states) ∙ here in
    (exact_bytes user.now.name name of_user, contained lines i line e lt (ap values_of_line (sym is) ∙ states))
