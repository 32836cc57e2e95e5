-- The numbers of authors' entries in a map that changes.
use Rattle.std.proofs.Common.{◌≡◌, ℕ, Bool, true, false, cond, List, [], ◌∷◌, ◌++◌, Option, None, Some, refl, sym, ap, ◌∙◌, arith, Ordering, nat_cmp, Vec}
use Rattle.std.specs.Prelude.{if◌then◌else◌}
use Rattle.std.specs.declared.alloc.Global.{Global}
use Rattle.std.specs.declared.cmp.Ordering.TheVariants.{Less, Equal, Greater}
use Rattle.std.specs.Ordering.{match_ordering, is_eq}
use Rattle.std.specs.Str.{bytes_eq}
use Rattle.std.specs.Cmp.Lexicographic.{slice_cmp}
use Rattle.std.specs.Map.{lookup, set_value}
use Rattle.std.specs.BTreeMap.{get_by, insert_entry, is_at}
use Rattle.std.proofs.lemmas.Cmp.{same_from_slice_cmp}
use Rattle.std.proofs.lemmas.Bool.Decides.{nat_tests}
use Rattle.std.proofs.lemmas.Map.Lookups.{exact_bytes}
use Rattle.std.proofs.lemmas.Slice.Eq.{bytes_eq-Decides}
use Rattle.epochs.specs.Kinds.{Text}
use Rattle.archive_state.specs.Authors.{Map, beside_key, items_in, numbers_in}

abbrev Key : Type 0
Key = Vec ℕ Global

abbrev key_cmp : Key → Key → Ordering
key_cmp a b = slice_cmp nat_cmp a.items b.items

-- what a list of entries has for an author
abbrev found : List (Key × Key) → Text → Option Key
found es author = lookup (is_at (beside_key author)) es

same_bytes : (xs ys : List ℕ) → is_eq (slice_cmp nat_cmp xs ys) ≡ bytes_eq xs ys
same_bytes xs ys = same_from_slice_cmp nat_cmp is_eq bytes_eq refl (λ _ _. refl) (λ _ _. refl) (λ x y us vs o h. grind (arith, nat_tests)) xs ys (slice_cmp nat_cmp xs ys) refl

at_key : (a : Text) (k x : Key) → key_cmp k x ≡ Equal → is_at (beside_key a) x ≡ is_at (beside_key a) k
at_key a k x e = ap (λ (bytes : List ℕ). is_eq (slice_cmp nat_cmp a bytes)) (sym (exact_bytes k.items x.items e))

-- a key without numbers, which is new, adds none
none_step : (e : Key × Key) (es : List (Key × Key)) (k v : Key) (a : Text) → v.items ≡ [] → (found es k.items ≡ None → items_in (found (insert_entry key_cmp es k v) a) ≡ items_in (found es a))
    → (o : Ordering) → key_cmp k e.0 ≡ o → found (e ∷ es) k.items ≡ None
    → items_in (found (match_ordering o ((k, v) ∷ e ∷ es) ((e.0, v) ∷ es) (e ∷ insert_entry key_cmp es k v)) a) ≡ items_in (found (e ∷ es) a)
none_step e es k v a empty more Less is new =
    elim (is_at (beside_key a) k) as (λ b. is_at (beside_key a) k ≡ b → items_in (cond b (Some v) (found (e ∷ es) a)) ≡ items_in (found (e ∷ es) a)) [
      | true ↦ λ own. empty ∙ sym (ap items_in (ap (found (e ∷ es)) ((bytes_eq-Decides a k.items).0 (sym (same_bytes a k.items) ∙ own)) ∙ new))
      | false ↦ λ own. refl
    ] refl
none_step e es k v a empty more Equal is new =
    let here : found (e ∷ es) k.items ≡ Some e.1 = ap (λ (o : Ordering). cond (is_eq o) (Some e.1) (found es k.items)) is in
    absurd (let f : None ≡ Some e.1 = sym new ∙ here in cc)
none_step e es k v a empty more Greater is new =
    let rest : found es k.items ≡ None = sym (ap (λ (o : Ordering). cond (is_eq o) (Some e.1) (found es k.items)) is) ∙ new in
    elim (is_at (beside_key a) e.0) as (λ b. items_in (cond b (Some e.1) (found (insert_entry key_cmp es k v) a)) ≡ items_in (cond b (Some e.1) (found es a))) [
      | true ↦ refl
      | false ↦ more rest
    ]

pub none_added : (es : List (Key × Key)) (k v : Key) (a : Text) → v.items ≡ [] → found es k.items ≡ None → items_in (found (insert_entry key_cmp es k v) a) ≡ items_in (found es a)
none_added [] k v a empty new =
    elim (is_at (beside_key a) k) as (λ b. items_in (cond b (Some v) None) ≡ []) [
      | true ↦ empty
      | false ↦ refl
    ]
none_added (e ∷ es) k v a empty new = none_step e es k v a empty (none_added es k v a empty) (key_cmp k e.0) refl new

-- a new key is found
own_key : (k : Key) → is_at (beside_key k.items) k ≡ true
own_key k = same_bytes k.items k.items ∙ (bytes_eq-Decides k.items k.items).1 refl

found_step : (e : Key × Key) (es : List (Key × Key)) (k v : Key) → (found es k.items ≡ None → found (insert_entry key_cmp es k v) k.items ≡ Some v)
    → (o : Ordering) → key_cmp k e.0 ≡ o → found (e ∷ es) k.items ≡ None
    → found (match_ordering o ((k, v) ∷ e ∷ es) ((e.0, v) ∷ es) (e ∷ insert_entry key_cmp es k v)) k.items ≡ Some v
found_step e es k v more Less is new = ap (λ (b : Bool). cond b (Some v) (found (e ∷ es) k.items)) (own_key k)
found_step e es k v more Equal is new = ap (λ (o : Ordering). cond (is_eq o) (Some v) (found es k.items)) is
found_step e es k v more Greater is new =
    let rest : found es k.items ≡ None = sym (ap (λ (o : Ordering). cond (is_eq o) (Some e.1) (found es k.items)) is) ∙ new in
    ap (λ (o : Ordering). cond (is_eq o) (Some e.1) (found (insert_entry key_cmp es k v) k.items)) is ∙ more rest

pub key_found : (es : List (Key × Key)) (k v : Key) → found es k.items ≡ None → found (insert_entry key_cmp es k v) k.items ≡ Some v
key_found [] k v new = ap (λ (b : Bool). cond b (Some v) None) (own_key k)
key_found (e ∷ es) k v new = found_step e es k v (key_found es k v) (key_cmp k e.0) refl new

-- an author's value is written anew
eq_sym : (xs ys : List ℕ) → bytes_eq xs ys ≡ bytes_eq ys xs
eq_sym xs ys = by (bytes_eq xs ys) (bytes_eq ys xs) refl refl
  where
    by : (a b : Bool) → bytes_eq xs ys ≡ a → bytes_eq ys xs ≡ b → a ≡ b
    by true true h k = refl
    by false false h k = refl
    by true false h k = sym ((bytes_eq-Decides ys xs).1 (sym ((bytes_eq-Decides xs ys).0 h))) ∙ k
    by false true h k = sym h ∙ (bytes_eq-Decides xs ys).1 (sym ((bytes_eq-Decides ys xs).0 k))

-- at the entry of the author
here : (e : Key × Key) (es : List (Key × Key)) (author a : Text) (new : Key) → is_at (beside_key author) e.0 ≡ true
    → found ((e.0, new) ∷ es) a ≡ (if bytes_eq author a then Some new else cond (is_at (beside_key a) e.0) (Some e.1) (found es a))
here e es author a new own = ap (λ (b : Bool). cond b (Some new) (found es a)) test ∙ joined (bytes_eq author a) test
  where
    test : is_at (beside_key a) e.0 ≡ bytes_eq author a
    test = same_bytes a e.0.items ∙ ap (bytes_eq a) (sym ((bytes_eq-Decides author e.0.items).0 (sym (same_bytes author e.0.items) ∙ own))) ∙ eq_sym a author

    joined : (b : Bool) → is_at (beside_key a) e.0 ≡ b → cond b (Some new) (found es a) ≡ (if b then Some new else cond (is_at (beside_key a) e.0) (Some e.1) (found es a))
    joined true is = refl
    joined false is = sym (ap (λ (b : Bool). cond b (Some e.1) (found es a)) is)

-- before it
behind : (e : Key × Key) (es : List (Key × Key)) (author a : Text) (new : Key) → is_at (beside_key author) e.0 ≡ false
    → found (set_value (is_at (beside_key author)) es new) a ≡ (if bytes_eq author a then Some new else found es a)
    → found (e ∷ set_value (is_at (beside_key author)) es new) a ≡ (if bytes_eq author a then Some new else cond (is_at (beside_key a) e.0) (Some e.1) (found es a))
behind e es author a new own more =
    ap (λ (o : Option Key). cond (is_at (beside_key a) e.0) (Some e.1) o) more ∙ apart (bytes_eq author a) refl
  where
    apart : (b : Bool) → bytes_eq author a ≡ b → cond (is_at (beside_key a) e.0) (Some e.1) (if b then Some new else found es a) ≡ (if b then Some new else cond (is_at (beside_key a) e.0) (Some e.1) (found es a))
    apart true is =
        let other : is_at (beside_key a) e.0 ≡ false = ap (λ (t : Text). is_at (beside_key t) e.0) (sym ((bytes_eq-Decides author a).0 is)) ∙ own in
        ap (λ (b : Bool). cond b (Some e.1) (Some new)) other
    apart false is = refl

pub written : (es : List (Key × Key)) (author a : Text) (old new : Key) → found es author ≡ Some old
    → found (set_value (is_at (beside_key author)) es new) a ≡ (if bytes_eq author a then Some new else found es a)
written [] author a old new at = absurd (let f : None ≡ Some old = at in cc)
written (e ∷ es) author a old new at = by (is_at (beside_key author) e.0) refl at (written es author a old new)
  where
    by : (b : Bool) → is_at (beside_key author) e.0 ≡ b → cond b (Some e.1) (found es author) ≡ Some old
        → (found es author ≡ Some old → found (set_value (is_at (beside_key author)) es new) a ≡ (if bytes_eq author a then Some new else found es a))
        → found (cond b ((e.0, new) ∷ es) (e ∷ set_value (is_at (beside_key author)) es new)) a ≡ (if bytes_eq author a then Some new else cond (is_at (beside_key a) e.0) (Some e.1) (found es a))
    by true own at more = here e es author a new own
    by false own at more = behind e es author a new own (more at)

-- ---- maps

-- an author without numbers is added
pub begun : (m n : Map) (name numbers : Key) (author : Text) → name.items ≡ author → numbers.items ≡ [] → get_by (beside_key author) m ≡ None → n.entries ≡ insert_entry key_cmp m.entries name numbers
    → (a : Text) → numbers_in n a ≡ numbers_in m a
begun m n name numbers author same empty new grown a =
    ap (λ (es : List (Key × Key)). items_in (found es a)) grown ∙ none_added m.entries name numbers a empty (ap (found m.entries) same ∙ new)

module _ (m n : Map) (author : Text) (old new : Key) (at : get_by (beside_key author) m ≡ Some old) (grown : n.entries ≡ set_value (is_at (beside_key author)) m.entries new) where
  rewritten : (a : Text) → numbers_in n a ≡ items_in (if bytes_eq author a then Some new else get_by (beside_key a) m)
  rewritten a = ap (λ (es : List (Key × Key)). items_in (found es a)) grown ∙ ap items_in (written m.entries author a old new at)

  at_author : (a : Text) → bytes_eq author a ≡ true → numbers_in m a ≡ old.items
  at_author a own = ap (numbers_in m) (sym ((bytes_eq-Decides author a).0 own)) ∙ ap items_in at

  -- with the same numbers
  pub same_numbers : new.items ≡ old.items → (a : Text) → numbers_in n a ≡ numbers_in m a
  same_numbers same a =
      rewritten a ∙ elim (bytes_eq author a) as (λ b. bytes_eq author a ≡ b → items_in (if b then Some new else get_by (beside_key a) m) ≡ numbers_in m a) [
        | true ↦ λ own. same ∙ sym (at_author a own)
        | false ↦ λ own. refl
      ] refl

  -- with one number more
  pub one_number_more : (number : ℕ) → new.items ≡ old.items ++ number ∷ [] → (a : Text) → numbers_in n a ≡ (if bytes_eq author a then numbers_in m a ++ number ∷ [] else numbers_in m a)
  one_number_more number more a =
      rewritten a ∙ elim (bytes_eq author a) as (λ b. bytes_eq author a ≡ b → items_in (if b then Some new else get_by (beside_key a) m) ≡ (if b then numbers_in m a ++ number ∷ [] else numbers_in m a)) [
        | true ↦ λ own. more ∙ ap (λ (ns : List ℕ). ns ++ number ∷ []) (sym (at_author a own))
        | false ↦ λ own. refl
      ] refl
