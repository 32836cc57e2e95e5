-- Whether a name stands twice, by a set of the names behind.
use Rattle.std.proofs.Common.{Bor, ◌≡◌, ℕ, Bool, true, false, not, ◌||◌, ◌&&◌, List, [], ◌∷◌, ◌++◌, Option, Some, None, refl, sym, ap, ◌∙◌, inl, inr, append_assoc, arith, Ordering}
use Rattle.std.specs.List.{list_any}
use Rattle.std.specs.Option.{is_some}
use Rattle.std.specs.Prelude.{is_none}
use Rattle.std.specs.Str.{bytes_eq}
use Rattle.std.specs.Ordering.{nat_cmp, is_eq, match_ordering}
use Rattle.std.specs.declared.cmp.Ordering.TheVariants.{Less, Equal, Greater}
use Rattle.std.specs.BTreeSet.{insert_key}
use Rattle.std.specs.Cmp.Lexicographic.{slice_cmp}
use Rattle.std.proofs.lemmas.Bool.{and_right, cases_Bool, false_from_ne_true, true≢false}
use Rattle.std.proofs.lemmas.Bool.Decides.{nat_tests}
use Rattle.std.proofs.lemmas.Cmp.{same_from_slice_cmp}
use Rattle.std.proofs.lemmas.Slice.Eq.{bytes_eq-Decides}
use Rattle.std.proofs.lemmas.Map.Lookups.{exact_bytes}
use Rattle.http_digest.specs.Parts.{value_of, names_are_once}
use Rattle.http_digest.specs.declared.item.Item.{Item}

abbrev pub names_cmp : Bor (List ℕ) → Bor (List ℕ) → Ordering
names_cmp a b = slice_cmp nat_cmp a.now b.now

or_swap : (a b c : Bool) → (a || (b || c)) ≡ (b || (a || c))
or_swap true true c = refl
or_swap true false c = refl
or_swap false b c = refl

or_same : (a b : Bool) → (a || b) ≡ (a || (a || b))
or_same true b = refl
or_same false b = refl

-- a name that is put into a set is found besides
pub name_added : (name : List ℕ) (names : List (Bor (List ℕ))) (new : Bor (List ℕ))
    → list_any (λ n. bytes_eq n.now name) (insert_key names_cmp names new) ≡ (bytes_eq new.now name || list_any (λ n. bytes_eq n.now name) names)
name_added name [] new = refl
name_added name (x ∷ names) new =
    let test : Bor (List ℕ) → Bool = λ n. bytes_eq n.now name in
    elim (names_cmp new x) as (λ o. names_cmp new x ≡ o → list_any test (match_ordering o (new ∷ x ∷ names) (x ∷ names) (x ∷ insert_key names_cmp names new)) ≡ (test new || (test x || list_any test names))) [
      | Less ↦ λ _. refl
      | Equal ↦ λ e.
          (let same : test x ≡ test new = ap (λ (n : List ℕ). bytes_eq n name) (sym (exact_bytes new.now x.now e)) in
          ap (λ b. b || list_any test names) same ∙ or_same (test new) (list_any test names) ∙ ap (λ b. test new || (b || list_any test names)) (sym same))
      | Greater ↦ λ _. ap (λ b. test x || b) (name_added name names new) ∙ or_swap (test x) (test new) (list_any test names)
    ] refl

-- a name that stands twice at the end stands twice
pub twice_behind : (before behind : List Item) → names_are_once behind ≡ false → names_are_once (before ++ behind) ≡ false
twice_behind [] behind h = h
twice_behind (item ∷ before) behind h = and_right (is_none (value_of item.name (before ++ behind))) (names_are_once (before ++ behind)) (twice_behind before behind h)

turned : (a b : List ℕ) → bytes_eq a b ≡ bytes_eq b a
turned a b =
    elim (cases_Bool (bytes_eq a b)) [
      | inl yes_ab ↦ yes_ab ∙ sym ((bytes_eq-Decides b a).1 (sym ((bytes_eq-Decides a b).0 yes_ab)))
      | inr no_ab ↦ no_ab ∙ sym (false_from_ne_true (bytes_eq b a) (λ h. true≢false (sym ((bytes_eq-Decides a b).1 (sym ((bytes_eq-Decides b a).0 h))) ∙ no_ab)))
    ]

same_text : (xs ys : List ℕ) → is_eq (slice_cmp nat_cmp xs ys) ≡ bytes_eq xs ys
same_text xs ys = same_from_slice_cmp nat_cmp is_eq bytes_eq refl (λ _ _. refl) (λ _ _. refl) (λ x y xs ys o h. grind (arith, nat_tests)) xs ys (slice_cmp nat_cmp xs ys) refl

-- a set has a name where one of its names is the same
pub found_there : (name : List ℕ) (names : List (Bor (List ℕ))) → list_any (λ n. is_eq (slice_cmp nat_cmp name n.now)) names ≡ list_any (λ n. bytes_eq n.now name) names
found_there name [] = refl
found_there name (n ∷ names) = (λ i. (same_text name n.now ∙ turned name n.now) i || found_there name names i)

known : {X : Type 0} (o : Option X) (has new : Bool) → new ≡ not has → new ≡ false → has ≡ is_some o → is_none o ≡ false
known None true new is no_new same = absurd (true≢false same)
known None false new is no_new same = absurd (true≢false (sym is ∙ no_new))
known (Some x) has new is no_new same = refl

-- a name that is found behind stands twice
pub twice_found : (items left rest behind : List Item) (item : Item) (has new : Bool) → items ≡ left ++ behind → left ≡ rest ++ item ∷ [] → new ≡ not has → new ≡ false → has ≡ is_some (value_of item.name behind)
    → false ≡ names_are_once items
twice_found items left rest behind item has new whole split is no_new same =
    let here : names_are_once (item ∷ behind) ≡ false = ap (λ b. b && names_are_once behind) (known (value_of item.name behind) has new is no_new same) in
    sym (ap names_are_once (whole ∙ ap (λ (xs : List Item). xs ++ behind) split ∙ append_assoc rest (item ∷ []) behind) ∙ twice_behind rest (item ∷ behind) here)
