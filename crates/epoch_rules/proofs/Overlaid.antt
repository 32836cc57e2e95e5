-- Lines laid over others: which lines they are together, and with a line more or less.
use Rattle.std.proofs.Common.{◌≡◌, ◌∙◌, Bool, true, false, not, cond, ◌||◌, ◌&&◌, ◌⊎◌, inl, inr, List, [], ◌∷◌, filter, Option, Some, None, refl, sym, ap, subst}
use Rattle.std.specs.Option.{option_or}
use Rattle.std.specs.List.{list_any, AllByRecursion}
use Rattle.std.specs.List.Sorted.{IsStrictlySortedBy}
use Rattle.std.specs.Ordering.{is_eq, match_ordering, ordering_reverse}
use Rattle.std.specs.declared.cmp.Ordering.TheVariants.{Less, Equal, Greater}
use Rattle.std.specs.BTreeSet.{insert_key}
use Rattle.std.proofs.lemmas.Bool.{or_cases, or_parts}
use Rattle.list_laws.specs.InOrder.{in_order}
use Rattle.epochs.specs.Lines.{LineValues}
use Rattle.epoch_rules.specs.KeyOrder.{line_cmp, have_one_key}
use Rattle.epoch_rules.proofs.Lookups.{empty_sorted, first_in_order, first_inserted, first_more, first_of, or_assoc, same_lists, sorted_inserted}
use Rattle.epoch_rules.proofs.Members.{Has, any_has, has_any, same_bool}
use Rattle.epoch_rules.proofs.Orders.{lines_total}
use Rattle.epoch_rules.proofs.Replaced.{sorted_head, sorted_tail}
use Rattle.epoch_rules.proofs.WithLine.{any_put, first_other, others, others_sorted}

inserted_has : (e : LineValues) (xs : List LineValues) (x : LineValues) → Has (insert_key line_cmp xs e) x → (e ≡ x) ⊎ Has xs x
inserted_has e [] x has = has
inserted_has e (y ∷ ys) x has =
    elim (line_cmp e y) as (λ o. Has (match_ordering o (e ∷ y ∷ ys) (y ∷ ys) (y ∷ insert_key line_cmp ys e)) x → (e ≡ x) ⊎ Has (y ∷ ys) x) [
      | Less ↦ λ h. h
      | Equal ↦ λ h. inr h
      | Greater ↦ λ h.
          (let there : (y ≡ x) ⊎ Has (insert_key line_cmp ys e) x = h in
          elim there [
            | inl is ↦ inr (inl is)
            | inr more ↦ elim (inserted_has e ys x more) [
              | inl is ↦ inl is
              | inr old ↦ inr (inr old)
            ]
          ])
    ] has

has_kept : (e : LineValues) (xs : List LineValues) (x : LineValues) → Has xs x → Has (insert_key line_cmp xs e) x
has_kept e [] x has = absurd has
has_kept e (y ∷ ys) x has =
    elim (line_cmp e y) as (λ o. Has (match_ordering o (e ∷ y ∷ ys) (y ∷ ys) (y ∷ insert_key line_cmp ys e)) x) [
      | Less ↦ inr has
      | Equal ↦ has
      | Greater ↦
          (let there : (y ≡ x) ⊎ Has ys x = has in
          elim there [
            | inl is ↦ inl is
            | inr more ↦ inr (has_kept e ys x more)
          ])
    ]

has_new : (e : LineValues) (xs : List LineValues) → list_any (have_one_key e) xs ≡ false → Has (insert_key line_cmp xs e) e
has_new e [] none = inl refl
has_new e (y ∷ ys) none =
    let p = or_parts (have_one_key e y) (list_any (have_one_key e) ys) none in
    elim (line_cmp e y) as (λ o. is_eq o ≡ false → Has (match_ordering o (e ∷ y ∷ ys) (y ∷ ys) (y ∷ insert_key line_cmp ys e)) e) [
      | Less ↦ λ _. inl refl
      | Equal ↦ λ h. (cc)
      | Greater ↦ λ _. inr (has_new e ys p.1)
    ] p.0

-- each of the keys is apart from those that are there
abbrev pub Apart : List LineValues → List LineValues → Type 0
Apart done keys = AllByRecursion (λ k. list_any (have_one_key k) done ≡ false) keys

apart_more : (done : List LineValues) (k : LineValues) (ks : List LineValues) → list_any (have_one_key k) done ≡ false → AllByRecursion (λ y. line_cmp k y ≡ Less) ks → Apart done ks → Apart (insert_key line_cmp done k) ks
apart_more done k [] none above all = tt
apart_more done k (y ∷ ys) none above all = (
  any_put (have_one_key y) k done none ∙ ap (λ o. is_eq o || list_any (have_one_key y) done) (lines_total.antisymm y k ∙ ap ordering_reverse above.0) ∙ all.0,
  apart_more done k ys none above.1 all.1,
)

-- put in order, the lines are those of both lists
pub order_has : (done keys : List LineValues) (x : LineValues) → Has (in_order line_cmp done keys) x → Has done x ⊎ Has keys x
order_has done [] x has = inl has
order_has done (k ∷ ks) x has =
    elim (order_has (insert_key line_cmp done k) ks x has) [
      | inl there ↦ elim (inserted_has k done x there) [
        | inl is ↦ inr (inl is)
        | inr old ↦ inl old
      ]
      | inr later ↦ inr (inr later)
    ]

pub has_done : (done keys : List LineValues) (x : LineValues) → Has done x → Has (in_order line_cmp done keys) x
has_done done [] x has = has
has_done done (k ∷ ks) x has = has_done (insert_key line_cmp done k) ks x (has_kept k done x has)

pub has_keys : (done keys : List LineValues) → IsStrictlySortedBy line_cmp keys → Apart done keys → (x : LineValues) → Has keys x → Has (in_order line_cmp done keys) x
has_keys done [] up all x has = absurd has
has_keys done (k ∷ ks) up all x has =
    let there : (k ≡ x) ⊎ Has ks x = has in
    elim there [
      | inl is ↦ has_done (insert_key line_cmp done k) ks x (subst (Has (insert_key line_cmp done k)) is (has_new k done all.0))
      | inr later ↦ has_keys (insert_key line_cmp done k) ks (sorted_tail line_cmp k ks up) (apart_more done k ks all.0 (sorted_head line_cmp k ks up) all.1) x later
    ]

or_left : (a b : Bool) → a ≡ true → (a || b) ≡ true
or_left a b h = ap (λ c. c || b) h

or_right : (a b : Bool) → b ≡ true → (a || b) ≡ true
or_right true b h = refl
or_right false b h = h

pub any_order : (test : LineValues → Bool) (done keys : List LineValues) → IsStrictlySortedBy line_cmp keys → Apart done keys → list_any test (in_order line_cmp done keys) ≡ (list_any test done || list_any test keys)
any_order test done keys up all =
    same_bool (list_any test (in_order line_cmp done keys)) (list_any test done || list_any test keys)
    (λ h.
    let x = has_any test (in_order line_cmp done keys) h in
    elim (order_has done keys x.0 x.1) [
      | inl there ↦ or_left (list_any test done) (list_any test keys) (any_has test done x.0 there x.2)
      | inr there ↦ or_right (list_any test done) (list_any test keys) (any_has test keys x.0 there x.2)
    ])
    (λ h.
    elim (or_cases (list_any test done) (list_any test keys) h) [
      | inl there ↦ (let x = has_any test done there in any_has test (in_order line_cmp done keys) x.0 (has_done done keys x.0 x.1) x.2)
      | inr there ↦ (let x = has_any test keys there in any_has test (in_order line_cmp done keys) x.0 (has_keys done keys up all x.0 x.1) x.2)
    ])

pub sorted_order : (done keys : List LineValues) → IsStrictlySortedBy line_cmp done → IsStrictlySortedBy line_cmp (in_order line_cmp done keys)
sorted_order done [] up = up
sorted_order done (k ∷ ks) up = sorted_order (insert_key line_cmp done k) ks (sorted_inserted lines_total done k up)

-- lines in order are what they are when they are put in order
pub ordered_again : (xs : List LineValues) → IsStrictlySortedBy line_cmp xs → in_order line_cmp [] xs ≡ xs
ordered_again xs up = same_lists lines_total (in_order line_cmp [] xs) xs (sorted_order [] xs (empty_sorted lines_total)) up (λ q. first_in_order lines_total q xs)

module _ (left put : List LineValues) (left_up : IsStrictlySortedBy line_cmp left) (put_up : IsStrictlySortedBy line_cmp put) (e : LineValues) where
  -- with a line more
  pub put_order : in_order line_cmp left (insert_key line_cmp put e) ≡ insert_key line_cmp (in_order line_cmp left put) e
  put_order =
      let all = in_order line_cmp left put in
      let up = sorted_order left put left_up in
      same_lists lines_total (in_order line_cmp left (insert_key line_cmp put e)) (insert_key line_cmp all e) (sorted_order left (insert_key line_cmp put e) left_up) (sorted_inserted lines_total all e up)
      (λ q.
      let w = cond (is_eq (line_cmp q e)) (Some e) None in
      first_more lines_total q left (insert_key line_cmp put e) left_up
      ∙ ap (option_or (first_of line_cmp q left)) (first_inserted lines_total q put e put_up)
      ∙ sym (or_assoc (first_of line_cmp q left) (first_of line_cmp q put) w)
      ∙ ap (λ a. option_or a w) (sym (first_more lines_total q left put left_up))
      ∙ sym (first_inserted lines_total q all e up))

  -- with a line less
  pub cut_order : in_order line_cmp (others e left) (others e put) ≡ others e (in_order line_cmp left put)
  cut_order =
      let all = in_order line_cmp left put in
      let up = sorted_order left put left_up in
      let cut_up = others_sorted e left left_up in
      same_lists lines_total (in_order line_cmp (others e left) (others e put)) (others e all) (sorted_order (others e left) (others e put) cut_up) (others_sorted e all up)
      (λ q.
      first_more lines_total q (others e left) (others e put) cut_up
      ∙ (λ i. option_or (first_other q e left left_up i) (first_other q e put put_up i))
      ∙ both_none (have_one_key q e) (first_of line_cmp q left) (first_of line_cmp q put)
      ∙ ap (cond (have_one_key q e) None) (sym (first_more lines_total q left put left_up))
      ∙ sym (first_other q e all up))
    where
      both_none : {E : Type 0} (b : Bool) (a c : Option E) → option_or (cond b None a) (cond b None c) ≡ cond b None (option_or a c)
      both_none true a c = refl
      both_none false a c = refl

-- what passes one test and another
pub filter_both : {X : Type 0} (p q r : X → Bool) → ((x : X) → r x ≡ (q x && p x)) → (xs : List X) → filter r xs ≡ filter p (filter q xs)
filter_both p q r same [] = refl
filter_both p q r same (x ∷ xs) =
    (λ i. cond (same x i) (x ∷ filter_both p q r same xs i) (filter_both p q r same xs i))
    ∙ elim (q x) as (λ b. cond (b && p x) (x ∷ filter p (filter q xs)) (filter p (filter q xs)) ≡ filter p (cond b (x ∷ filter q xs) (filter q xs))) [
      | true ↦ refl
      | false ↦ refl
    ]

pub filter_swap : {X : Type 0} (p q : X → Bool) (xs : List X) → filter p (filter q xs) ≡ filter q (filter p xs)
filter_swap p q xs = sym (filter_both p q (λ x. q x && p x) (λ x. refl) xs) ∙ filter_both q p (λ x. q x && p x) (λ x. and_turned (q x) (p x)) xs
  where
    and_turned : (a b : Bool) → (a && b) ≡ (b && a)
    and_turned true true = refl
    and_turned true false = refl
    and_turned false true = refl
    and_turned false false = refl

pub all_filter : {X : Type 0} (P : X → Type 0) (p : X → Bool) (xs : List X) → AllByRecursion P xs → AllByRecursion P (filter p xs)
all_filter P p [] all = tt
all_filter P p (x ∷ xs) all =
    elim (p x) as (λ b. AllByRecursion P (cond b (x ∷ filter p xs) (filter p xs))) [
      | true ↦ (all.0, all_filter P p xs all.1)
      | false ↦ all_filter P p xs all.1
    ]

pub all_step : {X : Type 0} (P Q : X → Type 0) → ((x : X) → P x → Q x) → (xs : List X) → AllByRecursion P xs → AllByRecursion Q xs
all_step P Q step [] all = tt
all_step P Q step (x ∷ xs) all = (step x all.0, all_step P Q step xs all.1)

pub none_filter : {X : Type 0} (test p : X → Bool) (xs : List X) → list_any test xs ≡ false → list_any test (filter p xs) ≡ false
none_filter test p [] none = refl
none_filter test p (x ∷ xs) none =
    let n = or_parts (test x) (list_any test xs) none in
    elim (p x) as (λ b. list_any test (cond b (x ∷ filter p xs) (filter p xs)) ≡ false) [
      | true ↦ ap (λ c. c || list_any test (filter p xs)) n.0 ∙ none_filter test p xs n.1
      | false ↦ none_filter test p xs n.1
    ]

all_inserted : (P : LineValues → Type 0) (ks : List LineValues) (k : LineValues) → AllByRecursion P ks → P k → AllByRecursion P (insert_key line_cmp ks k)
all_inserted P [] k all one = (one, tt)
all_inserted P (x ∷ xs) k all one =
    elim (line_cmp k x) as (λ r. AllByRecursion P (match_ordering r (k ∷ x ∷ xs) (x ∷ xs) (x ∷ insert_key line_cmp xs k))) [
      | Less ↦ (one, all)
      | Equal ↦ all
      | Greater ↦ (all.0, all_inserted P xs k all.1 one)
    ]

-- the lists stay apart
pub apart_put : (left put : List LineValues) (e : LineValues) → Apart left put → list_any (have_one_key e) left ≡ false → Apart left (insert_key line_cmp put e)
apart_put left put e apart none = all_inserted (λ k. list_any (have_one_key k) left ≡ false) put e apart none

pub apart_cut : (left put : List LineValues) (e : LineValues) → Apart left put → Apart (others e left) (others e put)
apart_cut left put e apart =
    all_step (λ k. list_any (have_one_key k) left ≡ false) (λ k. list_any (have_one_key k) (others e left) ≡ false) (λ k none. none_filter (have_one_key k) (λ l. not (have_one_key e l)) left none) (others e put)
    (all_filter (λ k. list_any (have_one_key k) left ≡ false) (λ l. not (have_one_key e l)) put apart)
