-- The live lines after one more line: those of other keys, and the line at its place where it isn't a
-- deletion.
use Rattle.std.proofs.Common.{◌≡◌, suc, ◌+◌, Bool, true, false, not, cond, ◌&&◌, ◌||◌, List, [], ◌∷◌, ◌++◌, filter, length, Some, None, refl, sym, ap, ◌∙◌, arith, if◌then◌else◌}
use Rattle.std.specs.Option.{option_or, is_some}
use Rattle.std.specs.List.{list_any, AllByRecursion}
use Rattle.std.specs.List.Sorted.{IsStrictlySortedBy}
use Rattle.std.specs.Ordering.{is_eq, match_ordering}
use Rattle.std.specs.declared.cmp.Ordering.TheVariants.{Less, Equal, Greater}
use Rattle.std.specs.BTreeSet.{insert_key}
use Rattle.std.proofs.lemmas.Cmp.{alike_right}
use Rattle.std.proofs.lemmas.List.Kept.{IsStrictlySortedBy-filter}
use Rattle.std.proofs.lemmas.Map.Entries.{option_filter}
use Rattle.epochs.specs.Lines.{LineValues}
use Rattle.epoch_rules.specs.KeyOrder.{line_cmp, have_one_key}
use Rattle.epoch_rules.specs.LiveLines.{is_said, live_lines}
use Rattle.epoch_rules.specs.Rules.{with_line}
use Rattle.epoch_rules.proofs.Lookups.{any_first, first_filter, first_inserted, first_of, is_equal, none_behind, or_none, same_lists, sorted_inserted, sorted_rest}
use Rattle.epoch_rules.proofs.LiveByKey.{filter_all, live_after, live_sorted}
use Rattle.epoch_rules.proofs.Orders.{lines_total}
use Rattle.epoch_rules.proofs.Members.{or_swap}
use Rattle.std.proofs.lemmas.Bool.{false_from_ne_true, or_parts}

-- the lines of other keys
abbrev pub others : LineValues → List LineValues → List LineValues
others e live = filter (λ l. not (have_one_key e l)) live

-- these, and the line where it isn't a deletion
abbrev pub placed : List LineValues → LineValues → List LineValues
placed live e = if is_said e then insert_key line_cmp (others e live) e else others e live

none_kept : (p : LineValues → Bool) (q : LineValues) (xs : List LineValues) → ((x : LineValues) → is_eq (line_cmp q x) ≡ true → p x ≡ false) → option_filter p (first_of line_cmp q xs) ≡ None
none_kept p q [] out = refl
none_kept p q (x ∷ xs) out =
    elim (is_eq (line_cmp q x)) as (λ b. is_eq (line_cmp q x) ≡ b → option_filter p (cond b (Some x) (first_of line_cmp q xs)) ≡ None) [
      | true ↦ λ t. ap (λ b. cond b (Some x) None) (out x t)
      | false ↦ λ _. none_kept p q xs out
    ] refl

all_kept : (p : LineValues → Bool) (q : LineValues) (xs : List LineValues) → ((x : LineValues) → is_eq (line_cmp q x) ≡ true → p x ≡ true) → option_filter p (first_of line_cmp q xs) ≡ first_of line_cmp q xs
all_kept p q [] stays = refl
all_kept p q (x ∷ xs) stays =
    elim (is_eq (line_cmp q x)) as (λ b. is_eq (line_cmp q x) ≡ b → option_filter p (cond b (Some x) (first_of line_cmp q xs)) ≡ cond b (Some x) (first_of line_cmp q xs)) [
      | true ↦ λ t. ap (λ b. cond b (Some x) None) (stays x t)
      | false ↦ λ _. all_kept p q xs stays
    ] refl

-- of the lines of other keys, by key
pub first_other : (q e : LineValues) (live : List LineValues) → IsStrictlySortedBy line_cmp live → first_of line_cmp q (others e live) ≡ cond (have_one_key q e) None (first_of line_cmp q live)
first_other q e live up =
    let p = λ (l : LineValues). not (have_one_key e l) in
    first_filter lines_total p q live up
    ∙ elim (is_eq (line_cmp q e)) as (λ b. is_eq (line_cmp q e) ≡ b → option_filter p (first_of line_cmp q live) ≡ cond b None (first_of line_cmp q live)) [
      | true ↦ λ t.
          none_kept p q live (λ x h.
          let over = lines_total.congr q e x (is_equal (line_cmp q e) t) in
          ap not (ap is_eq (sym over) ∙ h))
      | false ↦ λ f.
          all_kept p q live (λ x h.
          ap not (false_from_ne_true (is_eq (line_cmp e x)) (λ same.
          let back = alike_right lines_total e x q (is_equal (line_cmp e x) same) in
          let both = sym f ∙ ap is_eq back ∙ h in
          let wrong : false ≡ true = both in
          cc)))
    ] refl

pub others_sorted : (e : LineValues) (live : List LineValues) → IsStrictlySortedBy line_cmp live → IsStrictlySortedBy line_cmp (others e live)
others_sorted e live up = IsStrictlySortedBy-filter line_cmp (λ (l : LineValues). not (have_one_key e l)) live up

placed_sorted : (e : LineValues) (live : List LineValues) → IsStrictlySortedBy line_cmp live → (b : Bool) → IsStrictlySortedBy line_cmp (cond b (insert_key line_cmp (others e live) e) (others e live))
placed_sorted e live up true = sorted_inserted lines_total (others e live) e (others_sorted e live up)
placed_sorted e live up false = others_sorted e live up

by_key : (q e : LineValues) (live : List LineValues) → IsStrictlySortedBy line_cmp live → AllByRecursion (λ l. is_said l ≡ true) live → (b : Bool) → is_said e ≡ b
    → first_of line_cmp q (live_lines (live ++ e ∷ [])) ≡ first_of line_cmp q (cond b (insert_key line_cmp (others e live) e) (others e live))
by_key q e live up all b said =
    let old = first_of line_cmp q live in
    live_after q live (e ∷ []) up
    ∙ elim b as (λ b. is_said e ≡ b
    → option_filter is_said (option_or (cond (have_one_key q e) (Some e) None) old) ≡ first_of line_cmp q (cond b (insert_key line_cmp (others e live) e) (others e live))) [
      | true ↦ λ s.
          (elim (have_one_key q e) as (λ k. option_filter is_said (option_or (cond k (Some e) None) old) ≡ option_or (cond k None old) (cond k (Some e) None)) [
            | true ↦ ap (λ b. cond b (Some e) None) s
            | false ↦ filter_all is_said q live all ∙ sym (or_none old)
          ])
          ∙ sym (first_inserted lines_total q (others e live) e (others_sorted e live up) ∙ ap (λ a. option_or a (cond (have_one_key q e) (Some e) None)) (first_other q e live up))
      | false ↦ λ s.
          (elim (have_one_key q e) as (λ k. option_filter is_said (option_or (cond k (Some e) None) old) ≡ cond k None old) [
            | true ↦ ap (λ b. cond b (Some e) None) s
            | false ↦ filter_all is_said q live all
          ])
          ∙ sym (first_other q e live up)
    ] said

-- what a line makes of live lines
pub with_line_is : (live : List LineValues) (e : LineValues) → IsStrictlySortedBy line_cmp live → AllByRecursion (λ l. is_said l ≡ true) live → with_line live e ≡ placed live e
with_line_is live e up all =
    same_lists lines_total (with_line live e) (placed live e) (live_sorted (live ++ e ∷ [])) (placed_sorted e live up (is_said e))
    (λ q. by_key q e live up all (is_said e) refl)

-- a line put among lines of other keys
pub any_put : (test : LineValues → Bool) (e : LineValues) (xs : List LineValues) → list_any (have_one_key e) xs ≡ false → list_any test (insert_key line_cmp xs e) ≡ (test e || list_any test xs)
any_put test e [] none = refl
any_put test e (x ∷ xs) none =
    let p = or_parts (have_one_key e x) (list_any (have_one_key e) xs) none in
    elim (line_cmp e x) as (λ r. is_eq r ≡ false → list_any test (match_ordering r (e ∷ x ∷ xs) (x ∷ xs) (x ∷ insert_key line_cmp xs e)) ≡ (test e || (test x || list_any test xs))) [
      | Less ↦ λ _. refl
      | Equal ↦ λ h. (cc)
      | Greater ↦ λ _. ap (λ b. test x || b) (any_put test e xs p.1) ∙ or_swap (test x) (test e) (list_any test xs)
    ] p.0

pub length_put : (e : LineValues) (xs : List LineValues) → list_any (have_one_key e) xs ≡ false → length (insert_key line_cmp xs e) ≡ suc (length xs)
length_put e [] none = refl
length_put e (x ∷ xs) none =
    let p = or_parts (have_one_key e x) (list_any (have_one_key e) xs) none in
    elim (line_cmp e x) as (λ r. is_eq r ≡ false → length (match_ordering r (e ∷ x ∷ xs) (x ∷ xs) (x ∷ insert_key line_cmp xs e)) ≡ suc (suc (length xs))) [
      | Less ↦ λ _. refl
      | Equal ↦ λ h. (cc)
      | Greater ↦ λ _. ap suc (length_put e xs p.1)
    ] p.0

-- a test over the lines of other keys
pub any_other : (test : LineValues → Bool) (e : LineValues) (live : List LineValues) → list_any test (others e live) ≡ list_any (λ l. not (have_one_key e l) && test l) live
any_other test e [] = refl
any_other test e (l ∷ live) =
    elim (have_one_key e l) as (λ b. list_any test (cond (not b) (l ∷ others e live) (others e live)) ≡ ((not b && test l) || list_any (λ l. not (have_one_key e l) && test l) live)) [
      | true ↦ any_other test e live
      | false ↦ ap (λ b. test l || b) (any_other test e live)
    ]

pub none_other : (e : LineValues) (live : List LineValues) → list_any (have_one_key e) (others e live) ≡ false
none_other e [] = refl
none_other e (l ∷ live) =
    elim (have_one_key e l) as (λ b. have_one_key e l ≡ b → list_any (have_one_key e) (cond (not b) (l ∷ others e live) (others e live)) ≡ false) [
      | true ↦ λ _. none_other e live
      | false ↦ λ f. ap (λ b. b || list_any (have_one_key e) (others e live)) f ∙ none_other e live
    ] refl

-- a test over the live lines with one more
pub any_with_line : (test : LineValues → Bool) (live : List LineValues) (e : LineValues) → IsStrictlySortedBy line_cmp live → AllByRecursion (λ l. is_said l ≡ true) live
    → list_any test (with_line live e) ≡ ((is_said e && test e) || list_any (λ l. not (have_one_key e l) && test l) live)
any_with_line test live e up all =
    ap (list_any test) (with_line_is live e up all)
    ∙ (elim (is_said e) as (λ b. list_any test (cond b (insert_key line_cmp (others e live) e) (others e live)) ≡ ((b && test e) || list_any test (others e live))) [
      | true ↦ any_put test e (others e live) (none_other e live)
      | false ↦ refl
    ])
    ∙ ap (λ b. (is_said e && test e) || b) (any_other test e live)

-- how many lines there are after one more
pub length_with_line : (live : List LineValues) (e : LineValues) → IsStrictlySortedBy line_cmp live → AllByRecursion (λ l. is_said l ≡ true) live
    → length (with_line live e) ≡ length (others e live) + (if is_said e then 1 else 0)
length_with_line live e up all =
    ap length (with_line_is live e up all)
    ∙ (elim (is_said e) as (λ b. length (cond b (insert_key line_cmp (others e live) e) (others e live)) ≡ length (others e live) + cond b 1 0) [
      | true ↦ (let put = length_put e (others e live) (none_other e live) in omega arith)
      | false ↦ omega arith
    ])

-- where no line has the key, all are lines of other keys
pub no_other_gone : (e : LineValues) (xs : List LineValues) → list_any (have_one_key e) xs ≡ false → others e xs ≡ xs
no_other_gone e [] none = refl
no_other_gone e (x ∷ xs) none =
    let p = or_parts (have_one_key e x) (list_any (have_one_key e) xs) none in
    ap (λ b. cond (not b) (x ∷ others e xs) (others e xs)) p.0 ∙ ap (λ ys. x ∷ ys) (no_other_gone e xs p.1)

-- how many lines have other keys
pub length_others : (e : LineValues) (live : List LineValues) → IsStrictlySortedBy line_cmp live → length (others e live) + (if list_any (have_one_key e) live then 1 else 0) ≡ length live
length_others e [] up = refl
length_others e (l ∷ live) up =
    elim (have_one_key e l) as (λ b. have_one_key e l ≡ b → length (cond (not b) (l ∷ others e live) (others e live)) + cond (b || list_any (have_one_key e) live) 1 0 ≡ suc (length live)) [
      | true ↦ λ t.
          (let none = any_first line_cmp e live ∙ ap is_some (none_behind lines_total e l live up (is_equal (line_cmp e l) t)) in
          let same = ap length (no_other_gone e live none) in
          omega arith)
      | false ↦ λ _. (let rest = length_others e live (sorted_rest lines_total l live up) in omega arith)
    ] refl
