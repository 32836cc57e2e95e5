-- The live lines by key: of each key the last line, where it isn't a deletion.
use Rattle.std.proofs.Common.{◌≡◌, Bool, true, false, cond, List, [], ◌∷◌, ◌++◌, filter, Option, Some, None, refl, sym, ap, ◌∙◌}
use Rattle.std.specs.Option.{option_or, is_some}
use Rattle.std.specs.List.{AllByRecursion}
use Rattle.std.specs.List.Sorted.{IsStrictlySortedBy}
use Rattle.std.specs.Ordering.{is_eq}
use Rattle.std.proofs.lemmas.Map.Entries.{option_filter}
use Rattle.list_laws.proofs.Keys.{all_in_order, sorted_in_order}
use Rattle.epochs.specs.Lines.{LineValues}
use Rattle.epoch_rules.specs.KeyOrder.{line_cmp}
use Rattle.epoch_rules.specs.LiveLines.{is_said, is_replaced, last_lines, live_lines}
use Rattle.epoch_rules.proofs.Lookups.{filter_twice, first_hit, first_in_order, first_miss, first_of, is_equal, last_alike, last_append, last_of, last_sorted, or_none, any_last, same_lists}
use Rattle.epoch_rules.proofs.Orders.{lines_total}

some_stays : {E : Type 0} (a w : Option E) → is_some a ≡ true → a ≡ option_or a w
some_stays None w h = cc
some_stays (Some x) w h = refl

pub none_there : {E : Type 0} (a : Option E) → is_some a ≡ false → a ≡ None
none_there None h = refl
none_there (Some x) h = cc

pub filter_all : (p : LineValues → Bool) (q : LineValues) (xs : List LineValues) → AllByRecursion (λ x. p x ≡ true) xs → option_filter p (first_of line_cmp q xs) ≡ first_of line_cmp q xs
filter_all p q [] all = refl
filter_all p q (x ∷ xs) all =
    elim (is_eq (line_cmp q x)) as (λ b. option_filter p (cond b (Some x) (first_of line_cmp q xs)) ≡ cond b (Some x) (first_of line_cmp q xs)) [
      | true ↦ ap (λ b. cond b (Some x) None) all.0
      | false ↦ filter_all p q xs all.1
    ]

-- a line that a later one replaces hides nothing
hidden : (q e : LineValues) (later : List LineValues) → is_replaced later e ≡ true → last_of line_cmp q later ≡ last_of line_cmp q (e ∷ later)
hidden q e later h =
    let found : is_some (last_of line_cmp e later) ≡ true = sym (any_last line_cmp e later) ∙ h in
    elim (is_eq (line_cmp q e)) as (λ b. is_eq (line_cmp q e) ≡ b → last_of line_cmp q later ≡ option_or (last_of line_cmp q later) (cond b (Some e) None)) [
      | true ↦ λ t. some_stays (last_of line_cmp q later) (Some e) (ap is_some (last_alike lines_total q e later (is_equal (line_cmp q e) t)) ∙ found)
      | false ↦ λ _. sym (or_none (last_of line_cmp q later))
    ] refl

-- of each key the last line, where it passes a test
pub first_last : (p : LineValues → Bool) (q : LineValues) (xs : List LineValues) → first_of line_cmp q (filter p (last_lines xs)) ≡ option_filter p (last_of line_cmp q xs)
first_last p q [] = refl
first_last p q (e ∷ later) =
    let rest = first_last p q later in
    let lasts = last_lines later in
    elim (is_replaced later e) as (λ r. is_replaced later e ≡ r → first_of line_cmp q (filter p (cond r lasts (e ∷ lasts))) ≡ option_filter p (last_of line_cmp q (e ∷ later))) [
      | true ↦ λ t. rest ∙ ap (option_filter p) (hidden q e later t)
      | false ↦ λ f.
          elim (is_eq (line_cmp q e)) as (λ b. is_eq (line_cmp q e) ≡ b → first_of line_cmp q (filter p (e ∷ lasts)) ≡ option_filter p (option_or (last_of line_cmp q later) (cond b (Some e) None))) [
            | true ↦ λ t.
                (let here = is_equal (line_cmp q e) t in
                let none = none_there (last_of line_cmp q later) (ap is_some (last_alike lines_total q e later here) ∙ sym (any_last line_cmp e later) ∙ f) in
                (elim (p e) as (λ b. first_of line_cmp q (cond b (e ∷ filter p lasts) (filter p lasts)) ≡ cond b (Some e) None) [
                  | true ↦ first_hit line_cmp q e (filter p lasts) here
                  | false ↦ rest ∙ ap (option_filter p) none
                ]) ∙ sym (ap (λ a. option_filter p (option_or a (Some e))) none))
            | false ↦ λ miss.
                (elim (p e) as (λ b. first_of line_cmp q (cond b (e ∷ filter p lasts) (filter p lasts)) ≡ option_filter p (last_of line_cmp q later)) [
                  | true ↦ first_miss line_cmp q e (filter p lasts) miss ∙ rest
                  | false ↦ rest
                ]) ∙ sym (ap (option_filter p) (or_none (last_of line_cmp q later)))
          ] refl
    ] refl

pub live_first : (q : LineValues) (xs : List LineValues) → first_of line_cmp q (live_lines xs) ≡ option_filter is_said (last_of line_cmp q xs)
live_first q xs = first_in_order lines_total q (filter is_said (last_lines xs)) ∙ first_last is_said q xs

pub live_sorted : (xs : List LineValues) → IsStrictlySortedBy line_cmp (live_lines xs)
live_sorted xs = sorted_in_order lines_total (filter is_said (last_lines xs))

all_filtered : (p : LineValues → Bool) (xs : List LineValues) → AllByRecursion (λ x. p x ≡ true) (filter p xs)
all_filtered p [] = tt
all_filtered p (x ∷ xs) =
    elim (p x) as (λ b. p x ≡ b → AllByRecursion (λ x. p x ≡ true) (cond b (x ∷ filter p xs) (filter p xs))) [
      | true ↦ λ t. (t, all_filtered p xs)
      | false ↦ λ _. all_filtered p xs
    ] refl

pub live_says : (xs : List LineValues) → AllByRecursion (λ e. is_said e ≡ true) (live_lines xs)
live_says xs = all_in_order line_cmp (λ e. is_said e ≡ true) [] (filter is_said (last_lines xs)) tt (all_filtered is_said (last_lines xs))

-- the live lines after some more lines, by key
pub live_after : (q : LineValues) (live lines : List LineValues) → IsStrictlySortedBy line_cmp live
    → first_of line_cmp q (live_lines (live ++ lines)) ≡ option_filter is_said (option_or (last_of line_cmp q lines) (first_of line_cmp q live))
live_after q live lines up =
    live_first q (live ++ lines) ∙ ap (option_filter is_said) (last_append line_cmp q live lines) ∙ ap (λ a. option_filter is_said (option_or (last_of line_cmp q lines) a)) (last_sorted lines_total q live up)

-- live lines are their own live lines
pub live_again : (live : List LineValues) → IsStrictlySortedBy line_cmp live → AllByRecursion (λ e. is_said e ≡ true) live → live_lines live ≡ live
live_again live up all =
    same_lists lines_total (live_lines live) live (live_sorted live) up
    (λ q. live_first q live ∙ ap (option_filter is_said) (last_sorted lines_total q live up) ∙ filter_all is_said q live all)

kept_once : (a b : Option LineValues) → option_filter is_said (option_or a (option_filter is_said b)) ≡ option_filter is_said (option_or a b)
kept_once None b = filter_twice is_said b
kept_once (Some x) b = refl

-- what is live after some lines and then others is what is live after them all
pub live_lines_go_on : (xs ys : List LineValues) → live_lines (live_lines xs ++ ys) ≡ live_lines (xs ++ ys)
live_lines_go_on xs ys =
    same_lists lines_total (live_lines (live_lines xs ++ ys)) (live_lines (xs ++ ys)) (live_sorted (live_lines xs ++ ys)) (live_sorted (xs ++ ys))
    (λ q.
    live_after q (live_lines xs) ys (live_sorted xs)
    ∙ ap (λ a. option_filter is_said (option_or (last_of line_cmp q ys) a)) (live_first q xs)
    ∙ kept_once (last_of line_cmp q ys) (last_of line_cmp q xs)
    ∙ sym (live_first q (xs ++ ys) ∙ ap (option_filter is_said) (last_append line_cmp q xs ys)))
