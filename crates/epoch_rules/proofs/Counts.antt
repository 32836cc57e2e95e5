-- How many live lines pass a test, with one line more or less.
use Rattle.std.proofs.Common.{◌≡◌, ◌∙◌, ℕ, suc, ◌+◌, Bool, true, false, not, cond, ◌&&◌, ◌||◌, List, [], ◌∷◌, filter, length, if◌then◌else◌, refl, ap, arith, nat_lt}
use Rattle.std.specs.List.{list_any, AllByRecursion}
use Rattle.std.specs.List.Sorted.{IsStrictlySortedBy}
use Rattle.std.proofs.lemmas.Bool.Decides.{nat_tests}
use Rattle.std.specs.Ordering.{is_eq, match_ordering}
use Rattle.std.specs.declared.cmp.Ordering.TheVariants.{Less, Equal, Greater}
use Rattle.std.specs.BTreeSet.{insert_key}
use Rattle.epochs.specs.Lines.{LineValues}
use Rattle.epoch_rules.specs.KeyOrder.{line_cmp, have_one_key}
use Rattle.epoch_rules.proofs.Orders.{lines_total}
use Rattle.epoch_rules.proofs.Replaced.{sorted_head, sorted_tail, all_level}
use Rattle.epoch_rules.proofs.WithLine.{others}
use Rattle.std.proofs.lemmas.Bool.{or_parts}

pub count_put : (p : LineValues → Bool) (e : LineValues) (xs : List LineValues) → list_any (have_one_key e) xs ≡ false → length (filter p (insert_key line_cmp xs e)) ≡ length (filter p xs) + (if p e then 1 else 0)
count_put p e [] none = elim (p e) as (λ b. length (cond b (e ∷ []) []) ≡ 0 + cond b 1 0) [ true ↦ refl | false ↦ refl ]
count_put p e (x ∷ xs) none =
    let n = or_parts (have_one_key e x) (list_any (have_one_key e) xs) none in
    let more = count_put p e xs n.1 in
    elim (line_cmp e x) as (λ r. is_eq r ≡ false → length (filter p (match_ordering r (e ∷ x ∷ xs) (x ∷ xs) (x ∷ insert_key line_cmp xs e))) ≡ length (filter p (x ∷ xs)) + (if p e then 1 else 0)) [
      | Less ↦ λ _.
          elim (p e) as (λ b. length (cond b (e ∷ filter p (x ∷ xs)) (filter p (x ∷ xs))) ≡ length (filter p (x ∷ xs)) + cond b 1 0) [ true ↦ omega arith | false ↦ omega arith ]
      | Equal ↦ λ h. (cc)
      | Greater ↦ λ _.
          elim (p x) as (λ b. length (cond b (x ∷ filter p (insert_key line_cmp xs e)) (filter p (insert_key line_cmp xs e))) ≡ length (cond b (x ∷ filter p xs) (filter p xs)) + (if p e then 1 else 0)) [
            | true ↦ omega (arith, more)
            | false ↦ more
          ]
    ] n.0

-- of lines in order at most one has the key
all_other : (e : LineValues) (p : LineValues → Bool) (xs : List LineValues) → AllByRecursion (λ x. line_cmp e x ≡ Less) xs
    → (length (filter p (others e xs)) ≡ length (filter p xs)) × (list_any (λ l. have_one_key e l && p l) xs ≡ false)
all_other e p [] all = (refl, refl)
all_other e p (x ∷ xs) all =
    let more = all_other e p xs all.1 in (
      ap (λ r. length (filter p (cond (not (is_eq r)) (x ∷ others e xs) (others e xs)))) all.0
          ∙ elim (p x) as (λ b. length (cond b (x ∷ filter p (others e xs)) (filter p (others e xs))) ≡ length (cond b (x ∷ filter p xs) (filter p xs))) [
            | true ↦ ap suc more.0
            | false ↦ more.0
          ],
      ap (λ r. (is_eq r && p x) || list_any (λ l. have_one_key e l && p l) xs) all.0 ∙ more.1,
    )

pub count_others : (p : LineValues → Bool) (e : LineValues) (xs : List LineValues) → IsStrictlySortedBy line_cmp xs
    → length (filter p (others e xs)) + (if list_any (λ l. have_one_key e l && p l) xs then 1 else 0) ≡ length (filter p xs)
count_others p e [] up = refl
count_others p e (x ∷ xs) up =
    let rest = others e xs in
    let more = count_others p e xs (sorted_tail line_cmp x xs up) in
    elim (line_cmp e x) as (λ r. line_cmp e x ≡ r
    → length (filter p (cond (not (is_eq r)) (x ∷ rest) rest)) + cond ((is_eq r && p x) || list_any (λ l. have_one_key e l && p l) xs) 1 0 ≡ length (filter p (x ∷ xs))) [
      | Less ↦ λ _. kept x xs rest more
      | Equal ↦ λ h.
          (let none = all_other e p xs (all_level lines_total e x xs h (sorted_head line_cmp x xs up)) in
          elim (p x) as (λ b. length (filter p rest) + cond (b || list_any (λ l. have_one_key e l && p l) xs) 1 0 ≡ length (cond b (x ∷ filter p xs) (filter p xs))) [
            | true ↦ omega (arith, none.0)
            | false ↦ more
          ])
      | Greater ↦ λ _. kept x xs rest more
    ] refl
  where
    kept : (x : LineValues) (xs rest : List LineValues) → length (filter p rest) + cond (list_any (λ l. have_one_key e l && p l) xs) 1 0 ≡ length (filter p xs)
        → length (filter p (x ∷ rest)) + cond (list_any (λ l. have_one_key e l && p l) xs) 1 0 ≡ length (filter p (x ∷ xs))
    kept x xs rest more =
        elim (p x) as (λ b. length (cond b (x ∷ filter p rest) (filter p rest)) + cond (list_any (λ l. have_one_key e l && p l) xs) 1 0 ≡ length (cond b (x ∷ filter p xs) (filter p xs))) [
          | true ↦ omega (arith, more)
          | false ↦ more
        ]

some_lt : (n : ℕ) → true ≡ nat_lt 0 (suc n)
some_lt n = grind (arith, nat_tests)

-- some pass exactly where their number isn't zero
pub any_counted : (p : LineValues → Bool) (xs : List LineValues) → list_any p xs ≡ nat_lt 0 (length (filter p xs))
any_counted p [] = refl
any_counted p (x ∷ xs) =
    elim (p x) as (λ b. (b || list_any p xs) ≡ nat_lt 0 (length (cond b (x ∷ filter p xs) (filter p xs)))) [
      | true ↦ some_lt (length (filter p xs))
      | false ↦ any_counted p xs
    ]
