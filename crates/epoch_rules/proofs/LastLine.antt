-- A line behind all others goes to the end.
use Rattle.std.proofs.Common.{◌≡◌, ◌∙◌, ◌||◌, false, List, [], ◌∷◌, ◌++◌, refl, ap}
use Rattle.std.specs.List.{list_any, AllByRecursion}
use Rattle.std.specs.List.Sorted.{IsStrictlySortedBy}
use Rattle.std.specs.Ordering.{is_eq, match_ordering, ordering_reverse}
use Rattle.std.specs.declared.cmp.Ordering.TheVariants.{Less, Greater}
use Rattle.std.specs.BTreeSet.{insert_key}
use Rattle.epochs.specs.Lines.{LineValues}
use Rattle.epoch_rules.specs.KeyOrder.{line_cmp, have_one_key}
use Rattle.epoch_rules.proofs.Orders.{lines_total}
use Rattle.epoch_rules.proofs.Replaced.{sorted_head, sorted_tail}

all_middle : (P : LineValues → Type 0) (xs : List LineValues) (y : LineValues) (ys : List LineValues) → AllByRecursion P (xs ++ y ∷ ys) → P y
all_middle P [] y ys all = all.0
all_middle P (x ∷ xs) y ys all = all_middle P xs y ys all.1

pub below_middle : (xs : List LineValues) (y : LineValues) (ys : List LineValues) → IsStrictlySortedBy line_cmp (xs ++ y ∷ ys) → AllByRecursion (λ x. line_cmp x y ≡ Less) xs
below_middle [] y ys up = tt
below_middle (x ∷ xs) y ys up =
    (all_middle (λ z. line_cmp x z ≡ Less) xs y ys (sorted_head line_cmp x (xs ++ y ∷ ys) up), below_middle xs y ys (sorted_tail line_cmp x (xs ++ y ∷ ys) up))

after : (x k : LineValues) → line_cmp x k ≡ Less → line_cmp k x ≡ Greater
after x k h = lines_total.antisymm k x ∙ ap ordering_reverse h

pub put_last : (ks : List LineValues) (k : LineValues) → AllByRecursion (λ x. line_cmp x k ≡ Less) ks → insert_key line_cmp ks k ≡ ks ++ k ∷ []
put_last [] k all = refl
put_last (x ∷ xs) k all =
    ap (λ r. match_ordering r (k ∷ x ∷ xs) (x ∷ xs) (x ∷ insert_key line_cmp xs k)) (after x k all.0)
    ∙ ap (λ ys. x ∷ ys) (put_last xs k all.1)

pub none_below : (ks : List LineValues) (k : LineValues) → AllByRecursion (λ x. line_cmp x k ≡ Less) ks → list_any (have_one_key k) ks ≡ false
none_below [] k all = refl
none_below (x ∷ xs) k all = ap (λ r. is_eq r || list_any (have_one_key k) xs) (after x k all.0) ∙ none_below xs k all.1

pub append_one : (xs : List LineValues) (y : LineValues) (ys : List LineValues) → (xs ++ y ∷ []) ++ ys ≡ xs ++ y ∷ ys
append_one [] y ys = refl
append_one (x ∷ xs) y ys = ap (λ l. x ∷ l) (append_one xs y ys)
