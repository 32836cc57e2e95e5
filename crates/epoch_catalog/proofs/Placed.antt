-- A head put among live lines where it belongs.
use Rattle.std.proofs.Common.{◌≡◌, ◌∙◌, ℕ, zero, suc, ◌<◌, Bool, true, false, not, cond, List, [], ◌∷◌, ◌++◌, filter, length, map, take, drop, set, refl, sym, ap, subst, arith, if◌then◌else◌, append_assoc}
use Rattle.std.specs.List.{AllByRecursion}
use Rattle.std.specs.List.Sorted.{IsStrictlySortedBy}
use Rattle.std.specs.Ordering.{is_eq, is_le, ordering_reverse}
use Rattle.std.specs.declared.cmp.Ordering.TheVariants.{Less, Equal, Greater}
use Rattle.std.proofs.lemmas.List.{append-nil, map-append}
use Rattle.epochs.specs.Lines.{LineValues}
use Rattle.epochs.specs.Views.{values_of_line}
use Rattle.epochs.specs.declared.line.Line.{Line}
use Rattle.epoch_rules.specs.KeyOrder.{key_parts_of, line_cmp, have_one_key}
use Rattle.epoch_rules.specs.LiveLines.{is_said, live_lines}
use Rattle.epoch_rules.specs.Neighbours.{is_below_key, is_from_key}
use Rattle.epoch_rules.proofs.Cuts.{halves}
use Rattle.epoch_rules.proofs.LiveByKey.{live_again}
use Rattle.epoch_rules.proofs.Orders.{lines_total}
use Rattle.epoch_rules.proofs.Replaced.{sorted_head}
use Rattle.epoch_catalog.specs.Merging.{is_first}
use Rattle.epoch_catalog.proofs.Merged.{all_fronts, one_head, sorted_back, sorted_front}

all_pass : (p : LineValues → Bool) (xs : List LineValues) → AllByRecursion (λ x. p x ≡ true) (filter p xs)
all_pass p [] = tt
all_pass p (x ∷ xs) =
    elim (p x) as (λ b. p x ≡ b → AllByRecursion (λ x. p x ≡ true) (cond b (x ∷ filter p xs) (filter p xs))) [
      | true ↦ λ t. (t, all_pass p xs)
      | false ↦ λ _. all_pass p xs
    ] refl

all_to : (P Q : LineValues → Type 0) → ((x : LineValues) → P x → Q x) → (xs : List LineValues) → AllByRecursion P xs → AllByRecursion Q xs
all_to P Q step [] all = tt
all_to P Q step (x ∷ xs) all = (step x all.0, all_to P Q step xs all.1)

below_less : (head x : LineValues) → is_below_key (key_parts_of head) x ≡ true → line_cmp x head ≡ Less
below_less head x h =
    elim (line_cmp head x) as (λ o. line_cmp head x ≡ o → not (is_le o) ≡ true → line_cmp x head ≡ Less) [
      | Less ↦ λ _ k. (cc)
      | Equal ↦ λ _ k. (cc)
      | Greater ↦ λ e _. lines_total.antisymm x head ∙ ap ordering_reverse e
    ] refl h

-- behind a line that isn't before the head all lines are behind the head
above_from : (head x : LineValues) (xs : List LineValues) → is_le (line_cmp head x) ≡ true → AllByRecursion (λ y. line_cmp x y ≡ Less) xs → AllByRecursion (λ y. line_cmp y head ≡ Greater) xs
above_from head x [] h all = tt
above_from head x (y ∷ ys) h all = (
  elim (line_cmp head x) as (λ o. line_cmp head x ≡ o → is_le o ≡ true → line_cmp y head ≡ Greater) [
    | Less ↦ λ e _. lines_total.antisymm y head ∙ ap ordering_reverse (lines_total.trans head x y e all.0)
    | Equal ↦ λ e _. lines_total.antisymm y head ∙ ap ordering_reverse (lines_total.congr head x y e ∙ all.0)
    | Greater ↦ λ _ k. (cc)
  ] refl h,
  above_from head x ys h all.1,
)

apart_greater : (head x : LineValues) → is_le (line_cmp head x) ≡ true → have_one_key head x ≡ false → line_cmp x head ≡ Greater
apart_greater head x h k =
    elim (line_cmp head x) as (λ o. line_cmp head x ≡ o → is_le o ≡ true → is_eq o ≡ false → line_cmp x head ≡ Greater) [
      | Less ↦ λ e _ _. lines_total.antisymm x head ∙ ap ordering_reverse e
      | Equal ↦ λ _ _ m. (cc)
      | Greater ↦ λ _ l _. (cc)
    ] refl h k

one_equal : (head x : LineValues) → have_one_key head x ≡ true → line_cmp x head ≡ Equal
one_equal head x h =
    elim (line_cmp head x) as (λ o. line_cmp head x ≡ o → is_eq o ≡ true → line_cmp x head ≡ Equal) [
      | Less ↦ λ _ k. (cc)
      | Equal ↦ λ e _. lines_total.antisymm x head ∙ ap ordering_reverse e
      | Greater ↦ λ _ k. (cc)
    ] refl h

single : (head : LineValues) → IsStrictlySortedBy line_cmp (head ∷ [])
unfolding IsStrictlySortedBy
single head = (tt, tt)

-- the lines before a head, that of its key, if there is one, and those behind
whole : (live rest gone more : List LineValues) (head : LineValues) → live ≡ (rest ++ gone) ++ more → IsStrictlySortedBy line_cmp live → AllByRecursion (λ l. is_said l ≡ true) live
    → AllByRecursion (λ l. line_cmp l head ≡ Greater) more → AllByRecursion (λ l. line_cmp l head ≡ Equal) gone → AllByRecursion (λ l. line_cmp l head ≡ Less) rest
    → live_lines (live ++ head ∷ []) ≡ (rest ++ (if is_said head then head ∷ [] else [])) ++ more
whole live rest gone more head is up said above same below =
    let top = cond (is_said head) (head ∷ []) [] in
    let rest_up = sorted_front rest gone (sorted_front (rest ++ gone) more (subst (IsStrictlySortedBy line_cmp) is up)) in
    let rest_said = all_fronts (λ l. is_said l ≡ true) rest gone (all_fronts (λ l. is_said l ≡ true) (rest ++ gone) more (subst (AllByRecursion (λ l. is_said l ≡ true)) is said)) in
    one_head live [] head more gone rest is up said (single head) above same below
    ∙ ap (λ ls. (ls ++ top) ++ more) (ap live_lines (append-nil rest) ∙ live_again rest rest_up rest_said)

module _ (live front back : List LineValues) (head : LineValues) (is : live ≡ front ++ back) (up : IsStrictlySortedBy line_cmp live) (said : AllByRecursion (λ l. is_said l ≡ true) live)
    (before : front ≡ filter (is_below_key (key_parts_of head)) live) (behind : back ≡ filter (is_from_key (key_parts_of head)) live) where
  below : AllByRecursion (λ l. line_cmp l head ≡ Less) front
  below = all_to (λ l. is_below_key (key_parts_of head) l ≡ true) (λ l. line_cmp l head ≡ Less) (below_less head) front (subst (AllByRecursion (λ l. is_below_key (key_parts_of head) l ≡ true)) (sym before) (all_pass (is_below_key (key_parts_of head)) live))

  from : AllByRecursion (λ l. is_le (line_cmp head l) ≡ true) back
  from = subst (AllByRecursion (λ l. is_from_key (key_parts_of head) l ≡ true)) (sym behind) (all_pass (is_from_key (key_parts_of head)) live)

  back_up : IsStrictlySortedBy line_cmp back
  back_up = sorted_back front back (subst (IsStrictlySortedBy line_cmp) is up)

  greater : (ys : List LineValues) → back ≡ ys → is_first ys head ≡ false → AllByRecursion (λ l. line_cmp l head ≡ Greater) ys
  greater [] at none = tt
  greater (y ∷ ys) at none =
      let all = subst (AllByRecursion (λ l. is_le (line_cmp head l) ≡ true)) at from in
      (apart_greater head y all.0 none, above_from head y ys all.0 (sorted_head line_cmp y ys (subst (IsStrictlySortedBy line_cmp) at back_up)))

  -- where no line has the key
  pub put_between : is_first back head ≡ false → live_lines (live ++ head ∷ []) ≡ (front ++ (if is_said head then head ∷ [] else [])) ++ back
  put_between none = whole live front [] back head (is ∙ ap (λ l. l ++ back) (sym (append-nil front))) up said (greater back refl none) tt below

  -- where the first line behind has it
  pub put_instead : (y : LineValues) (more : List LineValues) → back ≡ y ∷ more → is_first back head ≡ true → live_lines (live ++ head ∷ []) ≡ (front ++ (if is_said head then head ∷ [] else [])) ++ more
  put_instead y more at there =
      let first = subst (λ l. is_first l head ≡ true) at there in
      let all = subst (AllByRecursion (λ l. is_le (line_cmp head l) ≡ true)) at from in
      whole live front (y ∷ []) more head (is ∙ ap (λ l. front ++ l) at ∙ sym (append_assoc front (y ∷ []) more)) up said
      (above_from head y more all.0 (sorted_head line_cmp y more (subst (IsStrictlySortedBy line_cmp) at back_up))) (one_equal head y first, tt) below

-- where some lines from a place on begin with a line that has the key, the place is within, and that line is its own
pub first_at : (head : LineValues) (xs : List Line) (n : ℕ) → is_first (map values_of_line (drop n xs)) head ≡ true → (n < length xs) × ((x : Line) × (drop n xs ≡ x ∷ drop (suc n) xs))
first_at head [] zero h = (cc)
first_at head (x ∷ xs) zero h = (omega arith, (x, refl))
first_at head [] (suc n) h = (cc)
first_at head (x ∷ xs) (suc n) h =
    let more = first_at head xs n h in
    (omega (arith, more.0), (more.1.0, more.1.1))

pub halves_mapped : (xs : List Line) (n : ℕ) → map values_of_line xs ≡ map values_of_line (take n xs) ++ map values_of_line (drop n xs)
halves_mapped xs n = ap (map values_of_line) (sym (halves n xs)) ∙ map-append values_of_line (take n xs) (drop n xs)

pub set_parts : {X : Type 0} (xs : List X) (n : ℕ) (x : X) → n < length xs → set xs n x ≡ take n xs ++ x ∷ drop (suc n) xs
set_parts [] n x within = absurd (omega (arith, within))
set_parts (y ∷ ys) zero x within = refl
set_parts (y ∷ ys) (suc n) x within = ap (λ l. y ∷ l) (set_parts ys n x (omega (arith, within)))

top_mapped : (b : Bool) (head : Line) → map values_of_line (cond b (head ∷ []) []) ≡ cond b (values_of_line head ∷ []) []
top_mapped true head = refl
top_mapped false head = refl

pub laid : (xs ys : List Line) (b : Bool) (head : Line) → map values_of_line ((xs ++ cond b (head ∷ []) []) ++ ys) ≡ (map values_of_line xs ++ cond b (values_of_line head ∷ []) []) ++ map values_of_line ys
laid xs ys b head =
    map-append values_of_line (xs ++ cond b (head ∷ []) []) ys
    ∙ ap (λ l. l ++ map values_of_line ys) (map-append values_of_line xs (cond b (head ∷ []) []) ∙ ap (λ l. map values_of_line xs ++ l) (top_mapped b head))
