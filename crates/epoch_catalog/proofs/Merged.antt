-- Live lines and heads, which are the last new lines of their keys, merged from the last key to the first.
use Rattle.std.proofs.Common.{◌≡◌, ◌≤◌, Bool, true, false, cond, ◌||◌, List, [], ◌∷◌, ◌++◌, length, filter, map, reverse, Option, Some, None, refl, sym, ap, subst, ◌∙◌, append_assoc, arith, Ordering, if◌then◌else◌}
use Rattle.std.specs.Option.{option_or, is_some}
use Rattle.std.specs.List.{list_any, AllByRecursion}
use Rattle.std.specs.List.Sorted.{IsPermutation, IsStrictlySortedBy}
use Rattle.std.specs.Ordering.{is_eq, is_gt, ordering_reverse}
use Rattle.std.specs.declared.cmp.Ordering.TheVariants.{Less, Equal, Greater}
use Rattle.std.specs.BTreeSet.{insert_key}
use Rattle.std.proofs.lemmas.Cmp.{alike_right}
use Rattle.std.proofs.lemmas.List.{append-nil, map-append, reverse-append, reverse-reverse}
use Rattle.std.proofs.lemmas.List.Folds.{list_any-append}
use Rattle.std.proofs.lemmas.Map.Entries.{option_filter}
use Rattle.list_laws.proofs.Keys.{all_in_order}
use Rattle.epochs.specs.Lines.{LineValues}
use Rattle.epoch_rules.specs.KeyOrder.{line_cmp, have_one_key}
use Rattle.epoch_rules.specs.LiveLines.{is_said, is_replaced, last_lines, live_lines}
use Rattle.epoch_rules.proofs.LastLine.{append_one, below_middle, none_below, put_last}
use Rattle.epoch_rules.proofs.LiveByKey.{live_again, live_first, live_lines_go_on, live_says, live_sorted, none_there}
use Rattle.epoch_rules.proofs.Lookups.{any_last, is_equal, last_alike, last_append, last_of, or_none, same_lists}
use Rattle.epoch_rules.proofs.Orders.{lines_total}
use Rattle.epoch_rules.proofs.Replaced.{sorted_head, sorted_tail}
use Rattle.epoch_rules.proofs.WithLine.{no_other_gone, with_line_is}
use Rattle.epoch_catalog.specs.Merging.{last_place, AreMoved, AreBefore}
use Rattle.epoch_catalog.proofs.Heads.{heads_last}

pub all_fronts : (P : LineValues → Type 0) (xs ys : List LineValues) → AllByRecursion P (xs ++ ys) → AllByRecursion P xs
all_fronts P [] ys all = tt
all_fronts P (x ∷ xs) ys all = (all.0, all_fronts P xs ys all.1)

all_backs : (P : LineValues → Type 0) (xs ys : List LineValues) → AllByRecursion P (xs ++ ys) → AllByRecursion P ys
all_backs P [] ys all = all
all_backs P (x ∷ xs) ys all = all_backs P xs ys all.1

all_both : (P : LineValues → Type 0) (xs ys : List LineValues) → AllByRecursion P xs → AllByRecursion P ys → AllByRecursion P (xs ++ ys)
all_both P [] ys all more = more
all_both P (x ∷ xs) ys all more = (all.0, all_both P xs ys all.1 more)

pub sorted_front : (xs ys : List LineValues) → IsStrictlySortedBy line_cmp (xs ++ ys) → IsStrictlySortedBy line_cmp xs
unfolding IsStrictlySortedBy
sorted_front [] ys up = tt
sorted_front (x ∷ xs) ys up = (all_fronts (λ y. line_cmp x y ≡ Less) xs ys up.0, sorted_front xs ys up.1)

pub sorted_back : (xs ys : List LineValues) → IsStrictlySortedBy line_cmp (xs ++ ys) → IsStrictlySortedBy line_cmp ys
sorted_back [] ys up = up
sorted_back (x ∷ xs) ys up = sorted_back xs ys (sorted_tail line_cmp x (xs ++ ys) up)

all_lower : (e top : LineValues) (xs : List LineValues) → line_cmp e top ≡ Less → AllByRecursion (λ x. line_cmp x e ≡ Less) xs → AllByRecursion (λ x. line_cmp x top ≡ Less) xs
all_lower e top [] less all = tt
all_lower e top (x ∷ xs) less all = (lines_total.trans x e top all.0 less, all_lower e top xs less all.1)

all_lasts : (P : LineValues → Type 0) (xs : List LineValues) → AllByRecursion P xs → AllByRecursion P (last_lines xs)
all_lasts P [] all = tt
all_lasts P (x ∷ xs) all =
    elim (is_replaced xs x) as (λ b. AllByRecursion P (cond b (last_lines xs) (x ∷ last_lines xs))) [
      | true ↦ all_lasts P xs all.1
      | false ↦ (all.0, all_lasts P xs all.1)
    ]

all_filter : (P : LineValues → Type 0) (p : LineValues → Bool) (xs : List LineValues) → AllByRecursion P xs → AllByRecursion P (filter p xs)
all_filter P p [] all = tt
all_filter P p (x ∷ xs) all =
    elim (p x) as (λ b. AllByRecursion P (cond b (x ∷ filter p xs) (filter p xs))) [
      | true ↦ (all.0, all_filter P p xs all.1)
      | false ↦ all_filter P p xs all.1
    ]

-- a line greater than all others becomes the last
line_last : (xs : List LineValues) (e : LineValues) → AllByRecursion (λ x. line_cmp x e ≡ Less) xs → live_lines (xs ++ e ∷ []) ≡ live_lines xs ++ (if is_said e then e ∷ [] else [])
line_last xs e below =
    let live = live_lines xs in
    let all = all_in_order line_cmp (λ x. line_cmp x e ≡ Less) [] (filter is_said (last_lines xs)) tt (all_filter (λ x. line_cmp x e ≡ Less) is_said (last_lines xs) (all_lasts (λ x. line_cmp x e ≡ Less) xs below)) in
    sym (live_lines_go_on xs (e ∷ []))
    ∙ with_line_is live e (live_sorted xs) (live_says xs)
    ∙ ap (λ ls. cond (is_said e) (insert_key line_cmp ls e) ls) (no_other_gone e live (none_below live e all))
    ∙ elim (is_said e) as (λ b. cond b (insert_key line_cmp live e) live ≡ live ++ cond b (e ∷ []) []) [
      | true ↦ put_last live e all
      | false ↦ sym (append-nil live)
    ]

-- lists with the same last line of each key
same_live : (xs ys : List LineValues) → ((q : LineValues) → last_of line_cmp q xs ≡ last_of line_cmp q ys) → live_lines xs ≡ live_lines ys
same_live xs ys same =
    same_lists lines_total (live_lines xs) (live_lines ys) (live_sorted xs) (live_sorted ys)
    (λ q. live_first q xs ∙ ap (option_filter is_said) (same q) ∙ sym (live_first q ys))

-- a line behind lines of other keys instead of before them
last_turned : (q : LineValues) (xs : List LineValues) (x : LineValues) (ys : List LineValues) → AllByRecursion (λ y. line_cmp y x ≡ Less) ys → last_of line_cmp q (xs ++ x ∷ ys) ≡ last_of line_cmp q ((xs ++ ys) ++ x ∷ [])
last_turned q xs x ys below =
    let front = last_of line_cmp q xs in
    let back = last_of line_cmp q ys in
    last_append line_cmp q xs (x ∷ ys)
    ∙ elim (is_eq (line_cmp q x)) as (λ b. is_eq (line_cmp q x) ≡ b → option_or (option_or back (cond b (Some x) None)) front ≡ option_or (cond b (Some x) None) (option_or back front)) [
      | true ↦ λ t.
          (let none = last_alike lines_total q x ys (is_equal (line_cmp q x) t) ∙ none_there (last_of line_cmp x ys) (sym (any_last line_cmp x ys) ∙ none_below ys x below) in
          ap (λ a. option_or (option_or a (Some x)) front) none)
      | false ↦ λ _. ap (λ a. option_or a front) (or_none back)
    ] refl
    ∙ sym (last_append line_cmp q (xs ++ ys) (x ∷ []) ∙ ap (option_or (cond (is_eq (line_cmp q x)) (Some x) None)) (last_append line_cmp q xs ys))

one_moved : (xs : List LineValues) (x : LineValues) (ys : List LineValues) → AllByRecursion (λ y. line_cmp y x ≡ Less) xs → is_said x ≡ true → AllByRecursion (λ y. line_cmp y x ≡ Less) ys
    → live_lines ((xs ++ x ∷ []) ++ ys) ≡ live_lines (xs ++ ys) ++ x ∷ []
one_moved xs x ys below said under =
    ap live_lines (append_one xs x ys)
    ∙ same_live (xs ++ x ∷ ys) ((xs ++ ys) ++ x ∷ []) (λ q. last_turned q xs x ys under)
    ∙ line_last (xs ++ ys) x (all_both (λ y. line_cmp y x ≡ Less) xs ys below under)
    ∙ ap (λ b. live_lines (xs ++ ys) ++ cond b (x ∷ []) []) said

-- the last live lines, where they are greater than all others and than the heads
all_moved : (xs more ys : List LineValues) → IsStrictlySortedBy line_cmp (xs ++ more) → AllByRecursion (λ x. is_said x ≡ true) more → AllByRecursion (λ x. AllByRecursion (λ y. line_cmp y x ≡ Less) ys) more
    → live_lines ((xs ++ more) ++ ys) ≡ live_lines (xs ++ ys) ++ more
all_moved xs [] ys up said under = ap (λ ls. live_lines (ls ++ ys)) (append-nil xs) ∙ sym (append-nil (live_lines (xs ++ ys)))
all_moved xs (x ∷ more) ys up said under =
    let joined = append_one xs x more in
    ap (λ ls. live_lines (ls ++ ys)) (sym joined)
    ∙ all_moved (xs ++ x ∷ []) more ys (subst (IsStrictlySortedBy line_cmp) (sym joined) up) said.1 under.1
    ∙ ap (λ ls. ls ++ more) (one_moved xs x ys (below_middle xs x more up) said.0 under.0)
    ∙ append_one (live_lines (xs ++ ys)) x more

some_stays : {E : Type 0} (a w : Option E) → is_some a ≡ true → option_or a w ≡ a
some_stays None w h = (cc)
some_stays (Some x) w h = refl

last_hidden : (q x : LineValues) (ys : List LineValues) → is_replaced ys x ≡ true → last_of line_cmp q (x ∷ ys) ≡ last_of line_cmp q ys
last_hidden q x ys h =
    elim (is_eq (line_cmp q x)) as (λ b. is_eq (line_cmp q x) ≡ b → option_or (last_of line_cmp q ys) (cond b (Some x) None) ≡ last_of line_cmp q ys) [
      | true ↦ λ t. some_stays (last_of line_cmp q ys) (Some x) (ap is_some (last_alike lines_total q x ys (is_equal (line_cmp q x) t)) ∙ sym (any_last line_cmp x ys) ∙ h)
      | false ↦ λ _. or_none (last_of line_cmp q ys)
    ] refl

-- lines that others replace
all_dropped : (xs gone ys : List LineValues) → AllByRecursion (λ x. is_replaced ys x ≡ true) gone → live_lines ((xs ++ gone) ++ ys) ≡ live_lines (xs ++ ys)
all_dropped xs [] ys over = ap (λ ls. live_lines (ls ++ ys)) (append-nil xs)
all_dropped xs (x ∷ gone) ys over =
    ap (λ ls. live_lines (ls ++ ys)) (sym (append_one xs x gone))
    ∙ all_dropped (xs ++ x ∷ []) gone ys over.1
    ∙ ap live_lines (append_one xs x ys)
    ∙ same_live (xs ++ x ∷ ys) (xs ++ ys) (λ q.
    last_append line_cmp q xs (x ∷ ys) ∙ ap (λ a. option_or a (last_of line_cmp q xs)) (last_hidden q x ys over.0) ∙ sym (last_append line_cmp q xs ys))

all_over : (heads : List LineValues) (head : LineValues) (gone : List LineValues) → AllByRecursion (λ x. line_cmp x head ≡ Equal) gone → AllByRecursion (λ x. is_replaced (heads ++ head ∷ []) x ≡ true) gone
all_over heads head [] same = tt
all_over heads head (x ∷ gone) same = (
  list_any-append (have_one_key x) heads (head ∷ [])
      ∙ ap (λ o. list_any (have_one_key x) heads || (is_eq o || false)) same.0
      ∙ or_true (list_any (have_one_key x) heads),
  all_over heads head gone same.1,
)
  where
    or_true : (b : Bool) → (b || true) ≡ true
    or_true true = refl
    or_true false = refl

all_under : (heads : List LineValues) (head : LineValues) (more : List LineValues) → IsStrictlySortedBy line_cmp (heads ++ head ∷ []) → AllByRecursion (λ x. line_cmp x head ≡ Greater) more
    → AllByRecursion (λ x. AllByRecursion (λ y. line_cmp y x ≡ Less) (heads ++ head ∷ [])) more
all_under heads head [] up above = tt
all_under heads head (x ∷ more) up above =
    let less : line_cmp head x ≡ Less = lines_total.antisymm head x ∙ ap ordering_reverse above.0 in (
      all_both (λ y. line_cmp y x ≡ Less) heads (head ∷ []) (all_lower head x heads less (below_middle heads head [] up)) (less, tt),
      all_under heads head more up above.1,
    )

turned : (behind more : List LineValues) (head : LineValues) (b : Bool) → reverse ((behind ++ reverse more) ++ cond b (head ∷ []) []) ≡ cond b (head ∷ []) [] ++ (more ++ reverse behind)
turned behind more head b =
    reverse-append (behind ++ reverse more) (cond b (head ∷ []) [])
    ∙ ap (λ ls. ls ++ reverse (behind ++ reverse more)) (elim b as (λ b. reverse (cond b (head ∷ []) []) ≡ cond b (head ∷ []) []) [ true ↦ refl | false ↦ refl ])
    ∙ ap (λ ls. cond b (head ∷ []) [] ++ ls) (reverse-append behind (reverse more) ∙ ap (λ ls. ls ++ reverse behind) (reverse-reverse more))

-- the live lines that are still to come and the lines behind are the whole, and both lists are in order
pub record AreMerging (whole live heads behind : List LineValues) : Type 0 where
  pub same : live_lines (live ++ heads) ++ reverse behind ≡ whole
  pub rises : IsStrictlySortedBy line_cmp live
  pub states : AllByRecursion (λ l. is_said l ≡ true) live
  pub heads_rise : IsStrictlySortedBy line_cmp heads

-- the live lines where the greater ones have moved and those of the head's key are dropped
pub one_head : (live heads : List LineValues) (head : LineValues) (more gone rest : List LineValues) → live ≡ (rest ++ gone) ++ more → IsStrictlySortedBy line_cmp live → AllByRecursion (λ l. is_said l ≡ true) live
    → IsStrictlySortedBy line_cmp (heads ++ head ∷ []) → AllByRecursion (λ l. line_cmp l head ≡ Greater) more → AllByRecursion (λ l. line_cmp l head ≡ Equal) gone → AllByRecursion (λ l. line_cmp l head ≡ Less) rest
    → live_lines (live ++ (heads ++ head ∷ [])) ≡ (live_lines (rest ++ heads) ++ (if is_said head then head ∷ [] else [])) ++ more
one_head live heads head more gone rest is up said heads_up above same below =
    let all = heads ++ head ∷ [] in
    ap (λ ls. live_lines (ls ++ all)) is
    ∙ all_moved (rest ++ gone) more all (subst (IsStrictlySortedBy line_cmp) is up) (all_backs (λ l. is_said l ≡ true) (rest ++ gone) more (subst (AllByRecursion (λ l. is_said l ≡ true)) is said)) (all_under heads head more heads_up above)
    ∙ ap (λ ls. ls ++ more)
    (all_dropped rest gone all (all_over heads head gone same)
    ∙ ap live_lines (sym (append_assoc rest heads (head ∷ [])))
    ∙ line_last (rest ++ heads) head (all_both (λ l. line_cmp l head ≡ Less) rest heads below (below_middle heads head [] heads_up)))

-- one head taken
pub step : (whole live heads behind : List LineValues) (head : LineValues) (kept rest after : List LineValues) → AreMerging whole live (heads ++ head ∷ []) behind → AreMoved head live kept behind after → AreBefore head kept rest
    → AreMerging whole rest heads (after ++ (if is_said head then head ∷ [] else []))
step whole live heads behind head kept rest after w m d =
    let more = m.moved in
    let top = cond (is_said head) (head ∷ []) [] in
    let is : live ≡ (rest ++ d.dropped) ++ more = m.split ∙ ap (λ ls. ls ++ more) d.split in
    let live_up = subst (IsStrictlySortedBy line_cmp) is w.rises in
    let said = subst (AllByRecursion (λ l. is_said l ≡ true)) is w.states in
    let front = live_lines (rest ++ heads) in
    record {
      same =
          ap (λ ls. front ++ reverse (ls ++ top)) m.put
          ∙ ap (λ ls. front ++ ls) (turned behind more head (is_said head))
          ∙ sym (append_assoc front top (more ++ reverse behind))
          ∙ sym (append_assoc (front ++ top) more (reverse behind))
          ∙ ap (λ ls. ls ++ reverse behind) (sym (one_head live heads head more d.dropped rest is w.rises w.states w.heads_rise m.above d.same d.below))
          ∙ w.same;
      rises = sorted_front rest d.dropped (sorted_front (rest ++ d.dropped) more live_up);
      states = all_fronts (λ l. is_said l ≡ true) rest d.dropped (all_fronts (λ l. is_said l ≡ true) (rest ++ d.dropped) more said);
      heads_rise = sorted_front heads (head ∷ []) w.heads_rise;
    }

-- where no head is left
pub end : (whole live behind : List LineValues) → AreMerging whole live [] behind → live ++ reverse behind ≡ whole
end whole live behind w =
    ap (λ ls. ls ++ reverse behind) (sym (live_again live w.rises w.states) ∙ ap live_lines (sym (append-nil live))) ∙ w.same

-- the heads say of live lines what all new lines do
pub same_heads : (live lines heads : List LineValues) → IsPermutation (reverse (last_lines lines)) heads → IsStrictlySortedBy line_cmp heads → live_lines (live ++ heads) ≡ live_lines (live ++ lines)
same_heads live lines heads moved up =
    same_live (live ++ heads) (live ++ lines) (λ q.
    last_append line_cmp q live heads ∙ ap (λ a. option_or a (last_of line_cmp q live)) (heads_last q lines heads moved up) ∙ sym (last_append line_cmp q live lines))

-- where there is a last line
pub place_of_last : (xs : List LineValues) (x head : LineValues) → last_place (xs ++ x ∷ []) head ≡ line_cmp x head
place_of_last [] x head = refl
place_of_last (y ∷ []) x head = refl
place_of_last (y ∷ z ∷ xs) x head = place_of_last (z ∷ xs) x head

all_level : (x head : LineValues) (xs : List LineValues) → line_cmp x head ≡ Equal → AllByRecursion (λ y. line_cmp y x ≡ Less) xs → AllByRecursion (λ y. line_cmp y head ≡ Less) xs
all_level x head [] e all = tt
all_level x head (y ∷ xs) e all = (sym (alike_right lines_total x head y e) ∙ all.0, all_level x head xs e all.1)

-- where the last line has the head's key
pub same_dropped : (xs : List LineValues) (x head : LineValues) → IsStrictlySortedBy line_cmp (xs ++ x ∷ []) → line_cmp x head ≡ Equal → AreBefore head (xs ++ x ∷ []) xs
same_dropped xs x head up e =
    record { dropped = x ∷ []; split = refl; same = (e, tt); below = all_level x head xs e (below_middle xs x [] up) }

all_before : (head : LineValues) (xs : List LineValues) → IsStrictlySortedBy line_cmp xs → last_place xs head ≡ Less → AllByRecursion (λ y. line_cmp y head ≡ Less) xs
all_before head [] up less = tt
all_before head (x ∷ []) up less = (less, tt)
all_before head (x ∷ y ∷ xs) up less =
    let rest = all_before head (y ∷ xs) (sorted_tail line_cmp x (y ∷ xs) up) less in
    let first = sorted_head line_cmp x (y ∷ xs) up in
    (lines_total.trans x y head first.0 rest.0, rest)

-- where it hasn't
pub none_dropped : (xs : List LineValues) (head : LineValues) → IsStrictlySortedBy line_cmp xs → last_place xs head ≡ Less → AreBefore head xs xs
none_dropped xs head up less =
    record { dropped = []; split = sym (append-nil xs); same = tt; below = all_before head xs up less }

-- one line more moves
pub one_more_moved : (head : LineValues) (lines kept behind after : List LineValues) (x : LineValues) → AreMoved head lines (kept ++ x ∷ []) behind after → line_cmp x head ≡ Greater → AreMoved head lines kept behind (after ++ x ∷ [])
one_more_moved head lines kept behind after x m above = record {
  moved = x ∷ m.moved;
  split = m.split ∙ append_one kept x m.moved;
  put = ap (λ ls. ls ++ x ∷ []) m.put ∙ append_assoc behind (reverse m.moved) (x ∷ []) ∙ ap (λ ls. behind ++ ls) (sym (reverse-append (x ∷ []) m.moved));
  above = (above, m.above);
}

-- what stays of lines in order is in order
pub kept_rises : (head : LineValues) (lines kept behind after : List LineValues) → AreMoved head lines kept behind after → IsStrictlySortedBy line_cmp lines → IsStrictlySortedBy line_cmp kept
kept_rises head lines kept behind after m up = sorted_front kept m.moved (subst (IsStrictlySortedBy line_cmp) m.split up)

pub less_left : (o : Ordering) → is_gt o ≡ false → is_eq o ≡ false → o ≡ Less
less_left Less h k = refl
less_left Equal h k = (cc)
less_left Greater h k = (cc)

pub is_greater : (o : Ordering) → is_gt o ≡ true → o ≡ Greater
is_greater Less h = (cc)
is_greater Equal h = (cc)
is_greater Greater h = refl

pub one_taken : {X : Type 0} (f : X → LineValues) (xs ys : List X) (x : X) → xs ≡ ys ++ x ∷ [] → map f xs ≡ map f ys ++ f x ∷ []
one_taken f xs ys x is = ap (map f) is ∙ map-append f ys (x ∷ [])

pub map_reversed : {X : Type 0} (f : X → LineValues) (xs : List X) → map f (reverse xs) ≡ reverse (map f xs)
map_reversed f [] = refl
map_reversed f (x ∷ xs) =
    ap (map f) (reverse-append (x ∷ []) xs) ∙ map-append f (reverse xs) (x ∷ []) ∙ ap (λ ls. ls ++ f x ∷ []) (map_reversed f xs) ∙ sym (reverse-append (f x ∷ []) (map f xs))

-- no more lines are the last of their keys than there are
pub few_last : (lines : List LineValues) → length (last_lines lines) ≤ length lines
few_last [] = omega arith
few_last (e ∷ later) =
    let few = few_last later in
    elim (is_replaced later e) as (λ b. length (if b then last_lines later else e ∷ last_lines later) ≤ length (e ∷ later)) [
      | true ↦ omega (arith, few)
      | false ↦ omega (arith, few)
    ]
