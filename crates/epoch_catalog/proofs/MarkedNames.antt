-- Marks name by name: what the names keep while the heads of one more name are marked, and which marks a search finds.
use Rattle.std.proofs.Common.{◌≡◌, ℕ, zero, suc, ◌+◌, ◌-◌, ◌<◌, ◌≤◌, Bool, true, false, cond, List, [], ◌∷◌, ◌++◌, length, take, drop, get_or, Option, Some, None, refl, sym, ap, subst, ◌∙◌, arith, inl, inr, ◌⊎◌, Ordering}
use Rattle.std.specs.Prelude.{Contains, All}
use Rattle.std.specs.List.{AllByRecursion}
use Rattle.std.specs.List.Sorted.{IsStrictlySortedBy, IsPartitionPoint, IsSortedBy, IsNonDecreasingBy}
use Rattle.std.specs.Ordering.{is_lt, is_le, is_gt, ordering_index, ordering_reverse}
use Rattle.std.specs.declared.cmp.Ordering.TheVariants.{Less, Equal, Greater}
use Rattle.std.proofs.lemmas.Bool.{true≢false, cases_lt}
use Rattle.std.proofs.lemmas.Cmp.{tied_itself}
use Rattle.std.proofs.lemmas.List.{append_assoc, length-drop, length-append, length-take-le, get_or-drop, get_or-take, take-append-drop, take-append-le, drop-append-le, drop_at, take_all, get_or_default}
use Rattle.std.proofs.lemmas.List.Elements.{All-push, All-weaker, All-contains, All-drop, Contains-append_left, Contains-append_cases, Contains-push, recursion_from_All, All-from_recursion}
use Rattle.std.proofs.lemmas.List.Sorted.{searchable_from_sorted}
use Rattle.channel_globs.specs.Names.{name_cmp}
use Rattle.channel_globs.specs.declared.nslc.Nslc.{Nslc}
use Rattle.channel_globs.proofs.Names.{names_total, exact_names}
use Rattle.exact_time.specs.declared.moment.Moment.{Moment}
use Rattle.epoch_catalog.specs.Withdrawals.{AreRising, head_cmp, marks_from, marks_at, HasMark, IsGroup, IsGrouped}
use Rattle.epoch_catalog.specs.declared.withdrawals.Head.{Head}
use Rattle.epoch_catalog.specs.declared.withdrawals.Mark.{Mark}
use Rattle.epoch_catalog.specs.declared.withdrawals.NameMark.{NameMark}
use Rattle.epoch_catalog.proofs.Heads.{one_more}
use Rattle.epoch_catalog.proofs.MarkedHeads.{InOrder, order_behind, order_first, is_up_to, first_name, marks_rise, marks_length, each_marked}

-- the heads before the rest are marked under names, and the rest has later ones
pub record AreNamed (heads rest : List Head) (names : List NameMark) (ms : List Mark) : Type 0 where
  pub done : List Head
  pub split : heads ≡ done ++ rest
  pub order : InOrder rest
  pub rises : IsStrictlySortedBy (λ (a b : NameMark). name_cmp a.name b.name) names
  pub below : All (λ (n : NameMark). All (λ (h : Head). name_cmp n.name h.name ≡ Less) rest) names
  pub groups : All (IsGroup ms) names
  pub held : (h : Head) → Contains done h → IsGrouped names ms h

pub none_named : (heads : List Head) → InOrder heads → AreNamed heads heads [] []
unfolding IsStrictlySortedBy
none_named heads o = record {
  done = [];
  split = refl;
  order = o;
  rises = tt;
  below = λ k d lt. absurd (omega (arith, lt));
  groups = λ k d lt. absurd (omega (arith, lt));
  held = λ h there. absurd (let low = there.1 in omega (arith, low));
}

-- the marks of a name stay where others are added
kept_marks : (n : NameMark) (ms more : List Mark) → n.first + n.count ≤ length ms → marks_at n (ms ++ more) ≡ marks_at n ms
kept_marks n ms more fits =
    let size = length-drop n.first ms in
    ap (take n.count) (drop-append-le n.first ms more (omega (arith, fits))) ∙ take-append-le n.count (drop n.first ms) more (omega (arith, fits, size))

group_stays : (ms more : List Mark) (n : NameMark) → IsGroup ms n → IsGroup (ms ++ more) n
group_stays ms more n g = record {
  within = (let size = length-append ms more in let fits = g.within in omega (arith, size, fits));
  rises = subst AreRising (sym (kept_marks n ms more g.within)) g.rises;
}

-- the marks that are added are those of their name
new_marks : (n : NameMark) (ms more : List Mark) → n.first ≡ length ms → n.count ≡ length more → marks_at n (ms ++ more) ≡ more
new_marks n ms more first count =
    (λ i. take (count i) (drop (first i) (ms ++ more))) ∙ ap (take (length more)) (drop_at ms more (length ms) refl) ∙ take_all (length more) more (omega arith)

grouped_stays : (names : List NameMark) (n : NameMark) (ms more : List Mark) (h : Head) → All (IsGroup ms) names → IsGrouped names ms h → IsGrouped (names ++ n ∷ []) (ms ++ more) h
grouped_stays names n ms more h groups g = record {
  name = g.name;
  among = Contains-append_left names (n ∷ []) g.name g.among;
  same = g.same;
  has = subst (λ (own : List Mark). HasMark own h) (sym (kept_marks g.name ms more (All-contains (IsGroup ms) names g.name groups g.among).within)) g.has;
}

strict_push : (c : NameMark → NameMark → Ordering) (xs : List NameMark) (y : NameMark) → IsStrictlySortedBy c xs → All (λ (x : NameMark). c x y ≡ Less) xs → IsStrictlySortedBy c (xs ++ y ∷ [])
unfolding IsStrictlySortedBy
strict_push c [] y up below = (tt, tt)
strict_push c (x ∷ xs) y up below =
    let P : NameMark → Type 0 = λ z. c x z ≡ Less in
    (recursion_from_All P (xs ++ y ∷ []) (All-push P xs y (All-from_recursion P xs up.0) (below zero x (omega arith))), strict_push c xs y up.1 (λ k d lt. below (suc k) d (omega (arith, lt))))

-- the heads of one more name are marked
module _ (heads rest : List Head) (names : List NameMark) (ms : List Mark) (n : NameMark) (head : Head) (reach : Option Moment) (had : AreNamed heads rest names ms)
    (first : (d : Head) → get_or rest 0 d ≡ head) (named : n.name ≡ head.name) (begins : n.first ≡ length ms) (some : 0 < n.count) (fits : n.count ≤ length rest)
    (parts : IsPartitionPoint (λ h. is_up_to head.name h ≡ true) (λ h. is_up_to head.name h ≡ false) rest n.count) where
  abbrev run : List Head
  run = take n.count rest

  abbrev more : List Mark
  more = marks_from reach run

  run_length : length run ≡ n.count
  run_length = length-take-le n.count rest fits

  run_named : All (λ (h : Head). h.name ≡ head.name) run
  run_named = λ k d lt.
      let near : k < n.count = omega (arith, lt, run_length) in
      let at = get_or-take n.count rest k d near in
      let up : is_up_to (get_or rest 0 d).name (get_or rest k d) ≡ true = ap (λ (h : Head). is_up_to h.name (get_or rest k d)) (first d) ∙ parts.0 k d (omega arith) near in
      ap (λ (h : Head). h.name) at ∙ first_name rest had.order k d (omega (arith, near, fits)) up ∙ ap (λ (h : Head). h.name) (first d)

  behind_later : All (λ (h : Head). name_cmp n.name h.name ≡ Less) (drop n.count rest)
  behind_later = λ k d lt.
      let size = length-drop n.count rest in
      let at = get_or-drop n.count rest k d in
      let x = (get_or rest (n.count + k) d).name in
      let far : is_le (name_cmp x head.name) ≡ false = parts.1 (n.count + k) d (omega arith) (omega (arith, lt, size)) in
      ap (λ (h : Head). name_cmp n.name h.name) at ∙ ap (λ (m : Nslc). name_cmp m x) named ∙ names_total.antisymm head.name x ∙ less_turned (name_cmp x head.name) far
    where
      less_turned : (o : Ordering) → is_le o ≡ false → ordering_reverse o ≡ Less
      less_turned Less h = absurd (true≢false h)
      less_turned Equal h = absurd (true≢false h)
      less_turned Greater h = refl

  names_below : All (λ (x : NameMark). name_cmp x.name n.name ≡ Less) names
  names_below = λ k d lt. ap (λ (m : Nslc). name_cmp (get_or names k d).name m) (named ∙ ap (λ (h : Head). h.name) (sym (first head))) ∙ had.below k d lt 0 head (omega (arith, some, fits))

  own : marks_at n (ms ++ more) ≡ more
  own = new_marks n ms more begins (sym (marks_length reach run ∙ run_length))

  new_group : IsGroup (ms ++ more) n
  new_group = record {
    within = (let size = length-append ms more in let long = marks_length reach run in omega (arith, size, long, run_length, begins));
    rises = subst AreRising (sym own) (marks_rise head.name reach run (order_first n.count rest fits had.order) run_named);
  }

  run_held : (h : Head) → Contains run h → IsGrouped (names ++ n ∷ []) (ms ++ more) h
  run_held h there = record {
    name = n;
    among = Contains-push names n;
    same = named ∙ sym (All-contains (λ (x : Head). x.name ≡ head.name) run h run_named there);
    has = subst (λ (its : List Mark). HasMark its h) (sym own) (each_marked reach run h there);
  }

  pub one_named : AreNamed heads (drop n.count rest) (names ++ n ∷ []) (ms ++ more)
  one_named = record {
    done = had.done ++ run;
    split = had.split ∙ ap (λ (l : List Head). had.done ++ l) (sym (take-append-drop n.count rest)) ∙ sym (append_assoc had.done run (drop n.count rest));
    order = order_behind n.count rest had.order;
    rises = strict_push (λ a b. name_cmp a.name b.name) names n had.rises names_below;
    below = All-push (λ (x : NameMark). All (λ (h : Head). name_cmp x.name h.name ≡ Less) (drop n.count rest)) names n
        (λ k d lt. All-drop (λ (h : Head). name_cmp (get_or names k d).name h.name ≡ Less) n.count rest (had.below k d lt)) behind_later;
    groups = All-push (IsGroup (ms ++ more)) names n (All-weaker (IsGroup ms) (IsGroup (ms ++ more)) (λ x g. group_stays ms more x g) names had.groups) new_group;
    held = λ h there. elim (Contains-append_cases had.done run h there) [
      | inl before ↦ grouped_stays names n ms more h had.groups (had.held h before)
      | inr now ↦ run_held h now
    ];
  }

apart : (a b : NameMark) → a.name ≡ b.name → name_cmp a.name b.name ≡ Less → ⊥
apart a b is less =
    let tied = ap (λ (m : Nslc). name_cmp a.name m) (sym is) ∙ tied_itself names_total a.name in
    let both : Less ≡ Equal = sym less ∙ tied in
    cc

-- a name is that of one element alone
one_place : (names : List NameMark) → IsStrictlySortedBy (λ (a b : NameMark). name_cmp a.name b.name) names → (i j : ℕ) (d : NameMark) → i < length names → j < length names
    → (get_or names i d).name ≡ (get_or names j d).name → get_or names i d ≡ get_or names j d
unfolding IsStrictlySortedBy
one_place [] up i j d li lj same = absurd (omega (arith, li))
one_place (x ∷ xs) up zero zero d li lj same = refl
one_place (x ∷ xs) up zero (suc j) d li lj same =
    absurd (apart x (get_or xs j d) same (All-from_recursion (λ (y : NameMark). name_cmp x.name y.name ≡ Less) xs up.0 j d (omega (arith, lj))))
one_place (x ∷ xs) up (suc i) zero d li lj same =
    absurd (apart x (get_or xs i d) (sym same) (All-from_recursion (λ (y : NameMark). name_cmp x.name y.name ≡ Less) xs up.0 i d (omega (arith, li))))
one_place (x ∷ xs) up (suc i) (suc j) d li lj same = one_place xs up.1 i j d (omega (arith, li)) (omega (arith, lj)) same

-- the name that a search finds is the one that is there
pub found_name : (names : List NameMark) (name : Nslc) (i : ℕ) (found n : NameMark) → IsStrictlySortedBy (λ (a b : NameMark). name_cmp a.name b.name) names → i < length names
    → found ≡ get_or names i found → ((d : NameMark) → name_cmp (get_or names i d).name name ≡ Equal) → Contains names n → n.name ≡ name → found ≡ n
found_name names name i found n up lt is at there same =
    let here : (get_or names i n).name ≡ name = exact_names (get_or names i n).name name (at n) in
    is ∙ get_or_default names i found n lt
    ∙ one_place names up i there.0 n lt there.1 (here ∙ sym same ∙ ap (λ (m : NameMark). m.name) (sym there.2))
    ∙ there.2

sorted_names : (names : List NameMark) → IsStrictlySortedBy (λ (a b : NameMark). name_cmp a.name b.name) names → IsSortedBy (λ (a b : NameMark). is_lt (name_cmp a.name b.name)) names
unfolding IsStrictlySortedBy
sorted_names [] up k d low high = absurd (omega (arith, high))
sorted_names (x ∷ []) up k d low high = absurd (omega (arith, high))
sorted_names (x ∷ y ∷ names) up zero d low high = ap is_lt (names_total.antisymm y.name x.name ∙ ap ordering_reverse up.0.0)
sorted_names (x ∷ y ∷ names) up (suc k) d low high =
    subst (λ (i : ℕ). is_lt (name_cmp (get_or (x ∷ y ∷ names) i d).name (get_or (y ∷ names) k d).name) ≡ false) (sym (one_more k)) (sorted_names (y ∷ names) up.1 k d (omega arith) (omega (arith, high)))

pub names_searchable : (name : Nslc) (names : List NameMark) → IsStrictlySortedBy (λ (a b : NameMark). name_cmp a.name b.name) names
    → IsNonDecreasingBy (λ (n : NameMark). ordering_index (name_cmp n.name name)) names
names_searchable name names up = searchable_from_sorted names_total (λ (n : NameMark). n.name) names name (sorted_names names up)

-- where a search finds no name, there is none
pub no_name : (names : List NameMark) (name : Nslc) (i : ℕ) (n : NameMark) → IsPartitionPoint (λ (x : NameMark). name_cmp x.name name ≡ Less) (λ (x : NameMark). name_cmp x.name name ≡ Greater) names i
    → Contains names n → n.name ≡ name → ⊥
no_name names name i n parts there same =
    let tied : name_cmp (get_or names there.0 n).name name ≡ Equal =
    ap (λ (x : NameMark). name_cmp x.name name) there.2 ∙ ap (λ (m : Nslc). name_cmp n.name m) (sym same) ∙ tied_itself names_total n.name in
    elim (cases_lt there.0 i) as (λ _. ⊥) [
      | inl low ↦ (let less = parts.0 there.0 n (omega arith) low in let both : Less ≡ Equal = sym less ∙ tied in cc)
      | inr high ↦ (let more = parts.1 there.0 n high there.1 in let both : Greater ≡ Equal = sym more ∙ tied in cc)
    ]

-- the first head is up to its own name
pub some_first : (rest : List Head) (head : Head) (count : ℕ) → ((d : Head) → get_or rest 0 d ≡ head) → 0 < length rest
    → IsPartitionPoint (λ h. is_up_to head.name h ≡ true) (λ h. is_up_to head.name h ≡ false) rest count → 0 < count
some_first rest head zero first some parts =
    let up : is_up_to head.name (get_or rest 0 head) ≡ true = ap (λ (h : Head). is_up_to head.name h) (first head) ∙ ap is_le (tied_itself names_total head.name) in
    absurd (true≢false (sym up ∙ parts.1 0 head (omega arith) some))
some_first rest head (suc count) first some parts = omega arith
