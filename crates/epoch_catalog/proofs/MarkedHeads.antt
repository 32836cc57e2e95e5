-- Heads in order, and the marks of those of one name: they rise, and each head has one.
use Rattle.std.proofs.Common.{◌≡◌, ℕ, zero, suc, ◌+◌, ◌-◌, ◌<◌, ◌≤◌, ℤ, Bool, true, false, cond, List, [], ◌∷◌, ◌++◌, length, take, drop, get_or, Option, Some, None, refl, sym, ap, subst, ◌∙◌, arith, Ordering}
use Rattle.std.specs.Prelude.{Contains, All, int_le}
use Rattle.std.specs.List.{AllByRecursion}
use Rattle.std.specs.List.Sorted.{IsSortedBy, IsPartitionedBy}
use Rattle.std.specs.Cmp.{IsTotalOrder}
use Rattle.std.specs.Ordering.{int_cmp, is_lt, is_le, is_gt, ordering_then, ordering_reverse}
use Rattle.std.specs.declared.cmp.Ordering.TheVariants.{Less, Equal, Greater}
use Rattle.std.proofs.lemmas.Bool.{true≢false}
use Rattle.std.proofs.lemmas.Cmp.{then_total, int_cmp_total, upto, tied_itself}
use Rattle.std.proofs.lemmas.Int.{ints}
use Rattle.std.proofs.lemmas.List.{length-drop, length-take-le, get_or-drop, get_or-take}
use Rattle.std.proofs.lemmas.List.Elements.{recursion_from_All, All-tail}
use Rattle.std.proofs.lemmas.List.Sorted.{ranks_by, sorted_far}
use Rattle.channel_globs.specs.Names.{name_cmp}
use Rattle.channel_globs.specs.declared.nslc.Nslc.{Nslc}
use Rattle.channel_globs.proofs.Names.{names_total, exact_names}
use Rattle.exact_time.specs.declared.moment.Moment.{Moment}
use Rattle.epoch_catalog.specs.Withdrawals.{micros_of, ends_by, AreRising, head_cmp, later, marks_from, HasMark}
use Rattle.epoch_catalog.specs.declared.withdrawals.Head.{Head}
use Rattle.epoch_catalog.specs.declared.withdrawals.Mark.{Mark}
use Rattle.epoch_rules.proofs.Orders.{total_on}
use Rattle.epoch_catalog.proofs.FamilyPlaces.{le_not_gt, not_gt_le}

pub heads_total : IsTotalOrder head_cmp
heads_total = then_total (total_on (λ (h : Head). h.name) names_total) (total_on (λ (h : Head). h.start.micros) int_cmp_total)

-- no head is before one that stands before it
abbrev pub InOrder : List Head → Type 0
InOrder hs = (i j : ℕ) (d : Head) → i ≤ j → j < length hs → is_lt (head_cmp (get_or hs j d) (get_or hs i d)) ≡ false

pub sorted_order : (hs : List Head) → IsSortedBy (λ a b. is_lt (head_cmp a b)) hs → InOrder hs
sorted_order hs up = λ i j d le lt. sorted_far (λ a b. is_lt (head_cmp a b)) (ranks_by heads_total (λ (h : Head). h)) hs up i j d le lt

pub order_behind : (n : ℕ) (hs : List Head) → InOrder hs → InOrder (drop n hs)
order_behind n hs o = λ i j d le lt.
    let size = length-drop n hs in
    (λ k. is_lt (head_cmp (get_or-drop n hs j d k) (get_or-drop n hs i d k))) ∙ o (n + i) (n + j) d (omega (arith, le)) (omega (arith, lt, size))

pub order_first : (n : ℕ) (hs : List Head) → n ≤ length hs → InOrder hs → InOrder (take n hs)
order_first n hs fits o = λ i j d le lt.
    let size = length-take-le n hs fits in
    let near : j < n = omega (arith, lt, size) in
    (λ k. is_lt (head_cmp (get_or-take n hs j d near k) (get_or-take n hs i d (omega (arith, le, near)) k))) ∙ o i j d le (omega (arith, near, fits))

order_tail : (h : Head) (hs : List Head) → InOrder (h ∷ hs) → InOrder hs
order_tail h hs o = λ i j d le lt. o (suc i) (suc j) d (omega (arith, le)) (omega (arith, lt))

first_part : (a b : Ordering) → is_lt (ordering_then a b) ≡ false → is_lt a ≡ false
first_part Less b h = h
first_part Equal b h = refl
first_part Greater b h = refl

second_part : (a b : Ordering) → a ≡ Equal → is_lt (ordering_then a b) ≡ false → is_lt b ≡ false
second_part Less b e h = absurd (cc)
second_part Equal b e h = h
second_part Greater b e h = absurd (cc)

turned_up : (o : Ordering) → is_lt o ≡ false → is_gt (ordering_reverse o) ≡ false
turned_up Less h = h
turned_up Equal h = refl
turned_up Greater h = refl

even : (o : Ordering) → is_le o ≡ true → is_lt o ≡ false → o ≡ Equal
even Less h k = absurd (true≢false k)
even Equal h k = refl
even Greater h k = absurd (true≢false (sym h))

-- the names of heads in order don't fall
later_name : (hs : List Head) → InOrder hs → (i j : ℕ) (d : Head) → i ≤ j → j < length hs → is_lt (name_cmp (get_or hs j d).name (get_or hs i d).name) ≡ false
later_name hs o i j d le lt = first_part (name_cmp (get_or hs j d).name (get_or hs i d).name) (int_cmp (get_or hs j d).start.micros (get_or hs i d).start.micros) (o i j d le lt)

-- a head has this name or one before it
abbrev pub is_up_to : Nslc → Head → Bool
is_up_to n h = is_le (name_cmp h.name n)

pub parted_names : (n : Nslc) (hs : List Head) → InOrder hs → IsPartitionedBy (is_up_to n) hs
parted_names n hs o = λ i j d le lt h.
    let a = (get_or hs i d).name in
    let b = (get_or hs j d).name in
    let risen : is_gt (name_cmp a b) ≡ false = ap is_gt (names_total.antisymm a b) ∙ turned_up (name_cmp b a) (later_name hs o i j d le lt) in
    not_gt_le (name_cmp a n) (upto names_total a b n risen (le_not_gt (name_cmp b n) h))

-- of heads in order those up to the first one's name have it
pub first_name : (hs : List Head) → InOrder hs → (k : ℕ) (d : Head) → k < length hs → is_up_to (get_or hs 0 d).name (get_or hs k d) ≡ true → (get_or hs k d).name ≡ (get_or hs 0 d).name
first_name hs o k d lt h =
    exact_names (get_or hs k d).name (get_or hs 0 d).name (even (name_cmp (get_or hs k d).name (get_or hs 0 d).name) h (later_name hs o 0 k d (omega arith) lt))

ends_trans : (a b c : Option ℤ) → ends_by a b ≡ true → ends_by b c ≡ true → ends_by a c ≡ true
ends_trans a b None h k = refl
ends_trans a None (Some t) h k = absurd (true≢false (sym k))
ends_trans None (Some s) (Some t) h k = absurd (true≢false (sym h))
ends_trans (Some r) (Some s) (Some t) h k = grind (arith, ints)

reaches_first : (r e : Option Moment) → ends_by (micros_of r) (micros_of (later r e)) ≡ true
reaches_first None e = refl
reaches_first (Some s) None = refl
reaches_first (Some s) (Some t) = first_of_two (int_le s.micros t.micros) refl
  where
    first_of_two : (b : Bool) → int_le s.micros t.micros ≡ b → int_le s.micros (cond b t s).micros ≡ true
    first_of_two true is = is
    first_of_two false is = grind (arith, ints)

reaches_second : (r e : Option Moment) → ends_by (micros_of e) (micros_of (later r e)) ≡ true
reaches_second None e = refl
reaches_second (Some s) None = refl
reaches_second (Some s) (Some t) = second_of_two (int_le s.micros t.micros) refl
  where
    second_of_two : (b : Bool) → int_le s.micros t.micros ≡ b → int_le t.micros (cond b t s).micros ≡ true
    second_of_two true is = grind (arith, ints)
    second_of_two false is = grind (arith, ints)

-- marks reach what those before them reach
reach_grows : (reach from : Option Moment) (hs : List Head) → ends_by (micros_of from) (micros_of reach) ≡ true
    → AllByRecursion (λ (m : Mark). ends_by (micros_of from) (micros_of m.reach) ≡ true) (marks_from reach hs)
reach_grows reach from [] h = tt
reach_grows reach from (x ∷ hs) h =
    let more = ends_trans (micros_of from) (micros_of reach) (micros_of (later reach x.end)) h (reaches_first reach x.end) in
    (more, reach_grows (later reach x.end) from hs more)

starts_above : (start : ℤ) (reach : Option Moment) (hs : List Head) → AllByRecursion (λ (h : Head). int_le start h.start.micros ≡ true) hs
    → AllByRecursion (λ (m : Mark). int_le start m.start.micros ≡ true) (marks_from reach hs)
starts_above start reach [] h = tt
starts_above start reach (x ∷ hs) h = (h.0, starts_above start (later reach x.end) hs h.1)

both_all : {X : Type 0} (P Q : X → Type 0) (xs : List X) → AllByRecursion P xs → AllByRecursion Q xs → AllByRecursion (λ x. P x × Q x) xs
both_all P Q [] p q = tt
both_all P Q (x ∷ xs) p q = ((p.0, q.0), both_all P Q xs p.1 q.1)

not_later : (a b : ℤ) → is_lt (int_cmp b a) ≡ false → int_le a b ≡ true
not_later a b h = grind (arith, ints)

-- the marks of heads in order that have one name rise
pub marks_rise : (n : Nslc) (reach : Option Moment) (hs : List Head) → InOrder hs → All (λ (h : Head). h.name ≡ n) hs → AreRising (marks_from reach hs)
marks_rise n reach [] o named = tt
marks_rise n reach (h ∷ hs) o named =
    let end = later reach h.end in
    let above : All (λ (x : Head). int_le h.start.micros x.start.micros ≡ true) hs = λ k d lt.
    (let x = get_or hs k d in
    let same : name_cmp x.name h.name ≡ Equal = (λ i. name_cmp (named (suc k) d (omega (arith, lt)) i) (named zero d (omega arith) i)) ∙ tied_itself names_total n in
    not_later h.start.micros x.start.micros (second_part (name_cmp x.name h.name) (int_cmp x.start.micros h.start.micros) same (o zero (suc k) d (omega arith) (omega (arith, lt))))) in (
      both_all (λ (m : Mark). int_le h.start.micros m.start.micros ≡ true) (λ (m : Mark). ends_by (micros_of end) (micros_of m.reach) ≡ true) (marks_from end hs)
          (starts_above h.start.micros end hs (recursion_from_All _ hs above)) (reach_grows end end hs (itself (micros_of end))),
      marks_rise n end hs (order_tail h hs o) (All-tail (λ (x : Head). x.name ≡ n) h hs named),
    )
  where
    itself : (a : Option ℤ) → ends_by a a ≡ true
    itself None = refl
    itself (Some s) = grind (arith, ints)

pub marks_length : (reach : Option Moment) (hs : List Head) → length (marks_from reach hs) ≡ length hs
marks_length reach [] = refl
marks_length reach (h ∷ hs) = ap suc (marks_length (later reach h.end) hs)

marked_at : (reach : Option Moment) (hs : List Head) (h : Head) (k : ℕ) → k < length hs → get_or hs k h ≡ h → HasMark (marks_from reach hs) h
marked_at reach [] h k lt is = absurd (omega (arith, lt))
marked_at reach (x ∷ hs) h zero lt is = record {
  mark = record { start = x.start; reach = later reach x.end; place = x.place };
  among = (zero, omega arith, refl);
  placed = ap (λ (y : Head). y.place) is;
  starts = ap (λ (y : Head). y.start) is;
  reaches = ap (λ (y : Head). ends_by (micros_of y.end) (micros_of (later reach x.end))) (sym is) ∙ reaches_second reach x.end;
}
marked_at reach (x ∷ hs) h (suc k) lt is =
    let rest = marked_at (later reach x.end) hs h k (omega (arith, lt)) is in
    let there = rest.among in
    record {
      mark = rest.mark;
      among = (suc there.0, (let near = there.1 in omega (arith, near)), there.2);
      placed = rest.placed;
      starts = rest.starts;
      reaches = rest.reaches;
    }

-- each head has a mark
pub each_marked : (reach : Option Moment) (hs : List Head) (h : Head) → Contains hs h → HasMark (marks_from reach hs) h
each_marked reach hs h there = marked_at reach hs h there.0 there.1 there.2
