-- The lines of a station are those between two places of the lines in order.
use Rattle.std.proofs.Common.{◌≡◌, ℕ, zero, suc, ◌≤◌, Bool, true, false, List, [], ◌∷◌, length, take, drop, map, filter, refl, ap, sym, ◌∙◌}
use Rattle.std.specs.declared.cmp.Ordering.{Ordering}
use Rattle.std.specs.declared.cmp.Ordering.TheVariants.{Less, Equal, Greater}
use Rattle.std.specs.Ordering.{is_lt, is_eq, is_le}
use Rattle.std.specs.List.{AllByRecursion}
use Rattle.std.specs.List.Sorted.{IsStrictlySortedBy, IsPartitionedBy, IsPartitionPoint}
use Rattle.std.proofs.lemmas.Bool.{true≢false}
use Rattle.epochs.specs.declared.line.Line.{Line}
use Rattle.epochs.specs.Views.{values_of_line}
use Rattle.epoch_rules.specs.KeyOrder.{key_parts_of, line_cmp}
use Rattle.epoch_rules.proofs.Cuts.{IsPlaced, all_mapped, filter_mapped, cut_between}
use Rattle.epoch_rules.proofs.Halves.{Rises, parted}
use Rattle.station_text.specs.Found.{place_order, stands_at}
use Rattle.station_text.specs.declared.place.Place.{Place}
use Rattle.station_text.proofs.Places.{before_stays, within_stays}

-- where a line stands to a station's
abbrev pub order_at : ℕ → Place → Line → Ordering
order_at rank place line = place_order rank place (key_parts_of (values_of_line line))

abbrev pub is_before : ℕ → Place → Line → Bool
is_before rank place line = is_lt (order_at rank place line)

abbrev pub is_not_behind : ℕ → Place → Line → Bool
is_not_behind rank place line = is_le (order_at rank place line)

abbrev pub IsLess : Line → Line → Type 0
IsLess x y = line_cmp (values_of_line x) (values_of_line y) ≡ Less

pub rises_mapped : (lines : List Line) → IsStrictlySortedBy line_cmp (map values_of_line lines) → Rises IsLess lines
unfolding IsStrictlySortedBy
rises_mapped [] h = tt
rises_mapped (x ∷ xs) h = (all_mapped (λ e. line_cmp (values_of_line x) e ≡ Less) values_of_line xs h.0, rises_mapped xs h.1)

pub rises_dropped : {X : Type 0} (R : X → X → Type 0) (n : ℕ) (xs : List X) → Rises R xs → Rises R (drop n xs)
rises_dropped R zero xs h = h
rises_dropped R (suc n) [] h = tt
rises_dropped R (suc n) (x ∷ xs) h = rises_dropped R n xs h.1

-- the lines before it, and of the others those not behind it, come first
pub first_parted : (rank : ℕ) (place : Place) (lines : List Line) → IsStrictlySortedBy line_cmp (map values_of_line lines) → IsPartitionedBy (is_before rank place) lines
first_parted rank place lines h =
    parted IsLess (is_before rank place) (λ x y le k. before_stays rank place (key_parts_of (values_of_line x)) (key_parts_of (values_of_line y)) le k) lines (rises_mapped lines h)

pub rest_parted : (rank : ℕ) (place : Place) (lines : List Line) (n : ℕ) → IsStrictlySortedBy line_cmp (map values_of_line lines) → IsPartitionedBy (is_not_behind rank place) (drop n lines)
rest_parted rank place lines n h =
    parted IsLess (is_not_behind rank place) (λ x y le k. within_stays rank place (key_parts_of (values_of_line x)) (key_parts_of (values_of_line y)) le k) (drop n lines)
    (rises_dropped IsLess n lines (rises_mapped lines h))

pub lt_apart : (a : Ordering) → is_lt a ≡ true → is_eq a ≡ false
lt_apart Less h = refl
lt_apart Equal h = absurd (true≢false (sym h))
lt_apart Greater h = refl

pub gt_apart : (a : Ordering) → is_le a ≡ false → is_eq a ≡ false
gt_apart Less h = refl
gt_apart Equal h = absurd (true≢false h)
gt_apart Greater h = refl

pub between : (a : Ordering) → is_lt a ≡ false → is_le a ≡ true → is_eq a ≡ true
between Less h k = absurd (true≢false h)
between Equal h k = refl
between Greater h k = absurd (true≢false (sym k))

all_placed : (rank : ℕ) (place : Place) (lines : List Line) → AllByRecursion (IsPlaced (λ l. stands_at rank place (values_of_line l)) (is_before rank place) (is_not_behind rank place)) lines
all_placed rank place [] = tt
all_placed rank place (x ∷ lines) = (
  record {
    early = lt_apart (order_at rank place x);
    within = between (order_at rank place x);
    late = gt_apart (order_at rank place x);
  },
  all_placed rank place lines,
)

pub place_cut : (rank : ℕ) (place : Place) (lines : List Line) (i j : ℕ) → i ≤ length lines → j ≤ length (drop i lines)
    → IsPartitionPoint (λ x. is_before rank place x ≡ true) (λ x. is_before rank place x ≡ false) lines i
    → IsPartitionPoint (λ x. is_not_behind rank place x ≡ true) (λ x. is_not_behind rank place x ≡ false) (drop i lines) j
    → map values_of_line (take j (drop i lines)) ≡ filter (stands_at rank place) (map values_of_line lines)
place_cut rank place lines i j fits fits2 first rest =
    let p : Line → Bool = λ x. stands_at rank place (values_of_line x) in
    ap (map values_of_line) (cut_between p (is_before rank place) (is_not_behind rank place) lines i j (all_placed rank place lines) fits fits2 first rest) ∙ filter_mapped values_of_line (stands_at rank place) lines
