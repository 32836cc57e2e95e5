-- The lines of a family are those between two places of the lines in order.
use Rattle.std.proofs.Common.{◌≡◌, ℕ, zero, suc, ◌≤◌, Bool, true, false, List, [], ◌∷◌, length, take, drop, map, filter, refl, ap, sym, ◌∙◌}
use Rattle.std.specs.declared.cmp.Ordering.{Ordering}
use Rattle.std.specs.declared.cmp.Ordering.TheVariants.{Less, Equal, Greater}
use Rattle.std.specs.Ordering.{is_lt, is_eq, is_le}
use Rattle.std.specs.List.{AllByRecursion}
use Rattle.std.specs.List.Sorted.{IsStrictlySortedBy, IsPartitionedBy, IsPartitionPoint}
use Rattle.std.proofs.lemmas.Bool.{true≢false}
use Rattle.epochs.specs.declared.line.Line.{Line}
use Rattle.epochs.specs.Views.{values_of_line}
use Rattle.epoch_catalog.specs.declared.families.Family.{Family}
use Rattle.epoch_rules.proofs.Halves.{Rises, parted, rises_mapped}
use Rattle.epoch_rules.specs.Catalog.{IsCatalog}
use Rattle.epoch_rules.specs.KeyOrder.{key_parts_of, line_cmp}
use Rattle.epoch_rules.specs.LiveLines.{is_said}
use Rattle.epoch_catalog.specs.Families.{is_in, family_place}
use Rattle.epoch_rules.proofs.Cuts.{IsPlaced, all_mapped, filter_mapped, cut_between}
use Rattle.epoch_catalog.proofs.FamilyPlaces.{before_stays, within_stays, in_by_place}

-- where a line stands to a family
abbrev pub place_at : Family → Line → Ordering
place_at f line = family_place f (key_parts_of (values_of_line line))

abbrev pub is_before : Family → Line → Bool
is_before f line = is_lt (place_at f line)

abbrev pub is_not_behind : Family → Line → Bool
is_not_behind f line = is_le (place_at f line)

rises_dropped : {X : Type 0} (R : X → X → Type 0) (n : ℕ) (xs : List X) → Rises R xs → Rises R (drop n xs)
rises_dropped R zero xs h = h
rises_dropped R (suc n) [] h = tt
rises_dropped R (suc n) (x ∷ xs) h = rises_dropped R n xs h.1

-- the lines before a family, and of the others those not behind it, come first
pub first_parted : (f : Family) (lines : List Line) → IsStrictlySortedBy line_cmp (map values_of_line lines) → IsPartitionedBy (is_before f) lines
first_parted f lines h =
    parted (λ x y. line_cmp (values_of_line x) (values_of_line y) ≡ Less) (is_before f) (λ x y le k. before_stays f (key_parts_of (values_of_line x)) (key_parts_of (values_of_line y)) le k) lines (rises_mapped lines h)

pub rest_parted : (f : Family) (lines : List Line) (n : ℕ) → IsStrictlySortedBy line_cmp (map values_of_line lines) → IsPartitionedBy (is_not_behind f) (drop n lines)
rest_parted f lines n h =
    parted (λ x y. line_cmp (values_of_line x) (values_of_line y) ≡ Less) (is_not_behind f) (λ x y le k. within_stays f (key_parts_of (values_of_line x)) (key_parts_of (values_of_line y)) le k) (drop n lines)
    (rises_dropped _ n lines (rises_mapped lines h))

lt_apart : (a : Ordering) → is_lt a ≡ true → is_eq a ≡ false
lt_apart Less h = refl
lt_apart Equal h = absurd (true≢false (sym h))
lt_apart Greater h = refl

gt_apart : (a : Ordering) → is_le a ≡ false → is_eq a ≡ false
gt_apart Less h = refl
gt_apart Equal h = absurd (true≢false h)
gt_apart Greater h = refl

between : (a : Ordering) → is_lt a ≡ false → is_le a ≡ true → is_eq a ≡ true
between Less h k = absurd (true≢false h)
between Equal h k = refl
between Greater h k = absurd (true≢false (sym k))

placed : (f : Family) (x : Line) → is_said (values_of_line x) ≡ true → IsPlaced (λ l. is_in f (values_of_line l)) (is_before f) (is_not_behind f) x
placed f x said =
    let here : is_in f (values_of_line x) ≡ is_eq (place_at f x) = in_by_place f (values_of_line x) said in record {
      early = λ k. here ∙ lt_apart (place_at f x) k;
      within = λ k l. here ∙ between (place_at f x) k l;
      late = λ k. here ∙ gt_apart (place_at f x) k;
    }

all_placed : (f : Family) (lines : List Line) → AllByRecursion (λ x. is_said (values_of_line x) ≡ true) lines → AllByRecursion (IsPlaced (λ l. is_in f (values_of_line l)) (is_before f) (is_not_behind f)) lines
all_placed f [] said = tt
all_placed f (x ∷ lines) said = (placed f x said.0, all_placed f lines said.1)

pub family_cut : (f : Family) (lines : List Line) → IsCatalog (map values_of_line lines) → (i j : ℕ) → i ≤ length lines → j ≤ length (drop i lines)
    → IsPartitionPoint (λ x. is_before f x ≡ true) (λ x. is_before f x ≡ false) lines i
    → IsPartitionPoint (λ x. is_not_behind f x ≡ true) (λ x. is_not_behind f x ≡ false) (drop i lines) j
    → map values_of_line (take j (drop i lines)) ≡ filter (is_in f) (map values_of_line lines)
family_cut f lines catalog i j fits fits2 first rest =
    let p : Line → Bool = λ x. is_in f (values_of_line x) in
    let stated : AllByRecursion (λ x. is_said (values_of_line x) ≡ true) lines = all_mapped (λ e. is_said e ≡ true) values_of_line lines catalog.states in
    ap (map values_of_line) (cut_between p (is_before f) (is_not_behind f) lines i j (all_placed f lines stated) fits fits2 first rest) ∙ filter_mapped values_of_line (is_in f) lines
