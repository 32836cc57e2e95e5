-- The lines of a section are those between two places of the lines in order.
use Rattle.std.proofs.Common.{◌≡◌, ℕ, ◌≤◌, Bool, true, false, List, [], ◌∷◌, length, take, drop, map, filter, ap, ◌∙◌}
use Rattle.std.specs.declared.cmp.Ordering.{Ordering}
use Rattle.std.specs.Ordering.{is_lt, is_le}
use Rattle.std.specs.List.{AllByRecursion}
use Rattle.std.specs.List.Sorted.{IsStrictlySortedBy, IsPartitionedBy, IsPartitionPoint}
use Rattle.epochs.specs.declared.line.Line.{Line}
use Rattle.epochs.specs.Views.{values_of_line}
use Rattle.epoch_rules.specs.KeyOrder.{key_parts_of, line_cmp}
use Rattle.epoch_rules.proofs.Cuts.{IsPlaced, filter_mapped, cut_between}
use Rattle.epoch_rules.proofs.Halves.{parted}
use Rattle.station_text.specs.Sections.{section_order, stands_in}
use Rattle.station_text.specs.declared.sections.Section.{Section}
use Rattle.station_text.proofs.PlaceCuts.{IsLess, rises_mapped, rises_dropped, lt_apart, gt_apart, between}
use Rattle.station_text.proofs.SectionOrder.{before_stays, within_stays}

-- where a line stands to a section's
abbrev pub order_in : Section → Line → Ordering
order_in section line = section_order section (key_parts_of (values_of_line line))

abbrev pub is_before : Section → Line → Bool
is_before section line = is_lt (order_in section line)

abbrev pub is_not_behind : Section → Line → Bool
is_not_behind section line = is_le (order_in section line)

-- the lines before it, and of the others those not behind it, come first
pub first_parted : (section : Section) (lines : List Line) → IsStrictlySortedBy line_cmp (map values_of_line lines) → IsPartitionedBy (is_before section) lines
first_parted section lines h =
    parted IsLess (is_before section) (λ x y le k. before_stays section (key_parts_of (values_of_line x)) (key_parts_of (values_of_line y)) le k) lines (rises_mapped lines h)

pub rest_parted : (section : Section) (lines : List Line) (n : ℕ) → IsStrictlySortedBy line_cmp (map values_of_line lines) → IsPartitionedBy (is_not_behind section) (drop n lines)
rest_parted section lines n h =
    parted IsLess (is_not_behind section) (λ x y le k. within_stays section (key_parts_of (values_of_line x)) (key_parts_of (values_of_line y)) le k) (drop n lines)
    (rises_dropped IsLess n lines (rises_mapped lines h))

all_placed : (section : Section) (lines : List Line) → AllByRecursion (IsPlaced (λ l. stands_in section (values_of_line l)) (is_before section) (is_not_behind section)) lines
all_placed section [] = tt
all_placed section (x ∷ lines) = (
  record {
    early = lt_apart (order_in section x);
    within = between (order_in section x);
    late = gt_apart (order_in section x);
  },
  all_placed section lines,
)

pub section_cut : (section : Section) (lines : List Line) (i j : ℕ) → i ≤ length lines → j ≤ length (drop i lines)
    → IsPartitionPoint (λ x. is_before section x ≡ true) (λ x. is_before section x ≡ false) lines i
    → IsPartitionPoint (λ x. is_not_behind section x ≡ true) (λ x. is_not_behind section x ≡ false) (drop i lines) j
    → map values_of_line (take j (drop i lines)) ≡ filter (stands_in section) (map values_of_line lines)
section_cut section lines i j fits fits2 first rest =
    let p : Line → Bool = λ x. stands_in section (values_of_line x) in
    ap (map values_of_line) (cut_between p (is_before section) (is_not_behind section) lines i j (all_placed section lines) fits fits2 first rest) ∙ filter_mapped values_of_line (stands_in section) lines
