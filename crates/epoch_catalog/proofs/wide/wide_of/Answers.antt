use Rattle.std.proofs.Common.{◌≡◌, ◌+◌, ◌&&◌, ℕ, List, map, filter, take, drop, length, sym, subst, ◌∙◌, arith}
use Rattle.std.specs.Prelude.{nat_le, nat_lt}
use Rattle.std.specs.List.Sorted.{IsPartitionedBy}
use Rattle.std.proofs.lemmas.Bool.{eqb-true}
use Rattle.std.proofs.lemmas.List.{take-map, drop-map, length-map}
use Rattle.epochs.specs.Lines.{LineValues}
use Rattle.epochs.specs.Views.{values_of_line}
use Rattle.epoch_catalog.specs.Families.{is_in}
use Rattle.epoch_catalog.specs.Wide.{is_wide, wide_in, StandAt}
use Rattle.epoch_catalog.proofs.WidePlaces.{places_parted, wide_within}
use Rattle.epoch_catalog.proofs.WithdrawalsFound.{none_wide}
use Rattle.epoch_catalog.proofs.wide.wide_of.Goals as goal

pub numbers_within-requires-clause-started : goal.numbers_within-requires-clause-started
numbers_within-requires-clause-started c = subst (IsPartitionedBy (λ n. nat_lt n c.family_bounds-bounds.result.first)) (sym c.requires.wide) (places_parted is_wide 0 _ (map values_of_line c.args.lines.now))

pub numbers_within-requires-clause-ended : goal.numbers_within-requires-clause-ended
numbers_within-requires-clause-ended c =
    subst (IsPartitionedBy (λ n. nat_lt n (c.family_bounds-bounds.result.first + c.family_bounds-bounds.result.count))) (sym c.requires.wide) (places_parted is_wide 0 _ (map values_of_line c.args.lines.now))

pub returns : goal.returns
returns c =
    let lines = c.args.lines.now in
    let live : List LineValues = map values_of_line lines in
    let f = c.args.family.now in
    let first : ℕ = c.family_bounds-bounds.result.first in
    let count : ℕ = c.family_bounds-bounds.result.count in
    let within = c.family_bounds-bounds.ensures.within in
    let size = length-map lines values_of_line in
    let are : take count (drop first live) ≡ filter (is_in f) live = (λ i. take count (drop-map values_of_line first lines i)) ∙ take-map values_of_line count (drop first lines) ∙ c.family_bounds-bounds.ensures.lines in
    subst (λ (ps : List ℕ). StandAt live ps (wide_in f live)) (sym (c.numbers_within.ensures ∙ (λ i. filter (λ n. nat_le first n && nat_lt n (first + count)) (c.requires.wide i))))
    (wide_within f live first count (omega (arith, within, size)) are)

pub returns-then-is_empty : goal.returns-then-is_empty
returns-then-is_empty c =
    none_wide (is_in c.args.family.now) (map values_of_line c.args.lines.now) c.args.wide.now c.requires.wide (eqb-true (length c.args.wide.now) 0 (sym c.is_empty.ensures ∙ c.if-is_empty.true))
