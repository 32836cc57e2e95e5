use Rattle.std.proofs.Common.{rules, of_calls, ◌≡◌, ℕ, true, false, List}
use Rattle.std.specs.List.Sorted.{IsPartitionPoint}
use Rattle.std.proofs.lemmas.List.Sorted.{IsPartitionPoint-from_clause}
use Rattle.epochs.specs.declared.line.Line.{Line}
use Rattle.epoch_rules.specs.KeyOrder.{KeyParts}
use Rattle.epoch_rules.specs.KeyViews.{parts_of_view}
use Rattle.epoch_rules.proofs.Halves.{below_cut, is_behind, parted_behind}
use Rattle.epoch_rules.proofs.by_halves.count_below.Goals as goal

pub returns-clause-before : goal.returns-clause-before
returns-clause-before c =
    let k : KeyParts = parts_of_view c.args.key in
    let lines : List Line = c.args.lines.now in
    let n : ℕ = c.partition_point.result in
    let at : IsPartitionPoint (λ x. is_behind k x ≡ true) (λ x. is_behind k x ≡ false) lines n =
    IsPartitionPoint-from_clause (is_behind k) lines n c.partition_point.ensures.partitioned (parted_behind k lines c.requires) (λ a r g j. search (rules, of_calls)) in
    (below_cut k lines n c.partition_point.ensures.bound at).0

pub returns-clause-behind : goal.returns-clause-behind
returns-clause-behind c =
    let k : KeyParts = parts_of_view c.args.key in
    let lines : List Line = c.args.lines.now in
    let n : ℕ = c.partition_point.result in
    let at : IsPartitionPoint (λ x. is_behind k x ≡ true) (λ x. is_behind k x ≡ false) lines n =
    IsPartitionPoint-from_clause (is_behind k) lines n c.partition_point.ensures.partitioned (parted_behind k lines c.requires) (λ a r g j. search (rules, of_calls)) in
    (below_cut k lines n c.partition_point.ensures.bound at).1
