use Rattle.std.proofs.Common.{rules, of_calls, ◌≡◌, ℕ, ◌≤◌, ◌-◌, ◌&&◌, true, false, List, take, drop, length, sym, subst, ◌∙◌}
use Rattle.std.specs.Prelude.{nat_le, nat_lt}
use Rattle.std.specs.List.Sorted.{IsPartitionedBy, IsPartitionPoint}
use Rattle.std.proofs.lemmas.List.Sorted.{IsPartitionPoint-from_clause}
use Rattle.epoch_rules.proofs.Cuts.{cut_between, whole_rest}
use Rattle.epoch_catalog.proofs.WidePlaces.{numbers_placed, parted_behind}
use Rattle.epoch_catalog.proofs.wide.numbers_within.Goals as goal

pub returns : goal.returns
returns c =
    let ns : List ℕ = c.args.numbers.now in
    let start : ℕ = c.args.start in
    let end : ℕ = c.args.end in
    let i : ℕ = c.partition_point-first.result in
    let j : ℕ = c.partition_point-count.result in
    let first : IsPartitionPoint (λ n. nat_lt n start ≡ true) (λ n. nat_lt n start ≡ false) ns i =
    IsPartitionPoint-from_clause (λ n. nat_lt n start) ns i c.partition_point-first.ensures.partitioned c.requires.started (λ a r g k. search (rules, of_calls)) in
    let whole : take (length ns - i) (drop i ns) ≡ drop i ns = whole_rest i ns in
    let rest : IsPartitionPoint (λ n. nat_lt n end ≡ true) (λ n. nat_lt n end ≡ false) (take (length ns - i) (drop i ns)) j =
    IsPartitionPoint-from_clause (λ n. nat_lt n end) (take (length ns - i) (drop i ns)) j c.partition_point-count.ensures.partitioned
    (subst (IsPartitionedBy (λ n. nat_lt n end)) (sym whole) (parted_behind (λ n. nat_lt n end) i ns c.requires.ended)) (λ a r g k. search (rules, of_calls)) in
    (λ k. take j (whole k))
    ∙ cut_between (λ n. nat_le start n && nat_lt n end) (λ n. nat_lt n start) (λ n. nat_lt n end) ns i j (numbers_placed start end ns) c.partition_point-first.ensures.bound
    (subst (λ (xs : List ℕ). j ≤ length xs) whole c.partition_point-count.ensures.bound) first
    (subst (λ (xs : List ℕ). IsPartitionPoint (λ n. nat_lt n end ≡ true) (λ n. nat_lt n end ≡ false) xs j) whole rest)
