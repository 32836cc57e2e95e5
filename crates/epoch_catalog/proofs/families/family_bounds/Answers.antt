use Rattle.std.proofs.Common.{rules, of_calls, ◌≡◌, ℕ, ◌≤◌, ◌-◌, true, false, List, take, drop, length, sym, subst}
use Rattle.std.specs.List.Sorted.{IsPartitionedBy, IsPartitionPoint}
use Rattle.std.proofs.lemmas.List.Sorted.{IsPartitionPoint-from_clause}
use Rattle.epochs.specs.declared.line.Line.{Line}
use Rattle.epoch_catalog.specs.declared.families.Family.{Family}
use Rattle.epoch_rules.proofs.Cuts.{whole_rest}
use Rattle.epoch_catalog.proofs.FamilyCuts.{is_before, is_not_behind, first_parted, rest_parted, family_cut}
use Rattle.epoch_catalog.proofs.families.family_bounds.Goals as goal

pub returns-clause-lines : goal.returns-clause-lines
returns-clause-lines c =
    let f : Family = c.args.family.now in
    let lines : List Line = c.args.lines.now in
    let i : ℕ = c.partition_point-first.result in
    let j : ℕ = c.partition_point-count.result in
    let first : IsPartitionPoint (λ x. is_before f x ≡ true) (λ x. is_before f x ≡ false) lines i =
    IsPartitionPoint-from_clause (is_before f) lines i c.partition_point-first.ensures.partitioned (first_parted f lines c.requires.rises) (λ a r g k. search (rules, of_calls)) in
    let whole : take (length lines - i) (drop i lines) ≡ drop i lines = whole_rest i lines in
    let rest : IsPartitionPoint (λ x. is_not_behind f x ≡ true) (λ x. is_not_behind f x ≡ false) (take (length lines - i) (drop i lines)) j =
    IsPartitionPoint-from_clause (is_not_behind f) (take (length lines - i) (drop i lines)) j c.partition_point-count.ensures.partitioned
    (subst (IsPartitionedBy (is_not_behind f)) (sym whole) (rest_parted f lines i c.requires.rises)) (λ a r g k. search (rules, of_calls)) in
    family_cut f lines c.requires i j c.partition_point-first.ensures.bound (subst (λ (xs : List Line). j ≤ length xs) whole c.partition_point-count.ensures.bound) first
    (subst (λ (xs : List Line). IsPartitionPoint (λ x. is_not_behind f x ≡ true) (λ x. is_not_behind f x ≡ false) xs j) whole rest)
