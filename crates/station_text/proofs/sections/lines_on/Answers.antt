use Rattle.std.proofs.Common.{rules, of_calls, ◌≡◌, ℕ, ◌≤◌, ◌-◌, true, false, List, take, drop, map, length, sym, ap, ◌∙◌, subst}
use Rattle.std.specs.List.Sorted.{IsPartitionedBy, IsPartitionPoint}
use Rattle.std.proofs.lemmas.List.Sorted.{IsPartitionPoint-from_clause}
use Rattle.epochs.specs.declared.line.Line.{Line}
use Rattle.epochs.specs.Views.{values_of_line}
use Rattle.epoch_rules.proofs.Cuts.{whole_rest}
use Rattle.station_text.specs.Found.{level_rank}
use Rattle.station_text.proofs.NetworkCuts.{is_before, is_not_behind, first_parted, rest_parted, network_cut}
use Rattle.station_text.proofs.sections.lines_on.Goals as goal

pub returns : goal.returns
returns c =
    let rank : ℕ = level_rank c.args.level in
    let network : List ℕ = c.args.network in
    let lines : List Line = c.args.lines.now in
    let i : ℕ = c.partition_point-first.result in
    let j : ℕ = c.partition_point-count.result in
    let first : IsPartitionPoint (λ x. is_before rank network x ≡ true) (λ x. is_before rank network x ≡ false) lines i =
    IsPartitionPoint-from_clause (is_before rank network) lines i c.partition_point-first.ensures.partitioned (first_parted rank network lines c.requires.rises) (λ a r g k. search (rules, of_calls)) in
    let whole : take (length lines - i) (drop i lines) ≡ drop i lines = whole_rest i lines in
    let rest : IsPartitionPoint (λ x. is_not_behind rank network x ≡ true) (λ x. is_not_behind rank network x ≡ false) (take (length lines - i) (drop i lines)) j =
    IsPartitionPoint-from_clause (is_not_behind rank network) (take (length lines - i) (drop i lines)) j c.partition_point-count.ensures.partitioned
    (subst (IsPartitionedBy (is_not_behind rank network)) (sym whole) (rest_parted rank network lines i c.requires.rises)) (λ a r g k. search (rules, of_calls)) in
    ap (λ (ls : List Line). map values_of_line (take j ls)) whole
    ∙ network_cut rank network lines i j c.partition_point-first.ensures.bound (subst (λ (xs : List Line). j ≤ length xs) whole c.partition_point-count.ensures.bound) first
    (subst (λ (xs : List Line). IsPartitionPoint (λ x. is_not_behind rank network x ≡ true) (λ x. is_not_behind rank network x ≡ false) xs j) whole rest)
