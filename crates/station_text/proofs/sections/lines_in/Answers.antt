use Rattle.std.proofs.Common.{rules, of_calls, ◌≡◌, ℕ, ◌≤◌, ◌-◌, true, false, List, take, drop, map, length, sym, ap, ◌∙◌, subst}
use Rattle.std.specs.List.Sorted.{IsPartitionedBy, IsPartitionPoint}
use Rattle.std.proofs.lemmas.List.Sorted.{IsPartitionPoint-from_clause}
use Rattle.epochs.specs.declared.line.Line.{Line}
use Rattle.epochs.specs.Views.{values_of_line}
use Rattle.epoch_rules.proofs.Cuts.{whole_rest}
use Rattle.station_text.specs.declared.sections.Section.{Section}
use Rattle.station_text.proofs.SectionCuts.{is_before, is_not_behind, first_parted, rest_parted, section_cut}
use Rattle.station_text.proofs.sections.lines_in.Goals as goal

pub returns : goal.returns
returns c =
    let section : Section = c.args.section.now in
    let lines : List Line = c.args.lines.now in
    let i : ℕ = c.partition_point-first.result in
    let j : ℕ = c.partition_point-count.result in
    let first : IsPartitionPoint (λ x. is_before section x ≡ true) (λ x. is_before section x ≡ false) lines i =
    IsPartitionPoint-from_clause (is_before section) lines i c.partition_point-first.ensures.partitioned (first_parted section lines c.requires) (λ a r g k. search (rules, of_calls)) in
    let whole : take (length lines - i) (drop i lines) ≡ drop i lines = whole_rest i lines in
    let rest : IsPartitionPoint (λ x. is_not_behind section x ≡ true) (λ x. is_not_behind section x ≡ false) (take (length lines - i) (drop i lines)) j =
    IsPartitionPoint-from_clause (is_not_behind section) (take (length lines - i) (drop i lines)) j c.partition_point-count.ensures.partitioned
    (subst (IsPartitionedBy (is_not_behind section)) (sym whole) (rest_parted section lines i c.requires)) (λ a r g k. search (rules, of_calls)) in
    ap (λ (ls : List Line). map values_of_line (take j ls)) whole
    ∙ section_cut section lines i j c.partition_point-first.ensures.bound (subst (λ (xs : List Line). j ≤ length xs) whole c.partition_point-count.ensures.bound) first
    (subst (λ (xs : List Line). IsPartitionPoint (λ x. is_not_behind section x ≡ true) (λ x. is_not_behind section x ≡ false) xs j) whole rest)
