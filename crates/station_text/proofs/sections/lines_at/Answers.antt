use Rattle.std.proofs.Common.{rules, of_calls, ◌≡◌, ℕ, ◌<◌, ◌≤◌, ◌-◌, true, false, List, take, drop, map, length, sym, ap, ◌∙◌, subst, arith}
use Rattle.std.proofs.lemmas.List.{take-take}
use Rattle.std.specs.List.Sorted.{IsPartitionedBy, IsPartitionPoint}
use Rattle.std.proofs.lemmas.List.Sorted.{IsPartitionPoint-from_clause}
use Rattle.epochs.specs.declared.line.Line.{Line}
use Rattle.epochs.specs.Views.{values_of_line}
use Rattle.epoch_rules.proofs.Cuts.{whole_rest}
use Rattle.station_text.specs.Found.{level_rank}
use Rattle.station_text.specs.declared.place.Place.{Place}
use Rattle.station_text.proofs.Near.{front_most, front_within, near_parted, near_point}
use Rattle.station_text.proofs.PlaceCuts.{is_before, is_not_behind, first_parted, rest_parted, place_cut}
use Rattle.station_text.proofs.sections.lines_at.Goals as goal

pub returns : goal.returns
returns c =
    let rank : ℕ = level_rank c.args.level in
    let place : Place = c.args.place.now in
    let lines : List Line = c.args.lines.now in
    let i : ℕ = c.partition_point-first.result in
    let j : ℕ = c.partition_point-count.result in
    let first : IsPartitionPoint (λ x. is_before rank place x ≡ true) (λ x. is_before rank place x ≡ false) lines i =
    IsPartitionPoint-from_clause (is_before rank place) lines i c.partition_point-first.ensures.partitioned (first_parted rank place lines c.requires.rises) (λ a r g k. search (rules, of_calls)) in
    let whole : take (length lines - i) (drop i lines) ≡ drop i lines = whole_rest i lines in
    let rest : IsPartitionPoint (λ x. is_not_behind rank place x ≡ true) (λ x. is_not_behind rank place x ≡ false) (take (length lines - i) (drop i lines)) j =
    IsPartitionPoint-from_clause (is_not_behind rank place) (take (length lines - i) (drop i lines)) j c.partition_point-count.ensures.partitioned
    (subst (IsPartitionedBy (is_not_behind rank place)) (sym whole) (rest_parted rank place lines i c.requires.rises)) (λ a r g k. search (rules, of_calls)) in
    ap (λ (ls : List Line). map values_of_line (take j ls)) whole
    ∙ place_cut rank place lines i j c.partition_point-first.ensures.bound (subst (λ (xs : List Line). j ≤ length xs) whole c.partition_point-count.ensures.bound) first
    (subst (λ (xs : List Line). IsPartitionPoint (λ x. is_not_behind rank place x ≡ true) (λ x. is_not_behind rank place x ≡ false) xs j) whole rest)

pub returns-then-few-near : goal.returns-then-few-near
returns-then-few-near c =
    let rank : ℕ = level_rank c.args.level in
    let place : Place = c.args.place.now in
    let lines : List Line = c.args.lines.now in
    let i : ℕ = c.partition_point-first.result in
    let m : ℕ = c.min.result in
    let j : ℕ = c.partition_point-few.result in
    let whole : take (length lines - i) (drop i lines) ≡ drop i lines = whole_rest i lines in
    let front : take m (take (length lines - i) (drop i lines)) ≡ take m (drop i lines) = ap (take m) whole in
    let first : IsPartitionPoint (λ x. is_before rank place x ≡ true) (λ x. is_before rank place x ≡ false) lines i =
    IsPartitionPoint-from_clause (is_before rank place) lines i c.partition_point-first.ensures.partitioned (first_parted rank place lines c.requires.rises) (λ a r g k. search (rules, of_calls)) in
    let parted : IsPartitionedBy (is_not_behind rank place) (drop i lines) = rest_parted rank place lines i c.requires.rises in
    let near : IsPartitionPoint (λ x. is_not_behind rank place x ≡ true) (λ x. is_not_behind rank place x ≡ false) (take m (take (length lines - i) (drop i lines))) j =
    IsPartitionPoint-from_clause (is_not_behind rank place) (take m (take (length lines - i) (drop i lines))) j c.partition_point-few.ensures.partitioned
    (subst (IsPartitionedBy (is_not_behind rank place)) (sym front) (near_parted (is_not_behind rank place) m (drop i lines) parted)) (λ a r g k. search (rules, of_calls)) in
    let within : j < length (take m (drop i lines)) = subst (λ (xs : List Line). j < length xs) front (search rules) in
    let few : j ≤ m = omega (arith, within, front_most m (drop i lines)) in
    let rest = near_point (is_not_behind rank place) m j (drop i lines) parted within
    (subst (λ (xs : List Line). IsPartitionPoint (λ x. is_not_behind rank place x ≡ true) (λ x. is_not_behind rank place x ≡ false) xs j) front near) in
    ap (λ (ls : List Line). map values_of_line (take j ls)) front
    ∙ ap (map values_of_line) (take-take j m (drop i lines) few)
    ∙ place_cut rank place lines i j c.partition_point-first.ensures.bound (omega (arith, within, front_within m (drop i lines))) first rest
