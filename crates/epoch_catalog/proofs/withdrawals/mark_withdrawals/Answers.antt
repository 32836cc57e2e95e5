use Rattle.std.proofs.Common.{◌≡◌, ◌+◌, ◌≤◌, ◌∙◌, ℕ, List, length, map, take, drop, filter, ap, sym, subst, arith}
use Rattle.std.specs.Prelude.{Contains}
use Rattle.std.proofs.lemmas.List.{length-map, take-map, drop-map}
use Rattle.std.proofs.lemmas.List.Sorted.{length_permutation}
use Rattle.epochs.specs.declared.kinds.LineKind.TheVariants.{Wdr}
use Rattle.epochs.specs.Lines.{LineValues}
use Rattle.epochs.specs.Views.{values_of_line}
use Rattle.epoch_rules.specs.Rules.{is_line_of}
use Rattle.epoch_catalog.specs.declared.withdrawals.Head.{Head}
use Rattle.epoch_catalog.specs.Withdrawals.{IsGrouped}
use Rattle.epoch_catalog.proofs.WithdrawalsFound.{index_held}
use Rattle.epoch_catalog.proofs.withdrawals.mark_withdrawals.Goals as goal

pub mark_names-requires-clause-names_room : goal.mark_names-requires-clause-names_room
mark_names-requires-clause-names_room c =
    let is = ap length c.as_slice.ensures.value in
    let same = length_permutation _ _ c.sort_heads.ensures.moved in
    let few = c.note_heads.ensures.few in
    let room = c.requires.names.1 in
    omega (arith, is, same, few, room)

pub mark_names-requires-clause-marks_room : goal.mark_names-requires-clause-marks_room
mark_names-requires-clause-marks_room c =
    let is = ap length c.as_slice.ensures.value in
    let same = length_permutation _ _ c.sort_heads.ensures.moved in
    let few = c.note_heads.ensures.few in
    let room = c.requires.marks.1 in
    omega (arith, is, same, few, room)

pub returns : goal.returns
returns c =
    let lines = c.args.lines.now in
    let first : ℕ = c.family_bounds.result.first in
    let count : ℕ = c.family_bounds.result.count in
    let size = length-map lines values_of_line in
    let within = c.family_bounds.ensures.within in
    let part : take count (drop first (map values_of_line lines)) ≡ filter (is_line_of Wdr) (map values_of_line lines) =
    (λ i. take count (drop-map values_of_line first lines i)) ∙ take-map values_of_line count (drop first lines) ∙ c.family_bounds.ensures.lines in
    index_held (map values_of_line lines) first count c.note_heads.new.heads.items c.sort_heads.new.heads.items c.mark_names.new.names.items c.mark_names.new.marks.items
    (omega (arith, within, size)) part c.note_heads.ensures.noted c.sort_heads.ensures.moved c.mark_names.ensures.rises c.mark_names.ensures.groups
    (subst (λ (hs : List Head). (h : Head) → Contains hs h → IsGrouped c.mark_names.new.names.items c.mark_names.new.marks.items h) c.as_slice.ensures.value c.mark_names.ensures.held)
