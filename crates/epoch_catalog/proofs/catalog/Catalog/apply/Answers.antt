use Rattle.std.proofs.Common.{◌≡◌, ◌∙◌, ◌++◌, List, map, ap, sym, subst}
use Rattle.std.specs.List.{list_any}
use Rattle.epochs.specs.declared.kinds.LineKind.TheVariants.{Rst}
use Rattle.epochs.specs.Lines.{LineValues}
use Rattle.epochs.specs.Views.{values_of_line}
use Rattle.epoch_rules.specs.Catalog.{IsCatalog}
use Rattle.epoch_rules.specs.Indexes.{IsCatalogIndex}
use Rattle.epoch_rules.specs.Kept.{AreKept}
use Rattle.epoch_rules.specs.LiveLines.{live_lines}
use Rattle.epoch_rules.specs.Rules.{is_line_of}
use Rattle.epoch_rules.proofs.KeptCatalog.{kept_lines}
use Rattle.epoch_catalog.specs.Wide.{wide_places}
use Rattle.epoch_catalog.specs.Withdrawals.{IsWithdrawalIndex}
use Rattle.epoch_catalog.proofs.catalog.Catalog.apply.Goals as goal

pub invariant_of-self-2 : goal.invariant_of-self-2
invariant_of-self-2 c =
    let live : List LineValues = map values_of_line c.self.inside.lines.items in
    let lines : List LineValues = map values_of_line c.args.lines.now in
    let heads : List LineValues = map values_of_line c.in_ok-heads.heads.items in
    let index = c.take_in.new.self in
    let held = c.in_ok-reserve.ensures.items in
    let given = c.as_slice-2.ensures.value ∙ held in
    let kept : AreKept live lines = subst (λ l. AreKept l lines) (sym c.self.view_is) c.requires in
    let new : map values_of_line c.merge.new.live.items ≡ live_lines (live ++ lines) =
    c.merge.ensures.lines ∙ ap (λ ls. live_lines (map values_of_line ls ++ heads)) held ∙ c.in_ok-heads.ensures.lines live ∙ ap (λ ls. live_lines (live ++ map values_of_line ls)) c.as_slice.ensures in
    let indexed : IsCatalogIndex index (live_lines (live ++ lines)) = subst (IsCatalogIndex index) (λ i. live_lines (map values_of_line (given i) ++ map values_of_line (c.as_slice-3.ensures i))) c.in_ok-take_in.ensures.ok in
    let marks = c.mark_withdrawals.result in (
      subst IsCatalog (sym new) (kept_lines live lines c.self.invariant.0 kept),
      c.note_wide.ensures ∙ ap (λ ls. wide_places (map values_of_line ls)) c.as_slice-4.ensures.value,
      c.has_restrictions-self-inside.ensures ∙ ap (λ ls. list_any (is_line_of Rst) (map values_of_line ls)) c.as_slice-5.ensures.value,
      subst (λ ls. IsWithdrawalIndex marks.names.items marks.marks.items (map values_of_line ls)) c.as_slice-6.ensures.value c.mark_withdrawals.ensures,
      subst (IsCatalogIndex index) (sym new) indexed,
    )

pub returns-clause-kept : goal.returns-clause-kept
returns-clause-kept c =
    let live : List LineValues = map values_of_line c.self.inside.lines.items in
    let lines : List LineValues = map values_of_line c.args.lines.now in
    let heads : List LineValues = map values_of_line c.in_ok-heads.heads.items in
    let kept : AreKept live lines = subst (λ l. AreKept l lines) (sym c.self.view_is) c.requires in
    let new : map values_of_line c.merge.new.live.items ≡ live_lines (live ++ lines) =
    c.merge.ensures.lines
    ∙ ap (λ ls. live_lines (map values_of_line ls ++ heads)) c.in_ok-reserve.ensures.items
    ∙ c.in_ok-heads.ensures.lines live
    ∙ ap (λ ls. live_lines (live ++ map values_of_line ls)) c.as_slice.ensures in
    subst IsCatalog (sym new) (kept_lines live lines c.self.invariant.0 kept)

pub has_restrictions-self-inside-requires : goal.has_restrictions-self-inside-requires
has_restrictions-self-inside-requires c =
    let live : List LineValues = map values_of_line c.self.inside.lines.items in
    let lines : List LineValues = map values_of_line c.args.lines.now in
    let heads : List LineValues = map values_of_line c.in_ok-heads.heads.items in
    let kept : AreKept live lines = subst (λ l. AreKept l lines) (sym c.self.view_is) c.requires in
    let new : map values_of_line c.merge.new.live.items ≡ live_lines (live ++ lines) =
    c.merge.ensures.lines
    ∙ ap (λ ls. live_lines (map values_of_line ls ++ heads)) c.in_ok-reserve.ensures.items
    ∙ c.in_ok-heads.ensures.lines live
    ∙ ap (λ ls. live_lines (live ++ map values_of_line ls)) c.as_slice.ensures in
    subst IsCatalog (sym (ap (map values_of_line) c.as_slice-5.ensures.value ∙ new)) (kept_lines live lines c.self.invariant.0 kept)

pub mark_withdrawals-requires-clause-catalog : goal.mark_withdrawals-requires-clause-catalog
mark_withdrawals-requires-clause-catalog c =
    let live : List LineValues = map values_of_line c.self.inside.lines.items in
    let lines : List LineValues = map values_of_line c.args.lines.now in
    let heads : List LineValues = map values_of_line c.in_ok-heads.heads.items in
    let kept : AreKept live lines = subst (λ l. AreKept l lines) (sym c.self.view_is) c.requires in
    let new : map values_of_line c.merge.new.live.items ≡ live_lines (live ++ lines) =
    c.merge.ensures.lines
    ∙ ap (λ ls. live_lines (map values_of_line ls ++ heads)) c.in_ok-reserve.ensures.items
    ∙ c.in_ok-heads.ensures.lines live
    ∙ ap (λ ls. live_lines (live ++ map values_of_line ls)) c.as_slice.ensures in
    subst IsCatalog (sym (ap (map values_of_line) c.as_slice-6.ensures.value ∙ new)) (kept_lines live lines c.self.invariant.0 kept)
