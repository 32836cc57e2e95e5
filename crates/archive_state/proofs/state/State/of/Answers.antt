use Rattle.std.proofs.Common.{◌≡◌, ◌∙◌, ◌++◌, ◌∷◌, [], List, Some, sym, ap, subst}
use Rattle.std.specs.List.{slice_get}
use Rattle.std.proofs.lemmas.List.{take_more}
use Rattle.std.proofs.lemmas.Option.{slice_get-get_or}
use Rattle.archive_entry.specs.declared.entry.Entry.{Entry}
use Rattle.archive_state.specs.Lawful.{IsLawful, is_next}
use Rattle.archive_state.proofs.NextEntry.{next_absorbs}
use Rattle.archive_state.proofs.Growth.{lawful_by_each, lawful_push}
use Rattle.archive_state.proofs.state.State.of.Goals as goal

pub absorb-requires : goal.absorb-requires
absorb-requires c =
    let es = c.args.entries.now in
    let i = c.entries.entry-index in
    let e = c.entry-item.result in
    let there : slice_get es i ≡ Some e = slice_get-get_or es i e c.entries-test.true ∙ ap Some (sym c.entry-item.is) in
    let next = ap (λ (l : List Entry). is_next l e) c.entries.invariant.taken ∙ (lawful_by_each es).0 c.requires i e there in
    next_absorbs c.entries.state e c.entries.invariant.lawful next

pub entries-preserved : goal.entries-preserved
entries-preserved c =
    let es = c.args.entries.now in
    let i = c.entries.entry-index in
    let e = c.entry-item.result in
    let there : slice_get es i ≡ Some e = slice_get-get_or es i e c.entries-test.true ∙ ap Some (sym c.entry-item.is) in
    let next = ap (λ (l : List Entry). is_next l e) c.entries.invariant.taken ∙ (lawful_by_each es).0 c.requires i e there in
    let more = c.in_ok-absorb.ensures.ok in
    record {
      taken = more ∙ (λ k. c.entries.invariant.taken k ++ c.entry-item.is k ∷ []) ∙ sym (take_more es i e c.entries-test.true);
      lawful = subst IsLawful (sym more) (lawful_push c.entries.state e c.entries.invariant.lawful next);
    }
