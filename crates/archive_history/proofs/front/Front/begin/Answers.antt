use Rattle.std.proofs.Common.{◌≡◌, ◌∙◌, List, Some, sym, ap}
use Rattle.std.specs.List.{slice_get}
use Rattle.std.proofs.lemmas.Option.{slice_get-get_or}
use Rattle.archive_entry.specs.declared.entry.Entry.{Entry}
use Rattle.archive_state.specs.Lawful.{is_next}
use Rattle.archive_state.proofs.Growth.{lawful_by_each}
use Rattle.archive_history.proofs.front.Front.begin.Goals as goal

pub add-requires : goal.add-requires
add-requires g c =
    let es = c.args.entries.now in
    let i = c.entries.entry-index in
    let e = c.entry-item.result in
    let there : slice_get es i ≡ Some e = slice_get-get_or es i e c.entries-test.true ∙ ap Some (sym c.entry-item.is) in
    ap (λ (l : List Entry). is_next l e) c.entries.invariant ∙ (lawful_by_each es).0 c.requires.lawful i e there
