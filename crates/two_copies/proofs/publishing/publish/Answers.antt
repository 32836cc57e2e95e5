use Rattle.std.proofs.Common.{◌≡◌, List, sym, ◌∙◌, subst}
use mathlib.Core.List.{IsPrefix}
use Rattle.archive_entry.specs.declared.entry.Entry.{Entry}
use Rattle.two_copies.proofs.Rises.{rises}
use Rattle.two_copies.proofs.publishing.publish.Goals as goal

pub publish_as-requires : goal.publish_as-requires
publish_as-requires g c next is =
    let w = c.args.writer in
    let shown = g.T.Absorb.state w.desk.shown.value in
    rises w.desk.place.id _ shown (g.T.Absorb.state next) (subst (λ (l : List Entry). IsPrefix shown l) (sym (is ∙ c.requires.leads)) c.requires.begins)
