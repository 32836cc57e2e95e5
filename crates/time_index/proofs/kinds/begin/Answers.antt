use Rattle.std.proofs.Common.{◌∙◌, ap, None, List}
use Rattle.std.specs.BTreeMap.{insert_entry}
use Rattle.time_index.proofs.KeptKinds.{span_put}
use Rattle.time_index.proofs.Mending.{Entry, moment_cmp}
use Rattle.time_index.proofs.kinds.begin.Goals as goal

pub returns-clause-ok : goal.returns-clause-ok
returns-clause-ok c =
    span_put c.args.kinds.now c.insert-2.new.self c.args.kind None c.insert.new.self c.requires.absent (c.in_ok-insert-2.ensures.updates.0) (c.args.start, c.args.kept)
    (c.in_ok-insert.ensures.entries ∙ ap (λ (es : List Entry). insert_entry moment_cmp es c.args.start c.args.kept) c.new-spans.ensures.empty)
