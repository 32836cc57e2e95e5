use Rattle.time_index.proofs.KeptStep.{none_kept, all_grown, puts_row}
use Rattle.time_index.proofs.channel_kept.begin.Goals as goal

pub returns-clause-ok : goal.returns-clause-ok
returns-clause-ok c = λ rows all first.
    let row = c.args.row.now in
    all_grown c.args.channels.now c.insert.new.self row c.new-kinds.result c.add_span.new.kinds (c.in_ok-insert.ensures.updates.0) rows all
    (none_kept rows row.header.name c.new-kinds.result c.new-kinds.ensures.empty first)
    (puts_row row c.new-kinds.result c.add_span.new.kinds c.kind_of.result c.kept_of.result c.kind_of.ensures c.kept_of.ensures c.in_ok-add_span.ensures.ok)
