use Rattle.std.proofs.Common.{◌∙◌, length, ap, arith}
use Rattle.dataselect.specs.Rows.{with_rows}
use Rattle.archive_state.proofs.state.absorb_batch.Goals as goal

pub insert_all-requires : goal.insert_all-requires
insert_all-requires c =
    let few = c.requires.few in
    let rows = c.in_ok-rows.ensures in
    let as_many = ap length rows in
    omega (arith, few, as_many)

pub returns-clause-rows : goal.returns-clause-rows
returns-clause-rows c =
    c.in_ok-insert_all.ensures.ok
    ∙ ap (with_rows c.args.shelf.now.index.rows.items) c.in_ok-rows.ensures
