use Rattle.dataselect.specs.Rows.{held_rows}
use Rattle.split_fetch.specs.Gathering.{start_cmp}
use Rattle.split_fetch.proofs.Cells.{starts_total}
use Rattle.split_fetch.proofs.Stable.{permuted, sorted, stable}
use Rattle.split_fetch.proofs.law.rows_are_gathered_in_order.Goals as goal

pub returns-clause-same : goal.returns-clause-same
returns-clause-same c = λ rows. permuted start_cmp (held_rows rows)

pub returns-clause-sorted : goal.returns-clause-sorted
returns-clause-sorted c = λ rows. sorted start_cmp starts_total (held_rows rows)

pub returns-clause-ties : goal.returns-clause-ties
returns-clause-ties c = λ rows. stable start_cmp starts_total (held_rows rows)
