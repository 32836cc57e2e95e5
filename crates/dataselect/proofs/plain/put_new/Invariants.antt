use Rattle.std.proofs.Common.{◌≡◌, ◌+◌, ◌≤◌}
use Rattle.std.specs.Vec.{vec_len, vec_capacity}
use Rattle.std.specs.Vec.Iter.{into_iter_items, into_iter_len}
use Rattle.dataselect.specs.Rows.{with_rows}
use Rattle.dataselect.proofs.plain.put_new.Given as goal

abbrev pub invariant-rows : goal.invariant-rows
invariant-rows l = record {
  rows : with_rows l.rows.items (into_iter_items l.row-iterator) ≡ with_rows l.fn.rows.items l.fn.more.items;
  room : vec_len l.rows + into_iter_len l.row-iterator ≤ vec_capacity l.rows;
}
