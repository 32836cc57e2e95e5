use Rattle.std.proofs.Common.{◌≡◌, ◌+◌, ◌≤◌, ◌^◌, take, length}
use Rattle.std.specs.Vec.Iter.{into_iter_items, into_iter_len}
use Rattle.dataselect.specs.Rows.{with_rows}
use Rattle.time_index.proofs.shelf.IndexedShelf.insert_each.Given as goal

abbrev pub invariant-rows : goal.invariant-rows
invariant-rows l = record {
  rows : with_rows l.self.index.rows.items (into_iter_items l.row-iterator) ≡ with_rows l.fn.self.index.rows.items l.fn.more.items;
  first : take (length l.fn.self.index.rows.items) l.self.index.rows.items ≡ l.fn.self.index.rows.items;
  longer : length l.fn.self.index.rows.items ≤ length l.self.index.rows.items;
  room : length l.self.index.rows.items + into_iter_len l.row-iterator ≤ 2 ^ 32;
}
