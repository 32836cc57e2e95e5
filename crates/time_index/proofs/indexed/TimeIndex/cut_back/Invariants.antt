use Rattle.std.proofs.Common.{◌≡◌, take, length}
use Rattle.time_index.proofs.indexed.TimeIndex.cut_back.Given as goal

abbrev pub invariant-rows : goal.invariant-rows
invariant-rows l = take l.len l.self.rows.items ≡ take l.len l.fn.self.rows.items

abbrev pub decreases-rows : goal.decreases-rows
decreases-rows l = length l.self.rows.items
