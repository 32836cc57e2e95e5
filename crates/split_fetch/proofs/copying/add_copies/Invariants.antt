use Rattle.std.proofs.Common.{◌≡◌, ◌++◌, drop}
use Rattle.split_fetch.specs.Gathering.{records_of, IsNumbered}
use Rattle.split_fetch.proofs.copying.add_copies.Given as goal

abbrev pub invariant-rows : goal.invariant-rows
invariant-rows l =
    (records_of l.all ++ records_of (drop l.row-index l.rows) ≡ records_of l.fn.all ++ records_of l.fn.rows) × IsNumbered l.all
