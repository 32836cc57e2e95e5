use Rattle.std.proofs.Common.{◌≡◌, ◌++◌}
use Rattle.split_fetch.specs.Gathering.{records_of, IsNumbered}
use Rattle.split_fetch.proofs.numbering.add_rows.Given as goal

abbrev pub invariant-rows : goal.invariant-rows
invariant-rows l =
    (records_of l.all ++ records_of l.row-iterator.rest.items ≡ records_of l.fn.all ++ records_of l.fn.rows) × IsNumbered l.all
