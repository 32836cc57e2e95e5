use Rattle.std.proofs.Common.{◌≡◌, ◌++◌}
use Rattle.split_fetch.specs.Gathering.{records_of, arrived, IsNumbered}
use Rattle.split_fetch.proofs.numbering.arrived.Given as goal

abbrev pub invariant-answers : goal.invariant-answers
invariant-answers l =
    (records_of l.all ++ records_of (arrived l.answer-iterator.rest.items) ≡ records_of (arrived l.fn.answers)) × IsNumbered l.all
