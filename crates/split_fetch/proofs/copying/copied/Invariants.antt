use Rattle.std.proofs.Common.{◌≡◌, ◌++◌, drop}
use Rattle.split_fetch.specs.Gathering.{records_of, arrived, IsNumbered}
use Rattle.split_fetch.proofs.copying.copied.Given as goal

abbrev pub invariant-answers : goal.invariant-answers
invariant-answers l =
    (records_of l.all ++ records_of (arrived (drop l.answer-index l.answers)) ≡ records_of (arrived l.fn.answers)) × IsNumbered l.all
