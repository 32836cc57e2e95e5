use Rattle.std.proofs.Common.{[], false}
use Rattle.journal_tests.proofs.fronts.a_token_tells_what_it_has_seen.Given as goal

-- the book that was just opened
abbrev pub ghosts-one_goes_past_the_other : goal.ghosts-one_goes_past_the_other
ghosts-one_goes_past_the_other g a = record { book = a.opened; opening = []; told = false; faults = 0 }
