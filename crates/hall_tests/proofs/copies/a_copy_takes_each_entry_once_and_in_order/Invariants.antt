use Rattle.std.proofs.Common.{[], false}
use Rattle.hall_tests.proofs.copies.a_copy_takes_each_entry_once_and_in_order.Given as goal

-- the book that was just opened
abbrev pub ghosts-taken_once : goal.ghosts-taken_once
ghosts-taken_once g a = record { book = a.opened; opening = []; told = false; faults = 0 }
