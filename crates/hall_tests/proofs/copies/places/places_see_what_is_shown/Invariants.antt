use Rattle.std.proofs.Common.{[], false}
use Rattle.hall_tests.proofs.copies.places.places_see_what_is_shown.Given as goal

-- the book that was just opened
abbrev pub ghosts-followed_from_none-J-Naming : goal.ghosts-followed_from_none-J-Naming
ghosts-followed_from_none-J-Naming g a = record { book = a.opened; opening = []; told = false; faults = 0 }

-- the blank ledgers
abbrev pub ghosts-followed_from_none-L-Ledger : goal.ghosts-followed_from_none-L-Ledger
ghosts-followed_from_none-L-Ledger g a = record { name = a.made.name; parts = a.made.parts }

abbrev pub ghosts-followed_from_none-S-Ledger : goal.ghosts-followed_from_none-S-Ledger
ghosts-followed_from_none-S-Ledger g a = record { name = a.halts.name; parts = a.halts.parts }
