use Rattle.disk_model.specs.Memory.{memory_view}
use Rattle.disk_model.specs.View.{is_told}
use Rattle.hall_tests.proofs.halls.left_by.Given as goal

-- the archive that was opened
abbrev pub ghosts-talk-J-Naming : goal.ghosts-talk-J-Naming
ghosts-talk-J-Naming g a = record { book = a.opened; opening = a.entries.now; told = is_told (memory_view a.archive.disk); faults = a.archive.faults }

-- the blank ledgers
abbrev pub ghosts-talk-L-Ledger : goal.ghosts-talk-L-Ledger
ghosts-talk-L-Ledger g a = record { name = a.made.name; parts = a.made.parts }

abbrev pub ghosts-talk-S-Ledger : goal.ghosts-talk-S-Ledger
ghosts-talk-S-Ledger g a = record { name = a.halts.name; parts = a.halts.parts }
