use Rattle.disk_model.specs.View.{is_told}
use Rattle.centre_serve.proofs.serving.serve.Given as goal

-- what is known of the disk once its archive is opened, and the book that is named
abbrev pub ghosts-serve_named-J-Naming : goal.ghosts-serve_named-J-Naming
ghosts-serve_named-J-Naming g a = record { book = a.opened; opening = a.entries; told = is_told (g.D.Disk.view a.archive.disk); faults = a.archive.faults }

-- the blank ledgers
abbrev pub ghosts-serve_named-L-Ledger : goal.ghosts-serve_named-L-Ledger
ghosts-serve_named-L-Ledger g a = record { name = a.made.name; parts = a.made.parts }

abbrev pub ghosts-serve_named-S-Ledger : goal.ghosts-serve_named-S-Ledger
ghosts-serve_named-S-Ledger g a = record { name = a.halts.name; parts = a.halts.parts }
