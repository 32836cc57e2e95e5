-- Worlds by which the table of events is worked through.
use Rattle.std.specs.Prelude.{[], ◌∷◌, true, false, Some, None}
use Rattle.archive_entry.specs.declared.entry.Entry.{Entry}
use Rattle.archive_world.specs.World.{World}

-- a running archive without an entry
abbrev pub empty : World
empty = record { journal = []; hand = None; published = 0; seen = λ c. 0; shown = 0; acknowledged = []; stopped = false; up = true }

-- with an entry that is being committed; that is committed; that is published
abbrev pub holding : Entry → World
holding e = record empty { hand = Some e }

abbrev pub committed : Entry → World
committed e = record empty { journal = e ∷ [] }

abbrev pub published : Entry → World
published e = record empty { journal = e ∷ []; published = 1 }

-- a disk failed while it was being committed; and the program ended, where it had reached the disk
abbrev pub halted : Entry → World
halted e = record empty { hand = Some e; stopped = true }

abbrev pub crashed : Entry → World
crashed e = record empty { journal = e ∷ []; up = false }
