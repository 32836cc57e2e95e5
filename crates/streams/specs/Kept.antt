-- What a stream in memory keeps of what is written to it.
use Rattle.std.specs.Prelude.{ℕ, List, Option, Some}
use Rattle.streams.specs.View.{told_if}
use Rattle.streams.specs.declared.kept.Kept.{Kept}

-- what was written, unless a piece of it was lost
abbrev pub told_of : Kept → Option (List ℕ)
told_of kept = told_if kept.tells (Some kept.bytes)
