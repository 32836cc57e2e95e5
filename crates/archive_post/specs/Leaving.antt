-- What a crash leaves of an archive that takes commands.
use Rattle.std.specs.Prelude.{ℕ, List, [], ◌∷◌, ◌++◌, ⊤, Option, None, Some}
use Rattle.disk_model.specs.Disk.{Leaves}
use Rattle.archive_entry.specs.declared.entry.Entry.{Entry}
use Rattle.archive_log.specs.Histories.{IsHistory, IsNextEntry, Recovers, RecoversWithOrWithout}
use Rattle.desk_words.specs.Stand.{Left, nothing, short, stopped}

-- what is left: the entry that waits, or the one whose commit failed
abbrev pub left_of : Option Entry → Option Entry → Left
left_of (Some e) hand = short e
left_of None (Some e) = stopped e
left_of None None = nothing

-- a crash leaves what was seen; or this and what was left short; or this with or without what was stopped
abbrev pub LeavesLeft : (List ℕ → Type 0) → List Entry → Left → Type 0
LeavesLeft images seen nothing = Leaves images (Recovers seen)
LeavesLeft images seen (short e) = Leaves images (Recovers (seen ++ e ∷ []))
LeavesLeft images seen (stopped e) = Leaves images (RecoversWithOrWithout seen e)

-- what was left may come next
abbrev pub ComesNext : List Entry → Left → Type 0
ComesNext seen nothing = ⊤
ComesNext seen (short e) = IsNextEntry seen e
ComesNext seen (stopped e) = IsNextEntry seen e

-- What was seen is a history, in which what was left may come next: so each file that a crash leaves is one that opens.
pub record KeepsHistory (seen : List Entry) (left : Left) : Type 0 where
  pub history : IsHistory seen
  pub next : ComesNext seen left
