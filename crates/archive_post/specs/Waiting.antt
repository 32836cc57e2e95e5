-- What waits beside a history: the entry that was committed and isn't taken over yet.
use Rattle.std.specs.Prelude.{◌&&◌, Bool, true, false, List, [], ◌++◌, Option, None, Some, option_to_list, is_some}
use Rattle.archive_entry.specs.declared.entry.Entry.{Entry}
use Rattle.archive_state.specs.Lawful.{is_next}

-- of what waits, what judging has taken in
abbrev pub noted_of : Bool → Option Entry → List Entry
noted_of true waiting = option_to_list waiting
noted_of false waiting = []

-- what waits is the next entry
abbrev pub waits : List Entry → Option Entry → Bool
waits h None = true
waits h (Some e) = is_next h e

abbrev pub are_both : Option Entry → Option Entry → Bool
are_both waiting hand = is_some waiting && is_some hand

-- the history, with the entry that was committed and not taken over yet
abbrev pub committed : List Entry → Option Entry → List Entry
committed h waiting = h ++ option_to_list waiting
