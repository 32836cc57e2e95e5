-- The numbers of a body's entries.
use Rattle.std.specs.Prelude.{ℕ, ◌+◌, ◌==◌, List, [], ◌∷◌, nat_lt, Option, Some, None, if◌then◌else◌}
use Rattle.archive_entry.specs.declared.entry.Entry.{Entry}
use Rattle.follow_law.specs.Following.{coming}

abbrev pub number_of : Entry → ℕ
number_of e = e.number

-- of these entries, those whose numbers come next, from this one on, in order
abbrev pub coming_from : ℕ → List Entry → List Entry
coming_from n es = coming number_of n es

-- the first number behind this one that isn't its predecessor's plus 1
abbrev pub gap_behind : ℕ → List Entry → Option ℕ
gap_behind last [] = None
gap_behind last (e ∷ es) = if e.number == last + 1 then gap_behind e.number es else Some e.number

-- the same, or the first one, if it is above the wanted one
abbrev pub gap_in : ℕ → List Entry → Option ℕ
gap_in wanted [] = None
gap_in wanted (e ∷ es) = if nat_lt wanted e.number then Some e.number else gap_behind e.number es
