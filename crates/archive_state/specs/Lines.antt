-- The lines of a revision's body, by their numbers.
use Rattle.std.specs.Prelude.{ℕ, ◌+◌, ◌-◌, List, [], ◌∷◌, slice_index, if◌then◌else◌}
use Rattle.std.specs.Str.Lines.{lines}
use Rattle.epochs.specs.Kinds.{Text}
use Rattle.epochs.specs.Lines.{is_skipped}

-- the numbers of the lines that aren't skipped, where the first line has this number
abbrev pub said_from : ℕ → List Text → List ℕ
said_from number [] = []
said_from number (text ∷ texts) =
    if is_skipped text then said_from (number + 1) texts else number ∷ said_from (number + 1) texts

-- the number, counted from 1 over all lines, of the line that has this place, from 1, among those that aren't skipped
abbrev pub line_number : Text → ℕ → ℕ
line_number body place = slice_index (said_from 1 (lines body)) (place - 1)
