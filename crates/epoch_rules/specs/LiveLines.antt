-- The live lines: of all lines in order the last of each key, where it isn't a deletion.
use Rattle.std.specs.Prelude.{Bool, true, false, List, [], ◌∷◌, filter, if◌then◌else◌}
use Rattle.std.specs.List.{list_any}
use Rattle.list_laws.specs.InOrder.{in_order}
use Rattle.epochs.specs.declared.kinds.Head.{Head}
use Rattle.epochs.specs.declared.kinds.Head.TheVariants.{Says, Deletes}
use Rattle.epochs.specs.Lines.{LineValues}
use Rattle.epoch_rules.specs.KeyOrder.{line_cmp, have_one_key}

abbrev pub is_statement : Head → Bool
is_statement (Says kind) = true
is_statement (Deletes kind) = false

-- the line isn't a deletion
abbrev pub is_said : LineValues → Bool
is_said e = is_statement e.head

-- a later line has the line's key
abbrev pub is_replaced : List LineValues → LineValues → Bool
is_replaced later e = list_any (have_one_key e) later

-- the last line of each key
abbrev pub last_lines : List LineValues → List LineValues
last_lines [] = []
last_lines (e ∷ later) = if is_replaced later e then last_lines later else e ∷ last_lines later

-- the live lines, in the order of their keys
abbrev pub live_lines : List LineValues → List LineValues
live_lines lines = in_order line_cmp [] (filter is_said (last_lines lines))
