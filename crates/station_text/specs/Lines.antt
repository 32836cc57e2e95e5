-- Lines as the program lends them.
use Rattle.std.specs.Borrow.{Bor}
use Rattle.epochs.specs.declared.line.Line.{Line}
use Rattle.epochs.specs.Lines.{LineValues}
use Rattle.epochs.specs.Views.{values_of_line}

-- what a line that is lent says
abbrev pub line_at : Bor Line → LineValues
line_at line = values_of_line line.now
