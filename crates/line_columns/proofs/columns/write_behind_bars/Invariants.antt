use Rattle.std.proofs.Common.{◌≡◌, ◌++◌, map, take}
use Rattle.line_columns.specs.Texts.{behind_bars}
use Rattle.line_columns.specs.Columns.{column_text_of}
use Rattle.line_columns.proofs.columns.write_behind_bars.Given as goal

abbrev pub invariant-columns : goal.invariant-columns
invariant-columns l = l.out ≡ l.fn.out ++ behind_bars (map column_text_of (take l.column-index l.columns))
