use Rattle.std.proofs.Common.{◌≡◌, ◌++◌, map, take}
use Rattle.std.specs.List.{flat_map}
use Rattle.station_text.specs.Lines.{line_at}
use Rattle.station_text.specs.Texts.{header_text, line_text}
use Rattle.station_text.proofs.lines.answer_text.Given as goal

abbrev pub invariant-lines : goal.invariant-lines
invariant-lines l = l.text ≡ header_text l.fn.level ++ flat_map (line_text l.catalog) (map line_at (take l.line-index l.lines))
