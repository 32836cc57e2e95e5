use Rattle.std.proofs.Common.{◌≡◌, ◌++◌, [], map}
use Rattle.std.specs.List.{AllByRecursion}
use Rattle.availability.specs.Fields.{IsPrintableLine}
use Rattle.availability.specs.Texts.{line_text, firsts_after}
use Rattle.availability.proofs.Firsts.{AreSeen}
use Rattle.availability.proofs.texts.firsts.Given as goal

abbrev pub invariant-lines : goal.invariant-lines
invariant-lines l = record {
  texts : l.texts ++ firsts_after l.texts (map (line_text l.form l.method) l.line-iterator) ≡ firsts_after [] (map (line_text l.form l.method) l.lines.keys);
  seen : AreSeen l.texts l.seen.keys;
  printable : AllByRecursion IsPrintableLine l.line-iterator;
}
