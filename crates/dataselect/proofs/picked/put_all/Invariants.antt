use Rattle.std.proofs.Common.{◌≡◌, ◌++◌, take}
use Rattle.dataselect.proofs.picked.put_all.Given as goal

abbrev pub invariant-places : goal.invariant-places
invariant-places l = l.picked ≡ l.fn.picked ++ take l.place-index l.segment
