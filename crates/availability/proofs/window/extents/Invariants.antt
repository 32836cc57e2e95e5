use Rattle.std.proofs.Common.{◌≡◌, ◌+◌, ◌≤◌, ◌++◌, drop}
use Rattle.list_laws.proofs.Passes.{pass}
use Rattle.availability.specs.Windows.{AreAlone, wider, extents}
use Rattle.availability.proofs.Extents.{begin, other, moved}
use Rattle.availability.proofs.window.extents.Given as goal

abbrev pub invariant-windows : goal.invariant-windows
invariant-windows l = record {
  extents : l.extents ++ pass begin wider other moved l.extent l.extent.group (drop l.window-index l.others) ≡ extents l.windows;
  few : l.extent.spans ≤ l.window-index + 1;
  alone : AreAlone l.others;
}
