use Rattle.std.proofs.Common.{length, ◌-◌, ◌≤◌, take}
use Rattle.std.specs.Io.KnownBytes.{Consumes}
use Rattle.disk_model.proofs.file.read_on.Given as goal

-- so far the reader gave what stands in the slice
abbrev pub invariant-full : goal.invariant-full
invariant-full g l = record {
  inside : l.done ≤ length l.into;
  bytes : Consumes (g.F.Read.remaining l.fn.file) (g.F.Read.remaining l.file) (take l.done l.into);
}

abbrev pub decreases-full : goal.decreases-full
decreases-full g l = length l.initial.into - l.done
