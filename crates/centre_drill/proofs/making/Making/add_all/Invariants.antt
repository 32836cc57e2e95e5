use Rattle.std.proofs.Common.{◌≡◌}
use Rattle.centre_drill.specs.History.{begun}
use Rattle.centre_drill.specs.Making.{IsUnderWay, Runs}
use Rattle.centre_drill.proofs.making.Making.add_all.Given as goal

abbrev pub invariant-batches : goal.invariant-batches
invariant-batches g l = record {
  way : IsUnderWay g.D.Disk.view l.self.intake l.self.state;
  begun : l.self.state ≡ begun l.count l.k;
  runs : Runs (g.D.Disk.view l.fn.self.intake.archive.disk) (g.D.Disk.view l.self.intake.archive.disk) ⊥;
}
