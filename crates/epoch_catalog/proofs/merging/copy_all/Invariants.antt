use Rattle.std.proofs.Common.{◌≡◌, map, take}
use Rattle.epochs.specs.Views.{values_of_line}
use Rattle.epoch_catalog.proofs.merging.copy_all.Given as goal

abbrev pub invariant-heads : goal.invariant-heads
invariant-heads l = map values_of_line l.copies.items ≡ map (λ head. values_of_line head.now) (take l.head-index l.heads)
