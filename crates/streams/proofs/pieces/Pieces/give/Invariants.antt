use Rattle.std.proofs.Common.{◌≡◌, ◌-◌, length}
use Rattle.streams.specs.Pieces.{pieces_left, bytes_left}
use Rattle.streams.proofs.pieces.Pieces.give.Given as goal

-- an emptied piece is skipped, and nothing that is left is lost
abbrev pub invariant-spent : goal.invariant-spent
invariant-spent l = record {
  left : bytes_left l.self ≡ bytes_left l.fn.self;
  pieces : pieces_left l.self ≡ pieces_left l.fn.self;
}

abbrev pub decreases-spent : goal.decreases-spent
decreases-spent l = length l.self.all - l.self.at
