use Rattle.std.proofs.Common.{List, length, ◌≤ℤ◌}
use Rattle.time_index.specs.Kept.{IsBegun}
use Rattle.time_index.proofs.Mending.{Entry}
use Rattle.time_index.proofs.kept.settle.Given as goal

abbrev pub invariant-reached : goal.invariant-reached
invariant-reached l = record {
  forward : l.home.micros ≤ℤ l.joined.reach.micros;
  begun : (wanted : List Entry) → IsBegun l.rate wanted (l.home, l.fn.kept) l.fn.spans.entries → IsBegun l.rate wanted (l.home, l.joined) l.spans.entries;
}

abbrev pub decreases-reached : goal.decreases-reached
decreases-reached l = length l.spans.entries
