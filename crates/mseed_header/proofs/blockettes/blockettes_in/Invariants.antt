use Rattle.std.proofs.Common.{ℕ, ◌<◌, ◌-◌, List, length}
use Rattle.mseed_header.proofs.Chains.{IsWalked}
use Rattle.mseed_header.proofs.blockettes.blockettes_in.Given as goal

abbrev pub invariant-chain : goal.invariant-chain
invariant-chain l = ((front : List ℕ) × IsWalked l.little l.bytes front l.at l.end l.size l.micros) × (l.at < 65_536)

abbrev pub decreases-chain : goal.decreases-chain
decreases-chain l = length l.bytes - l.end
