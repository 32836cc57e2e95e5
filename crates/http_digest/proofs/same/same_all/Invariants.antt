use Rattle.std.proofs.Common.{◌≡◌, ℕ, ◌<◌, ◌↔◌, get_or}
use Rattle.http_digest.proofs.same.same_all.Given as goal

abbrev pub invariant-bytes : goal.invariant-bytes
invariant-bytes l = (l.differing ≡ 0) ↔ ((k : ℕ) → k < l.place → get_or l.first k 0 ≡ get_or l.second k 0)
