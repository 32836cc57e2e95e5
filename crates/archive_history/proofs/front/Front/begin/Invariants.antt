use Rattle.std.proofs.Common.{◌≡◌, take}
use Rattle.archive_history.proofs.front.Front.begin.Given as goal

abbrev pub invariant-entries : goal.invariant-entries
invariant-entries g l = l.self ≡ take l.entry-index l.entries
