use Rattle.std.proofs.Common.{◌≡◌, drop}
use Rattle.http_digest.specs.Parts.{value_of}
use Rattle.http_digest.proofs.parts.value_of.Given as goal

abbrev pub invariant-items : goal.invariant-items
invariant-items l = value_of l.name (drop l.item-index l.items) ≡ value_of l.name l.items
