use Rattle.std.proofs.Common.{◌≡◌, drop}
use Rattle.http_digest.specs.Items.{items_from, nothing_read}
use Rattle.http_digest.proofs.scan.items_of.Given as goal

abbrev pub invariant-bytes : goal.invariant-bytes
invariant-bytes l = items_from l.scan (drop l.byte-index l.text) ≡ items_from nothing_read l.text
