use Rattle.std.proofs.Common.{◌≡◌, length}
use Rattle.http_answers.specs.ReplyHeads.{nonce_in}
use Rattle.http_answers.proofs.values.nonce_in.Given as goal

abbrev pub invariant-bytes : goal.invariant-bytes
invariant-bytes l = nonce_in l.left ≡ nonce_in l.text

abbrev pub decreases-bytes : goal.decreases-bytes
decreases-bytes l = length l.left
