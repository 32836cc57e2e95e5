use Rattle.http_digest.proofs.NonceLaw.{tells_second}
use Rattle.http_digest.proofs.law.a_nonce_tells_its_second.Goals as goal

pub returns : goal.returns
returns c = tells_second
