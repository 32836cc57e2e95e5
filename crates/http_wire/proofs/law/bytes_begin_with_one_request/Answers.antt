use Rattle.http_wire.proofs.Unique.{one_request}
use Rattle.http_wire.proofs.law.bytes_begin_with_one_request.Goals as goal

pub returns : goal.returns
returns c = λ limit most used first rest behind head view body text. one_request limit most used first rest behind head view body text
