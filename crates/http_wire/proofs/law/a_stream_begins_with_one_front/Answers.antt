use Rattle.http_wire.proofs.EveryFront.{some_front}
use Rattle.http_wire.proofs.Unique.{only_front}
use Rattle.http_wire.proofs.law.a_stream_begins_with_one_front.Goals as goal

pub returns-clause-some : goal.returns-clause-some
returns-clause-some c = some_front

pub returns-clause-one : goal.returns-clause-one
returns-clause-one c = only_front
