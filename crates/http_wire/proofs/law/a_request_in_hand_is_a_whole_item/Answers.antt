use Rattle.http_wire.proofs.Waiting.{held_request}
use Rattle.http_wire.proofs.law.a_request_in_hand_is_a_whole_item.Goals as goal

pub returns : goal.returns
returns c = held_request
