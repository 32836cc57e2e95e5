use Rattle.http_wire.proofs.Told.{request_of_all, end_of_all, cut_of_all}
use Rattle.http_wire.proofs.law.answers_speak_of_all_bytes.Goals as goal

pub returns-clause-request : goal.returns-clause-request
returns-clause-request c = request_of_all

pub returns-clause-end : goal.returns-clause-end
returns-clause-end c = end_of_all

pub returns-clause-cut : goal.returns-clause-cut
returns-clause-cut c = cut_of_all
