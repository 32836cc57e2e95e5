use Rattle.http_answers.proofs.AskedBack.{request_reads_back, request_reads_as_no_other}
use Rattle.http_answers.proofs.law.a_request_reads_back.Goals as goal

pub returns-clause-back : goal.returns-clause-back
returns-clause-back c = request_reads_back

pub returns-clause-only : goal.returns-clause-only
returns-clause-only c = request_reads_as_no_other
