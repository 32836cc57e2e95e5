use Rattle.http_replies.proofs.ReadBack.{reads_back, reads_as_no_other}
use Rattle.http_replies.proofs.law.a_reply_reads_back.Goals as goal

pub returns-clause-same : goal.returns-clause-same
returns-clause-same c = reads_back

pub returns-clause-only : goal.returns-clause-only
returns-clause-only c = reads_as_no_other
