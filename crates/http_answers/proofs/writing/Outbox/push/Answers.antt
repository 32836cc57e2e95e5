use Rattle.http_answers.proofs.Sendings.{pushed_both}
use Rattle.http_answers.proofs.writing.Outbox.push.Goals as goal

pub returns : goal.returns
returns g c = pushed_both _ _ _ _ _ _ _ c.flush.ensures.empty c.in_ok-flush.ensures.puts c.put_all.ensures
