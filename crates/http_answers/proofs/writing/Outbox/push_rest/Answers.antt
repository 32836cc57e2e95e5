use Rattle.std.proofs.Common.{codes, ap}
use Rattle.http_answers.specs.Requests.{lines_of}
use Rattle.http_answers.proofs.Sendings.{first_broke, pushed_then, same_bytes}
use Rattle.http_answers.proofs.writing.Outbox.push_rest.Goals as goal

pub returns-in_err-push_fields : goal.returns-in_err-push_fields
returns-in_err-push_fields g c =
    first_broke _ _ _ _ (lines_of c.args.asked.now.fields) (codes "\r\n") c.from_residual.result c.from_residual.ensures.0
    (same_bytes _ _ _ _ _ (ap lines_of c.as_slice.ensures) c.in_err-push_fields.ensures)

pub returns : goal.returns
returns g c =
    pushed_then _ _ _ _ _ _ (lines_of c.args.asked.now.fields) (codes "\r\n") c.push.result
    (same_bytes _ _ _ _ _ (ap lines_of c.as_slice.ensures) c.in_ok-push_fields.ensures) c.push.ensures
