use Rattle.http_answers.specs.Requests.{request_line, rest_of}
use Rattle.http_answers.proofs.Sendings.{first_broke, pushed_then}
use Rattle.http_answers.proofs.writing.Outbox.push_request.Goals as goal

pub returns-in_err-push_line : goal.returns-in_err-push_line
returns-in_err-push_line g c =
    first_broke _ _ _ _ (request_line c.args.asked.now) (rest_of c.args.asked.now) c.from_residual.result c.from_residual.ensures.0 c.in_err-push_line.ensures

pub returns : goal.returns
returns g c =
    pushed_then _ _ _ _ _ _ (request_line c.args.asked.now) (rest_of c.args.asked.now) c.push_rest.result c.in_ok-push_line.ensures c.push_rest.ensures
