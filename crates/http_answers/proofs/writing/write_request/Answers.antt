use Rattle.http_answers.specs.Requests.{request_bytes}
use Rattle.http_answers.proofs.Sendings.{all_put, last_put, none_put, not_put}
use Rattle.http_answers.proofs.writing.write_request.Goals as goal

pub returns-in_err-push_request : goal.returns-in_err-push_request
returns-in_err-push_request g c =
    none_put _ _ _ (request_bytes c.args.asked.now) c.from_residual.result c.new-outbox.ensures c.from_residual.ensures.0 c.in_err-push_request.ensures.failed

pub returns-in_err-flush : goal.returns-in_err-flush
returns-in_err-flush g c =
    not_put _ _ (request_bytes c.args.asked.now) c.from_residual-in_err-flush.result c.from_residual-in_err-flush.ensures.0
    (last_put _ _ _ _ _ (request_bytes c.args.asked.now) c.new-outbox.ensures c.in_ok-push_request.ensures.done c.in_err-flush.ensures.puts)

pub returns : goal.returns
returns g c = all_put _ _ _ _ _ (request_bytes c.args.asked.now) c.new-outbox.ensures c.in_ok-push_request.ensures.done c.in_ok-flush.ensures.puts
