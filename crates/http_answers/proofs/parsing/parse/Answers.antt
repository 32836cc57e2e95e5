use Rattle.std.proofs.Common.{rules}
use Rattle.httparse.specs.Spans.{IsResponseOf, IsResponseWithin}
use Rattle.http_answers.proofs.ReadSteps.{whole_read}
use Rattle.http_answers.proofs.parsing.parse.Goals as goal

pub returns-in_ok-head-in-Ok-Complete-clause-read : goal.returns-in_ok-head-in-Ok-Complete-clause-read
returns-in_ok-head-in-Ok-Complete-clause-read c =
    let text = c.args.text.now in
    let headers = c.parse_response.new.headers in
    let found = c.in-Ok-Complete.found in
    let of : IsResponseOf text headers found = rw c.in-Ok-Complete.field-0-is at c.in-Ok-Complete.ensures.complete in
    let within : IsResponseWithin text headers found = rw c.in-Ok-Complete.field-0-is at c.in-Ok-Complete.ensures.within in
    whole_read text headers found c.in_ok-head-in-Ok-Complete.head of within (search rules) c.in_ok-head-in-Ok-Complete.ensures.size c.in_ok-head-in-Ok-Complete.ensures.said
