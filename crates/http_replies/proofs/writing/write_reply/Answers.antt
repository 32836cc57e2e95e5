use Rattle.std.proofs.Common.{◌∙◌}
use Rattle.http_replies.specs.Replies.{reply_head, sent_body}
use Rattle.http_replies.proofs.InTwo.{whole, in_head, in_body}
use Rattle.http_replies.proofs.writing.write_reply.Goals as goal

pub returns-in_err-put_all-clause-written : goal.returns-in_err-put_all-clause-written
returns-in_err-put_all-clause-written g c =
    let reply = c.args.reply.now in
    in_head _ _ c.as_slice.result.now (reply_head reply) (sent_body reply) c.from_residual.result c.from_residual.ensures.0
    (c.as_slice.ensures.same ∙ c.head_of-head.ensures) c.in_err-put_all.ensures

pub returns-in_err-put_all-2-clause-written : goal.returns-in_err-put_all-2-clause-written
returns-in_err-put_all-2-clause-written g c =
    let reply = c.args.reply.now in
    in_body _ _ _ c.as_slice.result.now c.sent_body.result.now (reply_head reply) (sent_body reply)
    c.from_residual-in_err-put_all-2.result c.from_residual-in_err-put_all-2.ensures.0
    (c.as_slice.ensures.same ∙ c.head_of-head.ensures) c.sent_body.ensures c.in_ok-put_all.ensures c.in_err-put_all-2.ensures

pub returns-clause-written : goal.returns-clause-written
returns-clause-written g c =
    let reply = c.args.reply.now in
    whole _ _ _ c.as_slice.result.now c.sent_body.result.now (reply_head reply) (sent_body reply)
    (c.as_slice.ensures.same ∙ c.head_of-head.ensures) c.sent_body.ensures c.in_ok-put_all.ensures c.in_ok-put_all-2.ensures
