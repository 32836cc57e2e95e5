use Rattle.std.proofs.Common.{refl, ap, Ok, Err}
use Rattle.http_answers.proofs.OneReply.{reply_heard, end_heard}
use Rattle.http_answers.specs.Hearing.{answered}
use Rattle.http_answers.specs.declared.got.GotEnd.TheVariants as end
use Rattle.split_fetch.specs.Peers.{most_body}
use Rattle.split_fetch.specs.declared.heard.Heard.TheVariants.{Lost, BadReply}
use Rattle.split_fetch.proofs.HeardSteps.{heard_by_bytes, heard_lost, saw_from, if_heard}
use Rattle.split_fetch.proofs.asking.ask.Goals as goal

pub returns-in-Ok-read_reply : goal.returns-in-Ok-read_reply
returns-in-Ok-read_reply g c =
    let got = c.in-Ok-read_reply.got in
    let rest = c.read_reply.new.inbox in
    if_heard c.said.result c.said.ensures (λ heard says.
    heard_by_bytes _ _ _ _ _ _ (Ok (answered got rest)) heard c.in_ok-asked.ensures c.in-Ok.ensures c.in-Ok-read_reply.ensures.takes
    (saw_from c.in_ok-inbox.ensures (reply_heard most_body _ _ _ rest got c.in-Ok-read_reply.ensures.reply)) (says rest))

pub returns-in-Err-BadReply : goal.returns-in-Err-BadReply
returns-in-Err-BadReply g c =
    heard_by_bytes _ _ _ _ _ _ (Err end.BadReply) BadReply c.in_ok-asked.ensures c.in-Ok.ensures c.in-Err-BadReply.ensures.takes
    (saw_from c.in_ok-inbox.ensures (end_heard most_body _ _ _ end.BadReply (rw c.in-Err-BadReply.field-0-is at c.in-Err-BadReply.ensures.ends) tt)) refl

pub returns-in-Err-TooLong : goal.returns-in-Err-TooLong
returns-in-Err-TooLong g c =
    let long = end.TooLong c.in-Err-TooLong.field-0-0 in
    heard_by_bytes _ _ _ _ _ _ (Err long) BadReply c.in_ok-asked.ensures c.in-Ok.ensures c.in-Err-TooLong.ensures.takes
    (saw_from c.in_ok-inbox.ensures (end_heard most_body _ _ _ long (rw c.in-Err-TooLong.field-0-is at c.in-Err-TooLong.ensures.ends) tt)) refl

pub returns-in-Err-Cut : goal.returns-in-Err-Cut
returns-in-Err-Cut g c =
    heard_by_bytes _ _ _ _ _ _ (Err end.Cut) Lost c.in_ok-asked.ensures c.in-Ok.ensures c.in-Err-Cut.ensures.takes
    (saw_from c.in_ok-inbox.ensures (end_heard most_body _ _ _ end.Cut (rw c.in-Err-Cut.field-0-is at c.in-Err-Cut.ensures.ends) tt)) refl

pub returns-in-Err-LinkFault : goal.returns-in-Err-LinkFault
returns-in-Err-LinkFault g c =
    heard_lost _ _ _ _ _ _ c.in_ok-asked.ensures c.in-Ok.ensures c.in-Err-LinkFault.ensures.takes (ap Err c.in-Err-LinkFault.field-0-is)
