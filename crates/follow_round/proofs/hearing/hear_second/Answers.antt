use Rattle.std.proofs.Common.{subst, sym}
use Rattle.std.specs.Prelude.{IfOk, OnErr}
use Rattle.http_answers.specs.Requests.{request_bytes}
use Rattle.streams.specs.Effects.{WritesPart}
use Rattle.follow_round.specs.Steps.{HeardBehind}
use Rattle.follow_round.proofs.HeardSteps.{heard_second, heard_end, short_end}
use Rattle.follow_round.proofs.hearing.hear_second.Goals as goal

pub returns-in-Ok-clause-heard : goal.returns-in-Ok-clause-heard
returns-in-Ok-clause-heard g c = heard_second (request_bytes c.args.asked.now) _ _ c.args.inbox.now c.exchange.new.inbox c.in-Ok.got c.said.result c.in-Ok.ensures c.said.ensures

pub returns-in-Err-clause-heard : goal.returns-in-Err-clause-heard
returns-in-Err-clause-heard g c =
    subst (λ r. IfOk r (HeardBehind (request_bytes c.args.asked.now) (g.L.Stream.view c.args.link.now) (g.L.Stream.view c.exchange.new.link) c.args.inbox.now)) (sym c.ended.ensures)
    (heard_end (request_bytes c.args.asked.now) _ _ c.args.inbox.now c.in-Err.why c.in-Err.ensures)

pub returns-in-Err-clause-short : goal.returns-in-Err-clause-short
returns-in-Err-clause-short g c =
    subst (λ r. OnErr r (WritesPart (g.L.Stream.view c.args.link.now).written (g.L.Stream.view c.exchange.new.link).written (request_bytes c.args.asked.now))) (sym c.ended.ensures)
    (short_end (request_bytes c.args.asked.now) _ _ c.args.inbox.now c.in-Err.why c.in-Err.ensures)
