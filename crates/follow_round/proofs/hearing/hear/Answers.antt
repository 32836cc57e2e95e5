use Rattle.std.proofs.Common.{List, ℕ, [], subst, sym, refl}
use Rattle.std.specs.Prelude.{IfOk, OnErr}
use Rattle.streams.specs.Effects.{WritesPart}
use Rattle.http_answers.specs.Requests.{request_bytes}
use Rattle.follow_round.specs.Hearing.{HeardOn, WrotePart}
use Rattle.follow_round.specs.Requests.{first_request}
use Rattle.follow_round.specs.Steps.{Breaks, GotReply, HeardBehind}
use Rattle.follow_round.proofs.HeardSteps.{first_end, first_short, heard_peer, heard_no_nonce, nonce_seen, heard_both, short_both, short_between, on_err}
use Rattle.follow_round.proofs.hearing.hear.Goals as goal

pub returns-in-Err-clause-heard : goal.returns-in-Err-clause-heard
returns-in-Err-clause-heard g c =
    let a = g.L.Stream.view c.args.link.now in
    let b = g.L.Stream.view c.exchange.new.link in
    let why = c.in-Err.why in
    let broken : Breaks (first_request c.args.wanted) a b [] why =
    subst (λ (r : List ℕ). Breaks r a b [] why) c.in_ok-first.ensures
    (subst (λ (o : List ℕ). Breaks (request_bytes c.in_ok-first.first) a b o why) c.in_ok-inbox.ensures c.in-Err.ensures) in
    subst (λ r. IfOk r (HeardOn c.args.user.now c.args.ha1.now c.args.wanted a b)) (sym c.ended.ensures)
    (first_end c.args.user.now c.args.ha1.now c.args.wanted a b why broken)

pub returns-in-Err-clause-short : goal.returns-in-Err-clause-short
returns-in-Err-clause-short g c =
    let a = g.L.Stream.view c.args.link.now in
    let b = g.L.Stream.view c.exchange.new.link in
    let why = c.in-Err.why in
    let broken : Breaks (first_request c.args.wanted) a b [] why =
    subst (λ (r : List ℕ). Breaks r a b [] why) c.in_ok-first.ensures
    (subst (λ (o : List ℕ). Breaks (request_bytes c.in_ok-first.first) a b o why) c.in_ok-inbox.ensures c.in-Err.ensures) in
    subst (λ r. OnErr r (WrotePart c.args.user.now c.args.ha1.now c.args.wanted a b)) (sym c.ended.ensures)
    (first_short c.args.user.now c.args.ha1.now c.args.wanted a b why broken)

pub returns-then-status-ne401-clause-heard : goal.returns-then-status-ne401-clause-heard
returns-then-status-ne401-clause-heard g c =
    let a = g.L.Stream.view c.args.link.now in
    let b = g.L.Stream.view c.exchange.new.link in
    let got = c.in-Ok.got in
    let held = c.exchange.new.inbox in
    let reply : GotReply (first_request c.args.wanted) a b [] held got =
    subst (λ (r : List ℕ). GotReply r a b [] held got) c.in_ok-first.ensures
    (subst (λ (o : List ℕ). GotReply (request_bytes c.in_ok-first.first) a b o held got) c.in_ok-inbox.ensures c.in-Ok.ensures) in
    heard_peer c.args.user.now c.args.ha1.now c.args.wanted a b held got reply c.if-status-ne401.true

pub returns-in_default-clause-heard : goal.returns-in_default-clause-heard
returns-in_default-clause-heard g c =
    let a = g.L.Stream.view c.args.link.now in
    let b = g.L.Stream.view c.exchange.new.link in
    let got = c.in-Ok.got in
    let held = c.exchange.new.inbox in
    let reply : GotReply (first_request c.args.wanted) a b [] held got =
    subst (λ (r : List ℕ). GotReply r a b [] held got) c.in_ok-first.ensures
    (subst (λ (o : List ℕ). GotReply (request_bytes c.in_ok-first.first) a b o held got) c.in_ok-inbox.ensures c.in-Ok.ensures) in
    heard_no_nonce c.args.user.now c.args.ha1.now c.args.wanted a b held got reply c.if-status-ne401.false c.in_default.is

pub second_asked-requires-clause-nonce : goal.second_asked-requires-clause-nonce
second_asked-requires-clause-nonce g c =
    let a = g.L.Stream.view c.args.link.now in
    let b = g.L.Stream.view c.exchange.new.link in
    let got = c.in-Ok.got in
    let held = c.exchange.new.inbox in
    let reply : GotReply (first_request c.args.wanted) a b [] held got =
    subst (λ (r : List ℕ). GotReply r a b [] held got) c.in_ok-first.ensures
    (subst (λ (o : List ℕ). GotReply (request_bytes c.in_ok-first.first) a b o held got) c.in_ok-inbox.ensures c.in-Ok.ensures) in
    nonce_seen c.args.user.now c.args.ha1.now c.args.wanted a b held got reply c.in-Some.nonce c.in-Some.is

pub returns-in_err-second-clause-short : goal.returns-in_err-second-clause-short
returns-in_err-second-clause-short g c =
    let a = g.L.Stream.view c.args.link.now in
    let b = g.L.Stream.view c.exchange.new.link in
    let got = c.in-Ok.got in
    let held = c.exchange.new.inbox in
    let reply : GotReply (first_request c.args.wanted) a b [] held got =
    subst (λ (r : List ℕ). GotReply r a b [] held got) c.in_ok-first.ensures
    (subst (λ (o : List ℕ). GotReply (request_bytes c.in_ok-first.first) a b o held got) c.in_ok-inbox.ensures c.in-Ok.ensures) in
    on_err c.from_residual-in_err-second.result
    (short_between c.args.user.now c.args.ha1.now c.args.wanted a b b held got c.in-Some.nonce reply c.if-status-ne401.false c.in-Some.is refl)

pub returns-clause-heard : goal.returns-clause-heard
returns-clause-heard g c =
    let a = g.L.Stream.view c.args.link.now in
    let b = g.L.Stream.view c.exchange.new.link in
    let d = g.L.Stream.view c.hear_second.new.link in
    let got = c.in-Ok.got in
    let held = c.exchange.new.inbox in
    let reply : GotReply (first_request c.args.wanted) a b [] held got =
    subst (λ (r : List ℕ). GotReply r a b [] held got) c.in_ok-first.ensures
    (subst (λ (o : List ℕ). GotReply (request_bytes c.in_ok-first.first) a b o held got) c.in_ok-inbox.ensures c.in-Ok.ensures) in
    heard_both c.args.user.now c.args.ha1.now c.args.wanted a b d held got c.in-Some.nonce reply c.if-status-ne401.false c.in-Some.is c.hear_second.result
    (subst (λ (r : List ℕ). IfOk c.hear_second.result (HeardBehind r b d held)) c.in_ok-second.ensures c.hear_second.ensures.heard)

pub returns-clause-short : goal.returns-clause-short
returns-clause-short g c =
    let a = g.L.Stream.view c.args.link.now in
    let b = g.L.Stream.view c.exchange.new.link in
    let d = g.L.Stream.view c.hear_second.new.link in
    let got = c.in-Ok.got in
    let held = c.exchange.new.inbox in
    let reply : GotReply (first_request c.args.wanted) a b [] held got =
    subst (λ (r : List ℕ). GotReply r a b [] held got) c.in_ok-first.ensures
    (subst (λ (o : List ℕ). GotReply (request_bytes c.in_ok-first.first) a b o held got) c.in_ok-inbox.ensures c.in-Ok.ensures) in
    short_both c.args.user.now c.args.ha1.now c.args.wanted a b d held got c.in-Some.nonce reply c.if-status-ne401.false c.in-Some.is c.hear_second.result
    (subst (λ (r : List ℕ). OnErr c.hear_second.result (WritesPart b.written d.written r)) c.in_ok-second.ensures c.hear_second.ensures.short)
