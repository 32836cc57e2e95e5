use Rattle.std.proofs.Common.{ℕ, ◌+◌, Ok, refl, subst}
use Rattle.follow_round.specs.Hearing.{HeardOn}
use Rattle.follow_round.specs.declared.heard.Heard.{Heard}
use Rattle.follow_round.specs.declared.heard.Heard.TheVariants as heard
use Rattle.follow_round.proofs.one_round.round.Goals as goal

pub returns-in-CaughtUp : goal.returns-in-CaughtUp
returns-in-CaughtUp g c =
    let on = subst (λ (n : ℕ). HeardOn c.args.user.now c.args.ha1.now n (g.L.Stream.view c.args.link.now) (g.L.Stream.view c.hear.new.link) c.in_ok-body.field-0) c.wanted.ensures.wanted c.in_ok-body.ensures.heard in
    let same = subst (λ (h : Heard). HeardOn c.args.user.now c.args.ha1.now (c.args.follower.now.count + 1) (g.L.Stream.view c.args.link.now) (g.L.Stream.view c.hear.new.link) h) c.in-CaughtUp.is on in
    record { row = record { heard = heard.CaughtUp; on = same; taken = Ok 0; takes = refl; answer = refl } }

pub returns-in-Peer : goal.returns-in-Peer
returns-in-Peer g c =
    let on = subst (λ (n : ℕ). HeardOn c.args.user.now c.args.ha1.now n (g.L.Stream.view c.args.link.now) (g.L.Stream.view c.hear.new.link) c.in_ok-body.field-0) c.wanted.ensures.wanted c.in_ok-body.ensures.heard in
    let same = subst (λ (h : Heard). HeardOn c.args.user.now c.args.ha1.now (c.args.follower.now.count + 1) (g.L.Stream.view c.args.link.now) (g.L.Stream.view c.hear.new.link) h) c.in-Peer.is on in
    record { row = record { heard = heard.Peer c.in-Peer.status; on = same; taken = Ok 0; takes = refl; answer = refl } }

pub returns-in-BadReply : goal.returns-in-BadReply
returns-in-BadReply g c =
    let on = subst (λ (n : ℕ). HeardOn c.args.user.now c.args.ha1.now n (g.L.Stream.view c.args.link.now) (g.L.Stream.view c.hear.new.link) c.in_ok-body.field-0) c.wanted.ensures.wanted c.in_ok-body.ensures.heard in
    let same = subst (λ (h : Heard). HeardOn c.args.user.now c.args.ha1.now (c.args.follower.now.count + 1) (g.L.Stream.view c.args.link.now) (g.L.Stream.view c.hear.new.link) h) c.in-BadReply.is on in
    record { row = record { heard = heard.BadReply; on = same; taken = Ok 0; takes = refl; answer = refl } }

pub returns : goal.returns
returns g c =
    let on = subst (λ (n : ℕ). HeardOn c.args.user.now c.args.ha1.now n (g.L.Stream.view c.args.link.now) (g.L.Stream.view c.hear.new.link) c.in_ok-body.field-0) c.wanted.ensures.wanted c.in_ok-body.ensures.heard in
    let same = subst (λ (h : Heard). HeardOn c.args.user.now c.args.ha1.now (c.args.follower.now.count + 1) (g.L.Stream.view c.args.link.now) (g.L.Stream.view c.hear.new.link) h) c.in-Lost.is on in
    record { row = record { heard = heard.Lost; on = same; taken = Ok 0; takes = refl; answer = refl } }
