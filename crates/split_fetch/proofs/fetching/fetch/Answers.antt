use Rattle.std.proofs.Common.{◌∙◌, refl, sym, ap, subst, arith, reverse, List}
use Rattle.std.proofs.lemmas.Int.{ints}
use Rattle.link_ports.specs.Ports.{IsSpent}
use Rattle.split_fetch.specs.Plans.{stage_of, way_of}
use Rattle.split_fetch.specs.Rounds.{Goes, Ends, begun, after, first_of_todo}
use Rattle.split_fetch.specs.declared.window.Window.{Window}
use Rattle.split_fetch.proofs.FetchSteps.{fetches_none, so_far_none, still, unheard, on_again, led, some_todo, within, accepted, finished}
use Rattle.split_fetch.proofs.NextAsked.{after_less}
use Rattle.split_fetch.proofs.fetching.fetch.Goals as goal

pub returns-in-Err : goal.returns-in-Err
returns-in-Err g c = (Goes (begun c.args.window 1), fetches_none c.args.codes.now c.args.window (g.P.Port.view c.args.port.now), tt, tt)

pub asks-init : goal.asks-init
asks-init g c = so_far_none c.args.codes.now c.args.window (g.P.Port.view c.args.port.now) (stage_of c.in-Ok.plan) c.in-Ok.ensures

pub unreachable-requires : goal.unreachable-requires
unreachable-requires g c =
    some_todo c.args.codes.now c.args.window _ _ (stage_of c.asks.plan) c.asks.invariant
    (ap (λ (ws : List Window). reverse ws) (sym c.as_slice.ensures ∙ c.in_default.ensures.none refl))

pub returns-in-Ok-None : goal.returns-in-Ok-None
returns-in-Ok-None g c =
    let s = stage_of c.asks.plan in
    let gives = rw c.in-Ok-None.field-0-is at c.in-Ok-None.ensures.gives in
    let it = still c.args.codes.now c.args.window _ _ s c.asks.invariant _ gives.1 c.accept.ensures.back c.accept.ensures.cause.later in (
      Goes s,
      it.0,
      it.1,
      (s, refl, subst (λ o. IsSpent o) (sym gives.1) gives.0),
    )

pub returns-in-Err-accept : goal.returns-in-Err-accept
returns-in-Err-accept g c =
    let s = stage_of c.asks.plan in
    let before = c.asks.invariant.later in
    let rose = c.in-Err-accept.ensures.cause.failed in
    let it = still c.args.codes.now c.args.window _ _ s c.asks.invariant _ c.in-Err-accept.ensures.gives c.accept.ensures.back c.accept.ensures.cause.later in (
      Goes s,
      it.0,
      it.1,
      (s, refl, omega (arith, before, rose)),
    )

pub ask-heard-requires-clause-window : goal.ask-heard-requires-clause-window
ask-heard-requires-clause-window g c =
    let whole = c.requires.window in
    let first = ap (λ (ws : List Window). first_of_todo (reverse ws)) (sym c.as_slice.ensures) ∙ c.in-Some.ensures.some in
    let at = within c.args.codes.now c.args.window _ _ (stage_of c.asks.plan) c.asks.invariant whole.forward c.in-Some.next first in
    let from = at.0 in
    let forward = at.1 in
    let to = at.2 in
    let low = whole.start.from in
    let high = whole.end.before in
    record {
      forward = forward;
      start = record { from = omega (arith, ints, low, from); before = omega (arith, ints, high, forward, to) };
      end = record { from = omega (arith, ints, low, from, forward); before = omega (arith, ints, high, to) };
    }

pub returns-in-Err-heard : goal.returns-in-Err-heard
returns-in-Err-heard g c =
    let s = stage_of c.asks.plan in
    let took = rw c.in-Ok-Some.field-0-is at c.in-Ok-Some.ensures.gives in (
      Goes s,
      unheard c.args.codes.now c.args.window _ _ s c.asks.invariant _ _ _ _ took c.accept.ensures.back c.accept.ensures.cause.later
          c.give_back.ensures.left c.give_back.ensures.back c.give_back.ensures.faults,
      tt,
      tt,
    )

pub asks-smaller : goal.asks-smaller
asks-smaller g c =
    let first = ap (λ (ws : List Window). first_of_todo (reverse ws)) (sym c.as_slice.ensures) ∙ c.in-Some.ensures.some in
    after_less (stage_of c.asks.plan) c.asks.plan.asked_in (stage_of c.in-Ok-Goes.further) c.in-Some.next c.in-Ok-heard.heard first
    (sym c.in-Ok-Goes.ensures ∙ ap way_of c.in-Ok-Goes.field-0-is)

pub asks-preserved : goal.asks-preserved
asks-preserved g c =
    let took = rw c.in-Ok-Some.field-0-is at c.in-Ok-Some.ensures.gives in
    let first = ap (λ (ws : List Window). first_of_todo (reverse ws)) (sym c.as_slice.ensures) ∙ c.in-Some.ensures.some in
    on_again c.args.codes.now c.args.window _ _ (stage_of c.asks.plan) c.asks.invariant _ _ _ _ took c.accept.ensures.back c.accept.ensures.cause.later
    c.give_back.ensures.left c.give_back.ensures.back c.give_back.ensures.faults c.in-Some.next c.in-Ok-heard.heard first c.in-Ok-heard.ensures
    (stage_of c.in-Ok-Goes.further) (sym c.in-Ok-Goes.ensures ∙ ap way_of c.in-Ok-Goes.field-0-is)

pub ended-requires : goal.ended-requires
ended-requires g c =
    let took = rw c.in-Ok-Some.field-0-is at c.in-Ok-Some.ensures.gives in
    let first = ap (λ (ws : List Window). first_of_todo (reverse ws)) (sym c.as_slice.ensures) ∙ c.in-Some.ensures.some in
    let all = led c.args.codes.now c.args.window _ _ (stage_of c.asks.plan) c.asks.invariant _ _ _ _ took c.accept.ensures.back c.accept.ensures.cause.later
    c.give_back.ensures.left c.give_back.ensures.back c.give_back.ensures.faults c.in-Some.next c.in-Ok-heard.heard first c.in-Ok-heard.ensures
    (Ends c.in-Ok-Ends.outcome) (sym c.in-Ok-Ends.ensures ∙ ap way_of c.in-Ok-Ends.field-0-is) in
    accepted c.args.codes.now c.args.window _ _ c.in-Ok-Ends.outcome all.0 c.requires.window.forward

pub returns-in-Ok-Ends : goal.returns-in-Ok-Ends
returns-in-Ok-Ends g c =
    let took = rw c.in-Ok-Some.field-0-is at c.in-Ok-Some.ensures.gives in
    let first = ap (λ (ws : List Window). first_of_todo (reverse ws)) (sym c.as_slice.ensures) ∙ c.in-Some.ensures.some in
    let all = led c.args.codes.now c.args.window _ _ (stage_of c.asks.plan) c.asks.invariant _ _ _ _ took c.accept.ensures.back c.accept.ensures.cause.later
    c.give_back.ensures.left c.give_back.ensures.back c.give_back.ensures.faults c.in-Some.next c.in-Ok-heard.heard first c.in-Ok-heard.ensures
    (Ends c.in-Ok-Ends.outcome) (sym c.in-Ok-Ends.ensures ∙ ap way_of c.in-Ok-Ends.field-0-is) in
    finished c.args.codes.now c.args.window _ _ c.in-Ok-Ends.outcome all.0 all.1 c.ended.result c.ended.ensures

pub returns-in-Err-after : goal.returns-in-Err-after
returns-in-Err-after g c =
    let took = rw c.in-Ok-Some.field-0-is at c.in-Ok-Some.ensures.gives in
    let first = ap (λ (ws : List Window). first_of_todo (reverse ws)) (sym c.as_slice.ensures) ∙ c.in-Some.ensures.some in
    let way = after (stage_of c.asks.plan) c.in-Ok-heard.heard in (
      way,
      (led c.args.codes.now c.args.window _ _ (stage_of c.asks.plan) c.asks.invariant _ _ _ _ took c.accept.ensures.back c.accept.ensures.cause.later
          c.give_back.ensures.left c.give_back.ensures.back c.give_back.ensures.faults c.in-Some.next c.in-Ok-heard.heard first c.in-Ok-heard.ensures way refl).0,
      tt,
      tt,
    )
