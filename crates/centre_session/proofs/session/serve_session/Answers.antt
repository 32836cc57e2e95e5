use Rattle.std.proofs.Common.{◌≡◌, ◌∙◌, refl, sym, ap, subst, arith, inl, ℕ, ◌+◌, ◌≤◌, List, [], ◌∷◌, length, length-append, ◌==◌, Ok, Err}
use Rattle.desk_words.specs.Setting.{setting}
use Rattle.centre_session.specs.Session.{scene}
use Rattle.centre_session.proofs.Endings.{begins, ended, going, closed, broken, ran_out}
use Rattle.centre_session.proofs.Bodies.{body_within, says_by, few_more}
use Rattle.http_wire.specs.Fronts.{front_limit}
use Rattle.http_wire.specs.Heads.{closes}
use Rattle.centre_session.proofs.session.serve_session.Goals as goal

pub returns-in_default : goal.returns-in_default
returns-in_default g c =
    let s = setting c.args.secret.now c.args.limits.now in
    let x = scene (g.K.Desk.stand c.args.desk.now) (g.L.Stream.view c.args.link.now) (g.C.Clock.given c.args.clock.now) in
    let z = scene (g.K.Desk.stand c.args.desk.now) (g.L.Stream.view c.run_out-written.new.link) (g.C.Clock.given c.run_out-written.new.clock) in
    ran_out x x s c.clear.new.self [] (begins x s c.clear.new.self [] c.clear.ensures refl) (g.L.Stream.view c.args.link.now) (omega arith) z c.run_out-written.new.trail c.run_out-written.result c.run_out-written.ensures.row (inl refl)

pub items-init : goal.items-init
items-init g c =
    let x = scene (g.K.Desk.stand c.args.desk.now) (g.L.Stream.view c.args.link.now) (g.C.Clock.given c.args.clock.now) in
    (begins x (setting c.args.secret.now c.args.limits.now) c.clear.new.self c.in-Ok.inbox c.clear.ensures c.in-Ok.ensures, (let none = ap length c.clear.ensures in omega (arith, none)))

pub returns-in-Err : goal.returns-in-Err
returns-in-Err g c =
    let s = setting c.args.secret.now c.args.limits.now in
    let x = scene (g.K.Desk.stand c.args.desk.now) (g.L.Stream.view c.args.link.now) (g.C.Clock.given c.args.clock.now) in
    let y = scene (g.K.Desk.stand c.items.desk) (g.L.Stream.view c.items.link) (g.C.Clock.given c.items.clock) in
    let z = scene (g.K.Desk.stand c.end_session.new.desk) (g.L.Stream.view c.end_session.new.link) (g.C.Clock.given c.end_session.new.clock) in
    ended x y s c.items.trail c.items.inbox c.items.invariant.0 (g.L.Stream.view c.read_request.new.link) c.read_request.ensures.later
    c.in-Err.end c.end_session.result z c.end_session.new.trail c.in-Err.ensures.ends (λ is. c.read_request.ensures.fault (c.in-Err.is ∙ ap Err is)) c.end_session.ensures.row

pub serve_request-requires-clause-body : goal.serve_request-requires-clause-body
serve_request-requires-clause-body g c =
    let gives = c.in-Ok-read_request.ensures.request in
    subst (λ (b : List ℕ). length b ≤ 1048576) (sym c.closing_if-request.ensures.same.3) (body_within front_limit 1048576 gives.used gives.head c.in-Ok-read_request.request.body gives.item)

pub returns-in-Err-serve_request : goal.returns-in-Err-serve_request
returns-in-Err-serve_request g c =
    let s = setting c.args.secret.now c.args.limits.now in
    let x = scene (g.K.Desk.stand c.args.desk.now) (g.L.Stream.view c.args.link.now) (g.C.Clock.given c.args.clock.now) in
    let y = scene (g.K.Desk.stand c.items.desk) (g.L.Stream.view c.items.link) (g.C.Clock.given c.items.clock) in
    let z = scene (g.K.Desk.stand c.serve_request.new.desk) (g.L.Stream.view c.serve_request.new.link) (g.C.Clock.given c.serve_request.new.clock) in
    let gives = c.in-Ok-read_request.ensures.request in
    let same = c.closing_if-request.ensures.same in
    let says = says_by (length c.items.trail) gives.head c.in-Ok-read_request.request c.closing_if-request.result _ gives.tells same.0 same.1 same.2 c.closing_if-request.ensures.close (ap (λ (n : ℕ). n + 1 == 1000) c.len-in-items.ensures) in
    let row = c.in-Err-serve_request.ensures.row gives.head in
    broken x y s c.items.trail c.items.inbox c.items.invariant.0 (g.L.Stream.view c.read_request.new.link) c.read_request.new.inbox c.in-Ok-read_request.request gives c.read_request.ensures.later
    c.closing_if-request.result says same.3 z c.serve_request.new.trail (Err c.in-Err-serve_request.field-0) row row.puts.cause.failed row.puts.part

pub returns-then-request : goal.returns-then-request
returns-then-request g c =
    let s = setting c.args.secret.now c.args.limits.now in
    let x = scene (g.K.Desk.stand c.args.desk.now) (g.L.Stream.view c.args.link.now) (g.C.Clock.given c.args.clock.now) in
    let y = scene (g.K.Desk.stand c.items.desk) (g.L.Stream.view c.items.link) (g.C.Clock.given c.items.clock) in
    let z = scene (g.K.Desk.stand c.serve_request.new.desk) (g.L.Stream.view c.serve_request.new.link) (g.C.Clock.given c.serve_request.new.clock) in
    let gives = c.in-Ok-read_request.ensures.request in
    let same = c.closing_if-request.ensures.same in
    let says = says_by (length c.items.trail) gives.head c.in-Ok-read_request.request c.closing_if-request.result _ gives.tells same.0 same.1 same.2 c.closing_if-request.ensures.close (ap (λ (n : ℕ). n + 1 == 1000) c.len-in-items.ensures) in
    let row = c.in-Ok-serve_request.ensures.row gives.head in
    inl (closed x y s c.items.trail c.items.inbox c.items.invariant.0 (g.L.Stream.view c.read_request.new.link) c.read_request.new.inbox c.in-Ok-read_request.request gives c.read_request.ensures.later
    c.closing_if-request.result says same.3 z c.serve_request.new.trail (Ok c.in-Ok-serve_request.field-0) row c.if-request.true row.puts.ok)

pub items-preserved : goal.items-preserved
items-preserved g c =
    let s = setting c.args.secret.now c.args.limits.now in
    let x = scene (g.K.Desk.stand c.args.desk.now) (g.L.Stream.view c.args.link.now) (g.C.Clock.given c.args.clock.now) in
    let y = scene (g.K.Desk.stand c.items.desk) (g.L.Stream.view c.items.link) (g.C.Clock.given c.items.clock) in
    let z = scene (g.K.Desk.stand c.serve_request.new.desk) (g.L.Stream.view c.serve_request.new.link) (g.C.Clock.given c.serve_request.new.clock) in
    let gives = c.in-Ok-read_request.ensures.request in
    let same = c.closing_if-request.ensures.same in
    let says = says_by (length c.items.trail) gives.head c.in-Ok-read_request.request c.closing_if-request.result _ gives.tells same.0 same.1 same.2 c.closing_if-request.ensures.close (ap (λ (n : ℕ). n + 1 == 1000) c.len-in-items.ensures) in
    let row = c.in-Ok-serve_request.ensures.row gives.head in
    let few = few_more (closes gives.head) (length c.items.trail) (sym says.close_is ∙ c.if-request.false) c.items.invariant.1 in
    let longer : length c.serve_request.new.trail ≡ length c.items.trail + 1 = ap length row.turns ∙ length-append c.items.trail (row.turn ∷ []) in (
      going x y s c.items.trail c.items.inbox c.items.invariant.0 (g.L.Stream.view c.read_request.new.link) c.read_request.new.inbox c.in-Ok-read_request.request gives c.read_request.ensures.later
          c.closing_if-request.result says same.3 z c.serve_request.new.trail (Ok c.in-Ok-serve_request.field-0) row c.if-request.false row.puts.ok,
      omega (arith, few, longer),
    )

pub items-smaller : goal.items-smaller
items-smaller g c =
    let row = c.in-Ok-serve_request.ensures.row c.in-Ok-read_request.ensures.request.head in
    let longer : length c.serve_request.new.trail ≡ length c.items.trail + 1 = ap length row.turns ∙ length-append c.items.trail (row.turn ∷ []) in
    omega (arith, c.items.invariant.1, longer)

pub items-preserved-else-request : goal.items-preserved-else-request
items-preserved-else-request g c =
    let s = setting c.args.secret.now c.args.limits.now in
    let x = scene (g.K.Desk.stand c.args.desk.now) (g.L.Stream.view c.args.link.now) (g.C.Clock.given c.args.clock.now) in
    let y = scene (g.K.Desk.stand c.items.desk) (g.L.Stream.view c.items.link) (g.C.Clock.given c.items.clock) in
    let z = scene (g.K.Desk.stand c.serve_request.new.desk) (g.L.Stream.view c.serve_request.new.link) (g.C.Clock.given c.serve_request.new.clock) in
    let gives = c.in-Ok-read_request.ensures.request in
    let same = c.closing_if-request.ensures.same in
    let says = says_by (length c.items.trail) gives.head c.in-Ok-read_request.request c.closing_if-request.result _ gives.tells same.0 same.1 same.2 c.closing_if-request.ensures.close (ap (λ (n : ℕ). n + 1 == 1000) c.len-in-items.ensures) in
    let row = c.in-Ok-serve_request.ensures.row gives.head in
    let few = few_more (closes gives.head) (length c.items.trail) (sym says.close_is ∙ c.if-request.false) c.items.invariant.1 in
    let longer : length c.serve_request.new.trail ≡ length c.items.trail + 1 = ap length row.turns ∙ length-append c.items.trail (row.turn ∷ []) in (
      going x y s c.items.trail c.items.inbox c.items.invariant.0 (g.L.Stream.view c.read_request.new.link) c.read_request.new.inbox c.in-Ok-read_request.request gives c.read_request.ensures.later
          c.closing_if-request.result says same.3 z c.serve_request.new.trail (Ok c.in-Ok-serve_request.field-0) row c.if-request.false row.puts.ok,
      omega (arith, few, longer),
    )

pub items-smaller-else-request : goal.items-smaller-else-request
items-smaller-else-request g c =
    let row = c.in-Ok-serve_request.ensures.row c.in-Ok-read_request.ensures.request.head in
    let longer : length c.serve_request.new.trail ≡ length c.items.trail + 1 = ap length row.turns ∙ length-append c.items.trail (row.turn ∷ []) in
    omega (arith, c.items.invariant.1, longer)
