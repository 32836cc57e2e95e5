use Rattle.std.proofs.Common.{refl, sym, ap, subst}
use Rattle.http_wire.specs.declared.ending.ReadEnd.{ReadEnd}
use Rattle.centre_session.specs.Session.{scene}
use Rattle.centre_session.specs.Steps.{EndRow, end_by}
use Rattle.centre_session.specs.declared.ending.SessionEnd.TheVariants.{Closed, LinkFault, Memory}
use Rattle.centre_session.proofs.serving.end_session.Goals as goal

pub returns-in-OutOfMemory : goal.returns-in-OutOfMemory
returns-in-OutOfMemory g c =
    let x = scene (g.K.Desk.stand c.args.desk.now) (g.L.Stream.view c.args.link.now) (g.C.Clock.given c.args.clock.now) in
    let z = scene (g.K.Desk.stand c.args.desk.now) (g.L.Stream.view c.run_out-written.new.link) (g.C.Clock.given c.run_out-written.new.clock) in
    record { row = subst (λ (e : ReadEnd). EndRow x z c.args.trail.now c.run_out-written.new.trail e Memory) (sym c.in-OutOfMemory.is) (refl, (c.run_out-written.result, c.run_out-written.ensures.row)) }

pub returns-in-Ok : goal.returns-in-Ok
returns-in-Ok g c =
    let x = scene (g.K.Desk.stand c.args.desk.now) (g.L.Stream.view c.args.link.now) (g.C.Clock.given c.args.clock.now) in
    let z = scene (g.K.Desk.stand c.refuse_head.new.desk) (g.L.Stream.view c.refuse_head.new.link) (g.C.Clock.given c.refuse_head.new.clock) in
    record { row = subst (λ (e : ReadEnd). EndRow x z c.args.trail.now c.refuse_head.new.trail e Closed) (sym c.in-Head.is) (c.refuse_head.result, sym (ap end_by c.in-Ok.is), c.refuse_head.ensures.row) }

pub returns-in-Err : goal.returns-in-Err
returns-in-Err g c =
    let x = scene (g.K.Desk.stand c.args.desk.now) (g.L.Stream.view c.args.link.now) (g.C.Clock.given c.args.clock.now) in
    let z = scene (g.K.Desk.stand c.refuse_head.new.desk) (g.L.Stream.view c.refuse_head.new.link) (g.C.Clock.given c.refuse_head.new.clock) in
    record { row = subst (λ (e : ReadEnd). EndRow x z c.args.trail.now c.refuse_head.new.trail e LinkFault) (sym c.in-Head.is) (c.refuse_head.result, sym (ap end_by c.in-Err.is), c.refuse_head.ensures.row) }
