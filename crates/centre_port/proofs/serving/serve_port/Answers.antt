use Rattle.desk_words.specs.Setting.{setting}
use Rattle.centre_port.specs.Visits.{port_scene}
use Rattle.centre_port.proofs.Visits.{serves_none, link_done}
use Rattle.centre_port.proofs.serving.serve_port.Goals as goal

pub links-init : goal.links-init
links-init g c = serves_none _ _

pub links-preserved : goal.links-preserved
links-preserved g c =
    let see = g.P.Given.Stream.view in
    let desk = g.K.Desk.stand in
    let port = g.P.Port.view in
    let clock = g.C.Clock.given in
    let gives = rw c.in-Ok-Some.field-0-is at c.in-Ok-Some.ensures.gives in
    let turns = c.as_slice.result.now in
    link_done
    (port_scene (desk c.args.desk.now) (port c.args.port.now) (clock c.args.clock.now))
    (port_scene (desk c.links.desk) (port c.links.port) (clock c.links.clock))
    (port_scene (desk c.serve_session-end.new.desk) (port c.give_back.new.self) (clock c.serve_session-end.new.clock))
    (setting c.args.secret.now c.args.limits.now)
    (see c.in-Ok-Some.link) (see c.serve_session-end.new.link)
    (port c.accept.new.self).left (port c.accept.new.self).back (port c.accept.new.self).faults turns c.serve_session-end.result
    c.links.invariant gives c.give_back.ensures.left c.accept.ensures.back c.give_back.ensures.back c.accept.ensures.cause.later c.give_back.ensures.faults
    (rw c.as_slice.ensures c.serve_session-end.ensures)
