use Rattle.desk_words.specs.Setting.{setting}
use Rattle.centre_port.specs.Visits.{port_scene, ServesPort}
use Rattle.centre_port.proofs.serving.serve_port.Given as goal

-- the links so far were served
abbrev pub invariant-links : goal.invariant-links
invariant-links g l =
    ServesPort
    (port_scene (g.K.Desk.stand l.fn.desk) (g.P.Port.view l.fn.port) (g.C.Clock.given l.fn.clock))
    (port_scene (g.K.Desk.stand l.desk) (g.P.Port.view l.port) (g.C.Clock.given l.clock))
    (setting l.fn.secret l.fn.limits)
