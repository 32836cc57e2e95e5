use Rattle.std.proofs.Common.{◌-◌, ◌<◌, length}
use Rattle.desk_words.specs.Setting.{setting}
use Rattle.centre_session.specs.Session.{scene}
use Rattle.centre_session.proofs.Endings.{SoFar}
use Rattle.centre_session.proofs.session.serve_session.Given as goal

-- what was served so far; a session of a thousand replies has ended
abbrev pub invariant-items : goal.invariant-items
invariant-items g l =
    SoFar
    (scene (g.K.Desk.stand l.fn.desk) (g.L.Stream.view l.fn.link) (g.C.Clock.given l.fn.clock))
    (scene (g.K.Desk.stand l.desk) (g.L.Stream.view l.link) (g.C.Clock.given l.clock))
    (setting l.secret l.limits) l.trail l.inbox
    × (length l.trail < 1000)

abbrev pub decreases-items : goal.decreases-items
decreases-items g l = 1000 - length l.trail
