use Rattle.std.proofs.Common.{true, sym, subst}
use Rattle.dataselect.specs.DataBody.{answer_of, RefusesAs}
use Rattle.split_fetch.specs.Gathering.{AreBytes}
use Rattle.split_fetch.proofs.Shelved.{asked_of, gathered_ok, gathered_none, gathered_large}
use Rattle.split_fetch.proofs.gathering.gather_on.Goals as goal

pub returns-in-Ok : goal.returns-in-Ok
returns-in-Ok g c =
    let shelf = g.S.Shelf.rows c.insert_all.new.self in
    let query = c.args.everything.now in
    let asked = asked_of (g.S.Shelf.rows c.args.shelf) shelf c.args.rows query c.requires.empty c.in_ok-insert_all.ensures.ok
    c.requires.all c.requires.minimum c.requires.longest c.requires.rising in
    gathered_ok shelf c.args.rows query asked c.in-Ok.bytes c.in-Ok.ensures.body

pub returns-in-Err-Empty : goal.returns-in-Err-Empty
returns-in-Err-Empty g c =
    let shelf = g.S.Shelf.rows c.insert_all.new.self in
    let query = c.args.everything.now in
    let asked = asked_of (g.S.Shelf.rows c.args.shelf) shelf c.args.rows query c.requires.empty c.in_ok-insert_all.ensures.ok
    c.requires.all c.requires.minimum c.requires.longest c.requires.rising in
    let refused = subst (RefusesAs
    (answer_of (λ _. true) query 268_435_456 shelf)) c.in-Err-Empty.field-0-is c.in-Err-Empty.ensures.refused in
    subst (AreBytes c.args.rows) (sym c.new.ensures) (gathered_none shelf c.args.rows query asked refused)

pub returns-in-Err-TooLarge : goal.returns-in-Err-TooLarge
returns-in-Err-TooLarge g c =
    let shelf = g.S.Shelf.rows c.insert_all.new.self in
    let query = c.args.everything.now in
    let asked = asked_of (g.S.Shelf.rows c.args.shelf) shelf c.args.rows query c.requires.empty c.in_ok-insert_all.ensures.ok
    c.requires.all c.requires.minimum c.requires.longest c.requires.rising in
    let refused = subst (RefusesAs (answer_of (λ _. true) query 268_435_456 shelf)) c.in-Err-TooLarge.field-0-is
    c.in-Err-TooLarge.ensures.refused in
    gathered_large shelf c.args.rows query asked c.in-Err-TooLarge.bytes refused
