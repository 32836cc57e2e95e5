use Rattle.std.proofs.Common.{◌∙◌, sym, ap, map}
use Rattle.http_wire.specs.FieldPairs.{as_pair}
use Rattle.desk_words.specs.Setting.{setting}
use Rattle.centre_desk.specs.Fields.{front_asked}
use Rattle.centre_desk.specs.Queries.{wanted_of}
use Rattle.centre_desk.proofs.Asks.{goes_then, query_says}
use Rattle.centre_desk.proofs.answering.query_said.Goals as goal

pub returns-then-front-least-clause-says : goal.returns-then-front-least-clause-says
returns-then-front-least-clause-says g c =
    let old = g.K.Desk.stand c.args.desk.now in
    let mid = g.K.Desk.stand c.catch_up.new.self in
    let new = g.K.Desk.stand c.answer_told.new.desk in
    let r = c.args.request.now in
    query_says old new r c.args.moment (setting c.args.secret.now c.args.limits.now) c.args.access (wanted_of c.args.asked r.method c.args.query.now r.body) c.in-Some.least
    (front_asked (map as_pair r.headers)) c.in_ok-asking.asking c.in_ok-asking.ensures (sym (c.front_asked.ensures ∙ ap (λ l. front_asked (map as_pair l)) c.as_slice.ensures) ∙ c.in-Some.is)
    (goes_then old mid new c.catch_up.ensures.goes_on c.answer_told.ensures.answer.goes_on) (c.answer_told.ensures.answer.made ∙ c.catch_up.ensures.made)
    c.answer_told.result c.answer_told.ensures.answer.said

pub returns-clause-says : goal.returns-clause-says
returns-clause-says g c =
    let old = g.K.Desk.stand c.args.desk.now in
    let new = g.K.Desk.stand c.answer_told-2.new.desk in
    let r = c.args.request.now in
    query_says old new r c.args.moment (setting c.args.secret.now c.args.limits.now) c.args.access (wanted_of c.args.asked r.method c.args.query.now r.body) c.in-Some.least
    (front_asked (map as_pair r.headers)) c.in_ok-asking.asking c.in_ok-asking.ensures (sym (c.front_asked.ensures ∙ ap (λ l. front_asked (map as_pair l)) c.as_slice.ensures) ∙ c.in-Some.is)
    c.answer_told-2.ensures.answer.goes_on c.answer_told-2.ensures.answer.made c.answer_told-2.result c.answer_told-2.ensures.answer.said
