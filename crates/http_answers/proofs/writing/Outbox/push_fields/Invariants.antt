use Rattle.std.proofs.Common.{take}
use Rattle.http_answers.specs.Requests.{lines_of}
use Rattle.http_answers.specs.Sending.{Sent}
use Rattle.http_answers.proofs.writing.Outbox.push_fields.Given as goal

-- the lines so far were pushed
abbrev pub invariant-fields : goal.invariant-fields
invariant-fields g l = Sent (g.L.Stream.view l.fn.link) (g.L.Stream.view l.link) l.fn.self l.self (lines_of (take l.field-index l.fields))
