use Rattle.std.proofs.Common.{◌∙◌, ap, subst, List, map}
use Rattle.std.specs.Borrow.{Bor}
use Rattle.epochs.specs.Kinds.{Text}
use Rattle.epochs.specs.Lines.{texts_of}
use Rattle.epochs.specs.Reading.{IsHead, RefusesBehind, RefusesRevisionLine}
use Rattle.epochs.proofs.LadderSteps.{line_refused, refused_by}
use Rattle.epochs.proofs.reading.read_line.Goals as goal

pub returns-clause-refused : goal.returns-clause-refused
returns-clause-refused c =
    let head = c.in-Some-head_of.head in
    let rest = map (λ (x : Bor Text). x.now) c.in-Some-head_of.rest.now in
    let texts = ap (map (λ (x : Bor Text). x.now)) c.deref.ensures.value ∙ c.in_ok-fields.ensures ∙ ap texts_of c.in-Some.ensures.same in
    let split = subst (λ (ts : List Text). IsHead ts head rest) texts c.in-Some-head_of.ensures in
    refused_by (RefusesBehind head rest) (RefusesRevisionLine c.args.text.now) (λ why h. line_refused c.args.text.now head rest why c.in-Some.ensures.plain split h) c.read_behind.result c.read_behind.ensures.refused
