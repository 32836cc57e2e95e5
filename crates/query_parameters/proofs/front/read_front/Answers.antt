use Rattle.std.proofs.Common.{◌+◌, [], List, map, take, drop, get_or, sym, subst}
use Rattle.std.proofs.lemmas.Result.{err_from_is_err_and}
use Rattle.query_parameters.specs.declared.lines.BodyLine.{BodyLine}
use Rattle.query_parameters.specs.Bodies.{Numbered, numbered_line}
use Rattle.query_parameters.specs.Fronts.{HasFront, RefusesFront}
use Rattle.query_parameters.specs.Rows.{names_of}
use Rattle.query_parameters.proofs.FrontSteps.{front_more, front_refused, cut_before, one_more}
use Rattle.query_parameters.proofs.front.read_front.Goals as goal

abbrev no_line : BodyLine
no_line = record { number = 0; text = record { ref_ptr = (0, 0); now = [] } }

pub returns-in_err-take_line-clause-refused : goal.returns-in_err-take_line-clause-refused
returns-in_err-take_line-clause-refused c =
    let p = err_from_is_err_and c.from_residual-in_err-take_line.result c.from_residual-in_err-take_line.ensures.1 in
    let lines = c.args.lines.now in
    let i = c.lines.line-index in
    let split = cut_before numbered_line lines i no_line c.lines-test.true in
    let refused = front_refused (names_of c.args.table.now) (map numbered_line (take i lines)) (numbered_line (get_or lines i no_line)) (map numbered_line (drop (i + 1) lines)) c.lines.words.items c.lines.invariant _ c.in_err-take_line.ensures.refused in
    rw (p.1, p.2) (subst (λ (ls : List Numbered). RefusesFront (names_of c.args.table.now) ls c.in_err-take_line.field-0.0) (sym split) refused)

pub lines-preserved : goal.lines-preserved
lines-preserved c =
    let lines = c.args.lines.now in
    let i = c.lines.line-index in
    let more = front_more (names_of c.args.table.now) (map numbered_line (take i lines)) (numbered_line (get_or lines i no_line)) c.lines.words.items c.take_line.new.words.items c.lines.invariant c.in_ok-take_line.ensures.put in
    subst (λ (ls : List Numbered). HasFront (names_of c.args.table.now) ls c.take_line.new.words.items) (sym (one_more numbered_line lines i no_line c.lines-test.true)) more
