use Rattle.std.proofs.Common.{◌+◌, ◌∷◌, ◌++◌, [], List, map, take, drop, get_or, sym, subst}
use Rattle.dataselect.specs.declared.query.Selection.{Selection}
use Rattle.query_parameters.specs.declared.fault.QueryFault.{QueryFault}
use Rattle.query_parameters.specs.declared.lines.BodyLine.{BodyLine}
use Rattle.query_parameters.specs.Bodies.{Numbered, numbered_line, AreSelections}
use Rattle.query_parameters.specs.Selecting.{line_fault, RefusesRest}
use Rattle.query_parameters.proofs.FrontSteps.{cut_before, one_more}
use Rattle.query_parameters.proofs.SelectionSteps.{selections_more, rest_refused}
use Rattle.query_parameters.proofs.selections.read_selections.Goals as goal

abbrev no_line : BodyLine
no_line = record { number = 0; text = record { ref_ptr = (0, 0); now = [] } }

pub returns-in-Err-clause-refused : goal.returns-in-Err-clause-refused
returns-in-Err-clause-refused c =
    let lines = c.args.lines.now in
    let i = c.lines.line-index in
    let split = cut_before numbered_line lines i no_line c.lines-test.true in
    let refused = rest_refused (map numbered_line (take i lines)) (numbered_line (get_or lines i no_line)) (map numbered_line (drop (i + 1) lines)) c.lines.selections c.lines.invariant c.in-Err.fault c.in-Err.ensures.refused in
    subst (λ (f : QueryFault). RefusesRest (map numbered_line lines) f) (sym c.line_fault.ensures) (subst (λ (ls : List Numbered). RefusesRest ls (line_fault c.in-Err.fault (get_or lines i no_line).number)) (sym split) refused)

pub lines-preserved : goal.lines-preserved
lines-preserved c =
    let lines = c.args.lines.now in
    let i = c.lines.line-index in
    let more = selections_more (map numbered_line (take i lines)) c.lines.selections (numbered_line (get_or lines i no_line)) c.in-Ok.selection c.lines.invariant c.in-Ok.ensures.selection in
    let front = subst (λ (ls : List Numbered). AreSelections ls (c.lines.selections ++ c.in-Ok.selection ∷ [])) (sym (one_more numbered_line lines i no_line c.lines-test.true)) more in
    subst (λ (ss : List Selection). AreSelections (map numbered_line (take (i + 1) lines)) ss) (sym c.in_ok-push-in-Ok.ensures.ok) front
