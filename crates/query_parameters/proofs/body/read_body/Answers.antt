use Rattle.std.proofs.Common.{◌-◌, ◌≤◌, List, length, map, arith, ap, ◌∙◌}
use Rattle.std.proofs.lemmas.Result.{err_from_is_err_and}
use Rattle.query_parameters.specs.Bodies.{numbered_line, front_count}
use Rattle.query_parameters.specs.Rows.{names_of}
use Rattle.query_parameters.specs.declared.lines.BodyLine.{BodyLine}
use Rattle.query_parameters.proofs.BodySteps.{front_refused, rest_refused, body_read}
use Rattle.query_parameters.proofs.body.read_body.Goals as goal

pub returns-in_err-words-clause-refused : goal.returns-in_err-words-clause-refused
returns-in_err-words-clause-refused c =
    let p = err_from_is_err_and c.from_residual-in_err-words.result c.from_residual-in_err-words.ensures.1 in
    let lines = c.in_ok-lines.lines.items in
    let at = c.front_len-front.ensures.value ∙ ap (λ (xs : List BodyLine). front_count (map numbered_line xs)) c.deref.ensures.value in
    let others : length lines - c.front_len-front.result ≤ 10_000 = omega (arith, c.len.ensures, c.in_ok-lines.lines.ok, c.if-len-front-gt-MOST_SELECTIONS.false) in
    let front = rw c.deref-2.ensures.value at c.in_err-words.ensures.refused in
    let refused = front_refused (names_of c.args.options.now) c.args.body.now lines c.front_len-front.result c.in_ok-lines.ensures at c.if-front-gt-MOST_PARAMETERS.false others c.in_err-words.field-0.0 front in
    rw (p.1, p.2) refused

pub returns-in_err-selections-clause-refused : goal.returns-in_err-selections-clause-refused
returns-in_err-selections-clause-refused c =
    let p = err_from_is_err_and c.from_residual-in_err-selections.result c.from_residual-in_err-selections.ensures.1 in
    let lines = c.in_ok-lines.lines.items in
    let at = c.front_len-front.ensures.value ∙ ap (λ (xs : List BodyLine). front_count (map numbered_line xs)) c.deref.ensures.value in
    let others : length lines - c.front_len-front.result ≤ 10_000 = omega (arith, c.len.ensures, c.in_ok-lines.lines.ok, c.if-len-front-gt-MOST_SELECTIONS.false) in
    let words = rw c.deref-2.ensures.value at c.in_ok-words.ensures.words in
    let rest = rw c.deref-3.ensures.value at c.in_err-selections.ensures.refused in
    let refused = rest_refused (names_of c.args.options.now) c.args.body.now lines c.front_len-front.result c.in_ok-lines.ensures at c.if-front-gt-MOST_PARAMETERS.false others _ words c.in_err-selections.field-0.0 rest in
    rw (p.1, p.2) refused

pub returns-clause-read : goal.returns-clause-read
returns-clause-read c =
    let lines = c.in_ok-lines.lines.items in
    let at = c.front_len-front.ensures.value ∙ ap (λ (xs : List BodyLine). front_count (map numbered_line xs)) c.deref.ensures.value in
    let others : length lines - c.front_len-front.result ≤ 10_000 = omega (arith, c.len.ensures, c.in_ok-lines.lines.ok, c.if-len-front-gt-MOST_SELECTIONS.false) in
    let words = rw c.deref-2.ensures.value at c.in_ok-words.ensures.words in
    let all = rw c.deref-3.ensures.value at c.in_ok-selections.ensures.selections in
    body_read (names_of c.args.options.now) c.args.body.now lines c.front_len-front.result c.in_ok-lines.ensures at c.if-front-gt-MOST_PARAMETERS.false others _ words _ all
