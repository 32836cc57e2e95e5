use Rattle.std.proofs.Common.{ap, ◌∙◌, sym, List, map, Ok}
use Rattle.std.specs.Borrow.{Bor}
use Rattle.epochs.specs.declared.line.Event.{Event}
use Rattle.event_text.specs.Orders.{given_events}
use Rattle.event_text.specs.Ranks.{line_at}
use Rattle.event_text.specs.Texts.{answer_text}
use Rattle.event_text.proofs.GivenLines.{given_seen, no_lines, many_lines, some_lines}
use Rattle.event_text.proofs.answers.answer.Goals as goal

pub returns-then-is_empty-clause-refused : goal.returns-then-is_empty-clause-refused
returns-then-is_empty-clause-refused c =
    let q = c.args.query.now in
    let ordered = ap (λ (es : List (Bor Event)). map line_at es) c.as_slice.ensures ∙ c.in_ok-ordered.ensures in
    let lines = ap (λ (es : List (Bor Event)). map line_at es) c.given_events-events.ensures ∙ given_seen line_at q c.as_slice.result.now ∙ ap (given_events q) ordered in
    no_lines line_at answer_text c.args.max_lines c.given_events-events.result.now _ lines (sym c.is_empty.ensures ∙ c.if-is_empty.true)

pub returns-then-lines-max_lines-clause-refused : goal.returns-then-lines-max_lines-clause-refused
returns-then-lines-max_lines-clause-refused c =
    let q = c.args.query.now in
    let ordered = ap (λ (es : List (Bor Event)). map line_at es) c.as_slice.ensures ∙ c.in_ok-ordered.ensures in
    let lines = ap (λ (es : List (Bor Event)). map line_at es) c.given_events-events.ensures ∙ given_seen line_at q c.as_slice.result.now ∙ ap (given_events q) ordered in
    many_lines line_at answer_text c.args.max_lines c.given_events-events.result.now _ lines (sym c.is_empty.ensures ∙ c.if-is_empty.false) c.if-lines-max_lines.true

pub returns-clause-text : goal.returns-clause-text
returns-clause-text c =
    let q = c.args.query.now in
    let ordered = ap (λ (es : List (Bor Event)). map line_at es) c.as_slice.ensures ∙ c.in_ok-ordered.ensures in
    let lines = ap (λ (es : List (Bor Event)). map line_at es) c.given_events-events.ensures ∙ given_seen line_at q c.as_slice.result.now ∙ ap (given_events q) ordered in
    some_lines line_at answer_text c.args.max_lines c.given_events-events.result.now _ lines (sym c.is_empty.ensures ∙ c.if-is_empty.false) c.if-lines-max_lines.false ∙ ap Ok (sym c.in_ok-answer_text.ensures)
