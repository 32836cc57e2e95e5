use Rattle.std.proofs.Common.{◌≡◌, List, IfOk, IfErr, Ok, subst, sym, ap, ◌∙◌}
use Rattle.std.specs.List.{AllByRecursion}
use Rattle.line_columns.specs.Answers.{RefusesTextAs}
use Rattle.query_words.specs.declared.avail.AvailMethod.TheVariants.{Extent}
use Rattle.availability.specs.declared.span.TimeSpan.{TimeSpan}
use Rattle.availability.specs.Channels.{all_spans}
use Rattle.availability.specs.Fields.{IsPrintableLine}
use Rattle.availability.specs.Lines.{lines_of}
use Rattle.availability.specs.Texts.{answer_of}
use Rattle.availability.proofs.Prints.{all_lines}
use Rattle.availability.proofs.bodies.extent_body.Goals as goal

pub body-requires-clause-printable : goal.body-requires-clause-printable
body-requires-clause-printable g c =
    subst (λ (ss : List TimeSpan). AllByRecursion IsPrintableLine (lines_of Extent c.args.query.now ss))
    (sym (ap all_spans c.as_slice.ensures ∙ c.in_ok-channels.ensures.spans))
    (all_lines Extent (g.V.Sight.seen c.args.sight.now) (g.V.Sight.touched c.args.sight.now) c.args.query.now (g.S.Shelf.rows c.args.shelf.now))

pub returns-clause-text : goal.returns-clause-text
returns-clause-text g c =
    subst (λ (ss : List TimeSpan). IfOk c.body.result (λ text. answer_of Extent c.args.query.now c.args.max_lines ss ≡ Ok text))
    (ap all_spans c.as_slice.ensures ∙ c.in_ok-channels.ensures.spans) c.body.ensures.text

pub returns-clause-refused : goal.returns-clause-refused
returns-clause-refused g c =
    subst (λ (ss : List TimeSpan). IfErr c.body.result (RefusesTextAs (answer_of Extent c.args.query.now c.args.max_lines ss)))
    (ap all_spans c.as_slice.ensures ∙ c.in_ok-channels.ensures.spans) c.body.ensures.refused
