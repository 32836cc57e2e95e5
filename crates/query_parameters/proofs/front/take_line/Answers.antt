use Rattle.std.proofs.lemmas.Bool.{MatchBool-at_true}
use Rattle.query_parameters.proofs.FrontSteps.{ascii_name, ascii_value}
use Rattle.query_parameters.proofs.front.take_line.Goals as goal

pub as_text-requires : goal.as_text-requires
as_text-requires c =
    let ascii = MatchBool-at_true _ _ c.if-not-is_ascii.false c.is_ascii.ensures.cases in
    rw c.sides.ensures.name (ascii_name c.args.line.now.text.now ascii)

pub as_text-requires-2 : goal.as_text-requires-2
as_text-requires-2 c =
    let ascii = MatchBool-at_true _ _ c.if-not-is_ascii.false c.is_ascii.ensures.cases in
    rw c.sides.ensures.value (ascii_value c.args.line.now.text.now ascii)
