use Rattle.std.proofs.Common.{◌∙◌, ap, List, map}
use Rattle.std.specs.Borrow.{Bor}
use Rattle.epochs.specs.declared.line.Line.{Line}
use Rattle.station_text.specs.Lines.{line_at}
use Rattle.station_text.proofs.Asking.{epochs_asked}
use Rattle.station_text.proofs.answers.answer.Goals as goal

pub answer_text-requires : goal.answer_text-requires
answer_text-requires c =
    epochs_asked c.args.catalog.now c.args.query.now c.as_slice.result.now (ap (λ (lines : List (Bor Line)). map line_at lines) c.as_slice.ensures ∙ c.in_ok-asked.ensures)
