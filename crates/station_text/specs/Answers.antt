-- The text that a query for stations is answered with, or why there is none.
use Rattle.std.specs.Prelude.{ℕ, List, Result}
use Rattle.exact_time.specs.declared.error.TextRefusal.{TextRefusal}
use Rattle.query_words.specs.declared.station.StationQuery.{StationQuery}
use Rattle.epochs.specs.Kinds.{Text}
use Rattle.epochs.specs.Lines.{LineValues}
use Rattle.line_columns.specs.Answers.{text_or_empty}
use Rattle.station_text.specs.Asked.{asked_lines}
use Rattle.station_text.specs.Texts.{answer_text}

-- the text of the lines that are asked for, or why there is none: no line is, or too many are
abbrev pub text_answer_of : StationQuery → ℕ → List LineValues → Result Text TextRefusal
text_answer_of q most live = text_or_empty (answer_text q.level live) most (asked_lines live q)
