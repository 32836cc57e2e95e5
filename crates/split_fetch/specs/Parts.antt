-- Answers that are parts of one answer.
use Rattle.std.specs.Prelude.{◌≡◌, ℕ, Bool, false, List}
use Rattle.std.specs.List.{AllByRecursion}
use Rattle.mseed_header.specs.Records.{images_of}
use Rattle.mseed_header.specs.declared.row.Row.{Row}
use Rattle.dataselect.specs.DataBody.{data_body}
use Rattle.dataselect.specs.Rows.{held_rows}
use Rattle.dataselect.specs.declared.query.DataQuery.{DataQuery}
use Rattle.split_fetch.specs.Windows.{windows_of, IsWindow, Make, in_window}
use Rattle.split_fetch.specs.declared.answer.WindowAnswer.{WindowAnswer}
use Rattle.split_fetch.specs.declared.window.Window.{Window}

-- the bytes of the answer are the data body of the query in the answer's own window
abbrev pub IsPart : (Row → Bool) → DataQuery → List Row → WindowAnswer → Type 0
IsPart seen query rows answer = images_of answer.rows ≡ data_body seen (in_window answer.window query) rows

-- Answers for windows that adjoin and together are the whole, all with one front, each with the data body of its own
-- window. The query asks for no least length and not for the longest segment alone; no window ends before it begins,
-- nor does the whole; and the rows that were asked have no doubles.
pub record AreParts (seen : Row → Bool) (query : DataQuery) (rows : List Row) (whole : Window) (answers : List WindowAnswer) : Type 0 where
  pub no_minimum : query.minimum ≡ 0
  pub not_longest : query.longest ≡ false
  pub no_doubles : held_rows rows ≡ rows
  pub forward : IsWindow whole
  pub make : Make whole.start.micros whole.end.micros (windows_of answers)
  pub front : ℕ
  pub one_front : AllByRecursion (λ answer. answer.front ≡ front) answers
  pub parts : AllByRecursion (IsPart seen query rows) answers
