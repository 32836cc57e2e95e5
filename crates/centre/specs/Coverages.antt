-- The command `coverage`: what words and file determine of it, and its rows of the table.
use Rattle.std.specs.Prelude.{◌≡◌, ℕ, List, Result}
use Rattle.disk_model.specs.View.{DiskView}
use Rattle.centre_coverage.specs.Answers.{IsCoverageAnswer}
use Rattle.centre_coverage.specs.Table.{CoverageRow}
use Rattle.centre_coverage.specs.declared.ending.CoverageRefusal.{CoverageRefusal}
use Rattle.centre_coverage.specs.declared.ending.CoverageRefusal.TheVariants as refusal
use Rattle.centre_coverage.specs.declared.ending.CoverageStop.{CoverageStop}
use Rattle.centre_coverage.specs.declared.ending.CoverageStop.TheVariants as stop
use Rattle.centre_coverage.specs.declared.ending.DayWord.{DayWord}
use Rattle.centre_coverage.specs.declared.ending.DayWord.TheVariants as day_word
use Rattle.centre_select.specs.Table.{streams}
use Rattle.centre_select.specs.declared.ending.Word.{Word}
use Rattle.centre_select.specs.declared.ending.Word.TheVariants.{Start, End}
use Rattle.command_words.specs.Commands.{CoverageWords}
use Rattle.centre.specs.Ends.{AnswersBy, EndsBy}
use Rattle.centre.specs.Given.{World}
use Rattle.centre.specs.declared.ending.Refusal.{Refusal}
use Rattle.centre.specs.declared.ending.Refusal.TheVariants.{Value, Order, NoData, TooManyLines, NotAJournal, Damaged}
use Rattle.centre.specs.declared.ending.Stop.{Stop}
use Rattle.centre.specs.declared.ending.Stop.TheVariants.{Refused, WriteFault, DiskFault, OutOfMemory}

-- the word of a day among the words of all commands
abbrev pub word_for : DayWord → Word
word_for day_word.Start = Start
word_for day_word.End = End

-- how a refusal of `coverage` refuses a run
abbrev pub refusal_for_coverage : CoverageRefusal → Refusal
refusal_for_coverage (refusal.Value word) = Value (word_for word)
refusal_for_coverage refusal.Order = Order
refusal_for_coverage refusal.NoData = NoData
refusal_for_coverage (refusal.TooManyLines lines limit) = TooManyLines lines limit
refusal_for_coverage refusal.NotAJournal = NotAJournal
refusal_for_coverage (refusal.Damaged at) = Damaged at

-- how `coverage` stops a run
abbrev pub stop_for_coverage : CoverageStop → Stop
stop_for_coverage (stop.Refused why) = Refused (refusal_for_coverage why)
stop_for_coverage stop.WriteFault = WriteFault
stop_for_coverage stop.DiskFault = DiskFault
stop_for_coverage stop.OutOfMemory = OutOfMemory

-- the words of `coverage` and the file give this report, or why there is none
abbrev pub IsCovering : CoverageWords → List ℕ → Result (List ℕ) Refusal → Type 0
IsCovering w file answer = AnswersBy refusal_for_coverage (IsCoverageAnswer w file) answer

-- What `coverage` does, with this outcome: nothing but the disk and the sink is called.
pub record IsCoverage {D : Type 0} (view : D → DiskView) (w : CoverageWords) (before after : World D) (outcome : Result (Unit {0}) CoverageStop) : Type 0 where
  pub others : after ≡ record before { streams = streams before.streams.source after.streams.sink; disk = after.disk }
  pub row : CoverageRow view w before.streams.sink after.streams.sink before.disk after.disk outcome

-- the rows of `coverage`
abbrev pub CoverageEnding : {D : Type 0} → (D → DiskView) → CoverageWords → World D → World D → Result (Unit {0}) Stop → Type 0
CoverageEnding view w before after ending = EndsBy stop_for_coverage (IsCoverage view w before after) ending
