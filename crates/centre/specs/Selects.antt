-- The command `select`: what words and input determine of it, and its rows of the table.
use Rattle.std.specs.Prelude.{ℕ, List, Result}
use Rattle.centre_select.specs.Answers.{IsSelectAnswer}
use Rattle.centre_select.specs.Table.{Streams, SelectRow}
use Rattle.centre_select.specs.declared.ending.SelectRefusal.{SelectRefusal}
use Rattle.centre_select.specs.declared.ending.SelectRefusal.TheVariants as refusal
use Rattle.centre_select.specs.declared.ending.SelectStop.{SelectStop}
use Rattle.centre_select.specs.declared.ending.SelectStop.TheVariants as stop
use Rattle.command_words.specs.Commands.{SelectWords}
use Rattle.centre.specs.Ends.{AnswersBy, EndsBy}
use Rattle.centre.specs.declared.ending.Refusal.{Refusal}
use Rattle.centre.specs.declared.ending.Refusal.TheVariants.{Value, Order, Record, NoData, TooLarge, InputTooLong}
use Rattle.centre.specs.declared.ending.Stop.{Stop}
use Rattle.centre.specs.declared.ending.Stop.TheVariants.{Refused, ReadFault, WriteFault, OutOfMemory}

-- how a refusal of `select` refuses a run
abbrev pub refusal_for_select : SelectRefusal → Refusal
refusal_for_select (refusal.Value word) = Value word
refusal_for_select refusal.Order = Order
refusal_for_select (refusal.Record at fault) = Record at fault
refusal_for_select refusal.NoData = NoData
refusal_for_select (refusal.TooLarge bytes limit) = TooLarge bytes limit
refusal_for_select refusal.InputTooLong = InputTooLong

-- how `select` stops a run
abbrev pub stop_for_select : SelectStop → Stop
stop_for_select (stop.Refused why) = Refused (refusal_for_select why)
stop_for_select stop.ReadFault = ReadFault
stop_for_select stop.WriteFault = WriteFault
stop_for_select stop.OutOfMemory = OutOfMemory

-- the words of `select` and the input give this body, or are refused
abbrev pub IsSelection : SelectWords → List ℕ → Result (List ℕ) Refusal → Type 0
IsSelection w input answer = AnswersBy refusal_for_select (IsSelectAnswer w input) answer

-- the rows of `select`
abbrev pub SelectEnding : SelectWords → Streams → Streams → Result (Unit {0}) Stop → Type 0
SelectEnding w before after ending = EndsBy stop_for_select (SelectRow w before after) ending
