-- The exit statuses of `select`, and its texts on the errors.
use Rattle.std.specs.Prelude.{◌≡◌, ◌⊎◌, ℕ, List, [], ◌++◌, codes, Result, Ok, Err}
use Rattle.std.specs.Fmt.{decimal}
use Rattle.exact_time.specs.Causes.{Rose}
use Rattle.mseed_header.specs.FaultNames.{record_fault_name}
use Rattle.streams.specs.Effects.{Grew, WritesPart}
use Rattle.streams.specs.View.{StreamView}
use Rattle.centre_select.specs.declared.ending.Word.{Word}
use Rattle.centre_select.specs.declared.ending.Word.TheVariants.{Network, Station, Location, Channel, Start, End, Quality, Minimum, Longest}
use Rattle.centre_select.specs.declared.ending.SelectRefusal.{SelectRefusal}
use Rattle.centre_select.specs.declared.ending.SelectRefusal.TheVariants.{Value, Order, Record, NoData, TooLarge, InputTooLong}
use Rattle.centre_select.specs.declared.ending.SelectStop.{SelectStop}
use Rattle.centre_select.specs.declared.ending.SelectStop.TheVariants.{Refused, ReadFault, WriteFault, OutOfMemory}

abbrev pub status_of_refusal : SelectRefusal → ℕ
status_of_refusal (Value word) = 2
status_of_refusal Order = 2
status_of_refusal (Record at fault) = 2
status_of_refusal NoData = 3
status_of_refusal (TooLarge bytes limit) = 4
status_of_refusal InputTooLong = 10

abbrev pub status_of : SelectStop → ℕ
status_of (Refused refusal) = status_of_refusal refusal
status_of ReadFault = 5
status_of WriteFault = 6
status_of OutOfMemory = 70

abbrev pub status_of_run : Result (Unit {0}) SelectStop → ℕ
status_of_run (Ok done) = 0
status_of_run (Err stop) = status_of stop

-- how a word is named to users
abbrev pub name_of_word : Word → List ℕ
name_of_word Network = codes "NET"
name_of_word Station = codes "STA"
name_of_word Location = codes "LOC"
name_of_word Channel = codes "CHA"
name_of_word Start = codes "START"
name_of_word End = codes "END"
name_of_word Quality = codes "QUALITY"
name_of_word Minimum = codes "MINIMUM"
name_of_word Longest = codes "LONGEST"

abbrev pub text_of_refusal : SelectRefusal → List ℕ
text_of_refusal (Value word) = codes "centre: query: Value " ++ name_of_word word ++ codes "\n"
text_of_refusal Order = codes "centre: query: Order\n"
text_of_refusal (Record at fault) = codes "centre: record at offset " ++ decimal at ++ codes ": " ++ record_fault_name fault ++ codes "\n"
text_of_refusal NoData = codes "centre: no data\n"
text_of_refusal (TooLarge bytes limit) = codes "centre: " ++ (decimal bytes ++ codes " bytes exceed " ++ decimal limit) ++ codes "\n"
text_of_refusal InputTooLong = codes "centre: input too long\n"

abbrev pub error_text_of : SelectStop → List ℕ
error_text_of (Refused refusal) = text_of_refusal refusal
error_text_of ReadFault = codes "centre: read fault\n"
error_text_of WriteFault = codes "centre: write fault\n"
error_text_of OutOfMemory = codes "centre: out of memory\n"

abbrev pub text_of_run : Result (Unit {0}) SelectStop → List ℕ
text_of_run (Ok done) = []
text_of_run (Err stop) = error_text_of stop

-- what the words are answered that are no command
abbrev pub unknown_text : List ℕ
unknown_text = codes "centre: unknown command line\n"

-- What a stop is told as: itself, or want of memory where a text with numbers can't be made.
abbrev pub ToldFor : SelectStop → SelectStop → Type 0
ToldFor (Refused (Record at fault)) told = (told ≡ Refused (Record at fault)) ⊎ (told ≡ OutOfMemory)
ToldFor (Refused (TooLarge bytes limit)) told = (told ≡ Refused (TooLarge bytes limit)) ⊎ (told ≡ OutOfMemory)
ToldFor stop told = told ≡ stop

-- the text was written, or a first part of it where the stream failed
pub record Tells (old new : StreamView) (text : List ℕ) : Type 0 where
  pub part : WritesPart old.written new.written text
  pub whole : Grew old.written new.written text ⊎ Rose old.faults new.faults
