-- The exit statuses, and the texts on the errors.
use Rattle.std.specs.Prelude.{ℕ, List, [], ◌++◌, codes, Result, Ok, Err}
use Rattle.std.specs.Fmt.{decimal}
use Rattle.mseed_header.specs.FaultNames.{record_fault_name}
use Rattle.centre_desk.specs.Faults.{fault_text}
use Rattle.centre_desk.specs.declared.fault.Fault.{Fault}
use Rattle.centre_desk.specs.declared.fault.Fault.TheVariants as fault
use Rattle.query_parameters.specs.declared.fault.QueryFault.TheVariants as query
use Rattle.centre_select.specs.Status.{name_of_word}
use Rattle.centre.specs.declared.ending.Refusal.{Refusal}
use Rattle.centre.specs.declared.ending.Refusal.TheVariants.{UnknownCommand, Value, Order, Record, NoData, TooLarge, TooManyLines, InputTooLong, NotEmpty, NotAJournal, Damaged, RequestCut, Peer, BadReply, Lost, Moved, Requests}
use Rattle.centre.specs.declared.ending.Stop.{Stop}
use Rattle.centre.specs.declared.ending.Stop.TheVariants.{Refused, ReadFault, WriteFault, DiskFault, PortFault, NoLink, OutOfMemory}

abbrev pub status_of_refusal : Refusal → ℕ
status_of_refusal UnknownCommand = 1
status_of_refusal (Value word) = 2
status_of_refusal Order = 2
status_of_refusal (Record at fault) = 2
status_of_refusal NoData = 3
status_of_refusal (TooLarge bytes limit) = 4
status_of_refusal (TooManyLines lines limit) = 4
status_of_refusal NotEmpty = 9
status_of_refusal NotAJournal = 9
status_of_refusal (Damaged at) = 9
status_of_refusal InputTooLong = 10
status_of_refusal RequestCut = 11
status_of_refusal (Peer status) = 13
status_of_refusal BadReply = 14
status_of_refusal Lost = 15
status_of_refusal (Moved a b) = 15
status_of_refusal Requests = 18

abbrev pub status_of : Stop → ℕ
status_of (Refused refusal) = status_of_refusal refusal
status_of ReadFault = 5
status_of WriteFault = 6
status_of DiskFault = 7
status_of PortFault = 8
status_of NoLink = 17
status_of OutOfMemory = 70

abbrev pub status_of_run : Result (Unit {0}) Stop → ℕ
status_of_run (Ok done) = 0
status_of_run (Err stop) = status_of stop

-- what a reply over HTTP tells of a fault, in the words of a command
abbrev pub text_of_fault : Fault → List ℕ
text_of_fault f = codes "centre: " ++ fault_text f ++ codes "\n"

abbrev pub text_of_refusal : Refusal → List ℕ
text_of_refusal UnknownCommand = codes "centre: unknown command line\n"
text_of_refusal (Value word) = codes "centre: query: Value " ++ name_of_word word ++ codes "\n"
text_of_refusal Order = text_of_fault (fault.Query query.Order)
text_of_refusal (Record at fault) = codes "centre: record at offset " ++ decimal at ++ codes ": " ++ record_fault_name fault ++ codes "\n"
text_of_refusal NoData = text_of_fault fault.NoData
text_of_refusal (TooLarge bytes limit) = text_of_fault (fault.ManyBytes bytes limit)
text_of_refusal (TooManyLines lines limit) = text_of_fault (fault.ManyLines lines limit)
text_of_refusal NotEmpty = codes "centre: journal is not empty\n"
text_of_refusal NotAJournal = codes "centre: not a journal\n"
text_of_refusal (Damaged at) = codes "centre: journal damaged at " ++ decimal at ++ codes "\n"
text_of_refusal InputTooLong = codes "centre: input too long\n"
text_of_refusal RequestCut = codes "centre: request cut\n"
text_of_refusal (Peer status) = codes "centre: peer answered " ++ decimal status ++ codes "\n"
text_of_refusal BadReply = codes "centre: bad reply\n"
text_of_refusal Lost = codes "centre: connection lost\n"
text_of_refusal (Moved a b) = codes "centre: front moved from " ++ decimal a ++ codes " to " ++ decimal b ++ codes "\n"
text_of_refusal Requests = codes "centre: too many requests\n"

abbrev pub error_text_of : Stop → List ℕ
error_text_of (Refused refusal) = text_of_refusal refusal
error_text_of ReadFault = codes "centre: read fault\n"
error_text_of WriteFault = codes "centre: write fault\n"
error_text_of DiskFault = codes "centre: disk fault\n"
error_text_of PortFault = codes "centre: port fault\n"
error_text_of NoLink = codes "centre: no more links\n"
error_text_of OutOfMemory = codes "centre: out of memory\n"

abbrev pub text_of_run : Result (Unit {0}) Stop → List ℕ
text_of_run (Ok done) = []
text_of_run (Err stop) = error_text_of stop
