-- The command `fetch`: what words and what was heard determine of it, and its rows of the table.
use Rattle.std.specs.Prelude.{◌≡◌, ℕ, List, [], ◌∷◌, Result}
use Rattle.link_ports.specs.Ports.{PortView}
use Rattle.split_fetch.specs.declared.heard.Heard.{Heard}
use Rattle.centre_fetch.specs.Answers.{IsFetchAnswer}
use Rattle.centre_fetch.specs.Table.{FetchRow}
use Rattle.centre_fetch.specs.declared.ending.FetchRefusal.{FetchRefusal}
use Rattle.centre_fetch.specs.declared.ending.FetchRefusal.TheVariants as refusal
use Rattle.centre_fetch.specs.declared.ending.FetchStop.{FetchStop}
use Rattle.centre_fetch.specs.declared.ending.FetchStop.TheVariants as stop
use Rattle.centre_select.specs.Table.{streams}
use Rattle.command_words.specs.Commands.{FetchWords}
use Rattle.centre.specs.Ends.{AnswersBy, EndsBy}
use Rattle.centre.specs.Given.{World}
use Rattle.centre.specs.declared.ending.Refusal.{Refusal}
use Rattle.centre.specs.declared.ending.Refusal.TheVariants.{Value, Order, NoData, TooLarge, Peer, BadReply, Lost, Moved, Requests}
use Rattle.centre.specs.declared.ending.Stop.{Stop}
use Rattle.centre.specs.declared.ending.Stop.TheVariants.{Refused, WriteFault, PortFault, NoLink, OutOfMemory}

-- how a refusal of `fetch` refuses a run
abbrev pub refusal_for_fetch : FetchRefusal → Refusal
refusal_for_fetch (refusal.Value word) = Value word
refusal_for_fetch refusal.Order = Order
refusal_for_fetch refusal.NoData = NoData
refusal_for_fetch (refusal.TooLarge bytes limit) = TooLarge bytes limit
refusal_for_fetch (refusal.Peer status) = Peer status
refusal_for_fetch refusal.BadReply = BadReply
refusal_for_fetch refusal.Lost = Lost
refusal_for_fetch (refusal.Moved a b) = Moved a b
refusal_for_fetch refusal.Requests = Requests

-- how `fetch` stops a run
abbrev pub stop_for_fetch : FetchStop → Stop
stop_for_fetch (stop.Refused why) = Refused (refusal_for_fetch why)
stop_for_fetch stop.WriteFault = WriteFault
stop_for_fetch stop.PortFault = PortFault
stop_for_fetch stop.NoLink = NoLink
stop_for_fetch stop.OutOfMemory = OutOfMemory

-- the words of `fetch` and what was heard give this body, or why there is none
abbrev pub IsFetching : FetchWords → List Heard → Result (List ℕ) Refusal → Type 0
IsFetching w heard answer = AnswersBy refusal_for_fetch (IsFetchAnswer w heard) answer

-- What `fetch` does, with this outcome: nothing but the first port and the sink is called.
pub record IsFetch {D : Type 0} (w : FetchWords) (before after : World D) (outcome : Result (Unit {0}) FetchStop) : Type 0 where
  pub old : PortView
  pub new : PortView
  pub others : List PortView
  pub had : before.ports ≡ old ∷ others
  pub has : after.ports ≡ new ∷ others
  pub rest : after ≡ record before { streams = streams before.streams.source after.streams.sink; ports = after.ports }
  pub row : FetchRow w before.streams.sink after.streams.sink old new outcome

-- the rows of `fetch`
abbrev pub FetchEnding : {D : Type 0} → FetchWords → World D → World D → Result (Unit {0}) Stop → Type 0
FetchEnding w before after ending = EndsBy stop_for_fetch (IsFetch w before after) ending
