-- The rows of `fetch`: how it ends, why, and what it leaves.
use Rattle.std.specs.Prelude.{◌≡◌, ◌⊎◌, ℕ, List, [], Result, Ok, Err}
use Rattle.exact_time.specs.Causes.{Rose}
use Rattle.streams.specs.Effects.{Grew, WritesPart}
use Rattle.streams.specs.View.{StreamView}
use Rattle.command_words.specs.Commands.{FetchWords}
use Rattle.link_ports.specs.Ports.{PortView, IsSpent}
use Rattle.split_fetch.specs.Fetching.{Fetches}
use Rattle.split_fetch.specs.Rounds.{Stage, Way, Goes}
use Rattle.split_fetch.specs.declared.fetching.FetchFault.{FetchFault}
use Rattle.split_fetch.specs.declared.fetching.FetchFault.TheVariants as fault
use Rattle.split_fetch.specs.declared.heard.Heard.{Heard}
use Rattle.split_fetch.specs.declared.window.Window.{Window}
use Rattle.centre_fetch.specs.Answers.{IsFetchAnswer}
use Rattle.centre_fetch.specs.Words.{IsAsked, RefusesFetchWords, codes_of}
use Rattle.centre_fetch.specs.declared.ending.FetchRefusal.{FetchRefusal}
use Rattle.centre_fetch.specs.declared.ending.FetchRefusal.TheVariants.{TooLarge, Peer, BadReply, Lost, Moved, Requests}
use Rattle.centre_fetch.specs.declared.ending.FetchStop.{FetchStop}
use Rattle.centre_fetch.specs.declared.ending.FetchStop.TheVariants.{Refused, WriteFault, PortFault, NoLink, OutOfMemory}

-- The window of the words was asked for on the links that the port gave, which came back, in order, and this is all that was
-- heard on them.
pub record IsGiven (w : FetchWords) (before after : PortView) (heard : List Heard) : Type 0 where
  pub window : Window
  pub asked : IsAsked w window
  pub way : Way
  pub fetches : Fetches (codes_of w) window before after way
  pub none_more : fetches.more ≡ []
  pub heard_is : fetches.heard ≡ heard

-- the sink got the body that the words and what was heard give
pub record IsFetchedTo (w : FetchWords) (old new : StreamView) (before after : PortView) : Type 0 where
  pub heard : List Heard
  pub body : List ℕ
  pub given : IsGiven w before after heard
  pub answer : IsFetchAnswer w heard (Ok body)
  pub output : Grew old.written new.written body

-- the words are refused: nothing is asked, and nothing is written
pub record IsRefusedByWords (w : FetchWords) (old new : StreamView) (before after : PortView) (refusal : FetchRefusal) : Type 0 where
  pub why : RefusesFetchWords w refusal
  pub sink_same : new ≡ old
  pub port_same : after ≡ before

-- what was heard gives no body: nothing is written
pub record IsRefusedByHeard (w : FetchWords) (old new : StreamView) (before after : PortView) (refusal : FetchRefusal) : Type 0 where
  pub heard : List Heard
  pub given : IsGiven w before after heard
  pub answer : IsFetchAnswer w heard (Err refusal)
  pub kept : new ≡ old

-- writing stopped at a fault of the sink, after a first part of the body
pub record IsWriteStopped (w : FetchWords) (old new : StreamView) (before after : PortView) : Type 0 where
  pub heard : List Heard
  pub body : List ℕ
  pub given : IsGiven w before after heard
  pub answer : IsFetchAnswer w heard (Ok body)
  pub rose : Rose old.faults new.faults
  pub output : WritesPart old.written new.written body

-- asking goes on and can't, for this cause: nothing is written
pub record IsAskingStopped (w : FetchWords) (old new : StreamView) (before after : PortView) (Cause : Type 0) : Type 0 where
  pub window : Window
  pub asked : IsAsked w window
  pub stage : Stage
  pub fetches : Fetches (codes_of w) window before after (Goes stage)
  pub none_more : fetches.more ≡ []
  pub cause : Cause
  pub kept : new ≡ old

-- the rows of `fetch`; want of memory is free, and leaves the sink as it was
abbrev pub FetchRow : FetchWords → StreamView → StreamView → PortView → PortView → Result (Unit {0}) FetchStop → Type 0
FetchRow w old new before after (Ok done) = IsFetchedTo w old new before after
FetchRow w old new before after (Err (Refused refusal)) =
    IsRefusedByWords w old new before after refusal ⊎ IsRefusedByHeard w old new before after refusal
FetchRow w old new before after (Err WriteFault) = IsWriteStopped w old new before after
FetchRow w old new before after (Err PortFault) = IsAskingStopped w old new before after (Rose before.faults after.faults)
FetchRow w old new before after (Err NoLink) = IsAskingStopped w old new before after (IsSpent after.left)
FetchRow w old new before after (Err OutOfMemory) = new ≡ old

-- how a fault of fetching stops the command
abbrev pub stop_for : FetchFault → FetchStop
stop_for fault.Lost = Refused Lost
stop_for (fault.Moved a b) = Refused (Moved a b)
stop_for fault.Requests = Refused Requests
stop_for fault.NoLink = NoLink
stop_for fault.PortFault = PortFault
stop_for (fault.Peer status) = Refused (Peer status)
stop_for fault.BadReply = Refused BadReply
stop_for (fault.TooLarge bytes) = Refused (TooLarge bytes 268_435_456)
stop_for fault.OutOfMemory = OutOfMemory
