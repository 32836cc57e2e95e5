-- Asking on the links of a port, one request on each.
use Rattle.std.specs.Prelude.{◌≡◌, ◌≤◌, ℕ, List, [], ◌∷◌, ◌++◌, ⊤, None}
use Rattle.exact_time.specs.Causes.{Rose}
use Rattle.link_ports.specs.Ports.{PortView, Visitor, Took, Came, IsSpent}
use Rattle.streams.specs.View.{StreamView}
use Rattle.split_fetch.specs.Fronts.{fronts_of, first_move}
use Rattle.split_fetch.specs.Gathering.{IsGathered, GatherRefuses}
use Rattle.split_fetch.specs.Peers.{HeardOn}
use Rattle.split_fetch.specs.Rounds.{Stage, Way, Goes, Ends, begun, way_after, windows_asked}
use Rattle.split_fetch.specs.Windows.{Adjoin, windows_of}
use Rattle.split_fetch.specs.declared.answer.WindowAnswer.{WindowAnswer}
use Rattle.split_fetch.specs.declared.asked.Codes.{Codes}
use Rattle.split_fetch.specs.declared.fault.GatherFault.TheVariants as gather
use Rattle.split_fetch.specs.declared.fetching.FetchFault.{FetchFault}
use Rattle.split_fetch.specs.declared.fetching.FetchFault.TheVariants as fault
use Rattle.split_fetch.specs.declared.heard.Heard.{Heard}
use Rattle.split_fetch.specs.declared.heard.Outcome.{Outcome}
use Rattle.split_fetch.specs.declared.heard.Outcome.TheVariants as outcome
use Rattle.split_fetch.specs.declared.window.Window.{Window}

-- each window was asked for on one link, which came back without turns
abbrev pub AreHeard : Codes → List Window → List StreamView → List Visitor → List Heard → Type 0
AreHeard c [] [] [] [] = ⊤
AreHeard c (w ∷ windows) (link ∷ gave) (back ∷ came) (h ∷ heard) = HeardOn c w link back.link h × (back.turns ≡ []) × AreHeard c windows gave came heard
AreHeard c _ _ _ _ = ⊥

-- no link more, or one on which memory ran out: it came back, and nothing was heard on it
abbrev pub OneUnheard : List StreamView → List Visitor → Type 0
OneUnheard [] [] = ⊤
OneUnheard (link ∷ []) (back ∷ []) = back.turns ≡ []
OneUnheard _ _ = ⊥

-- The links that the port gave came back, in order, each with what was heard on it. The windows that were asked, and where
-- asking stands, are those of what was heard.
pub record Fetches (c : Codes) (whole : Window) (before after : PortView) (way : Way) : Type 0 where
  pub gave : List StreamView
  pub came : List Visitor
  pub heard : List Heard
  pub more : List StreamView
  pub unheard : List Visitor
  pub left : Took before.left after.left (gave ++ more)
  pub back : Came before.back after.back (came ++ unheard)
  pub asked : AreHeard c (windows_asked (Goes (begun whole 1)) heard) gave came heard
  pub leads : way_after (Goes (begun whole 1)) heard ≡ way
  pub spare : OneUnheard more unheard
  pub later : before.faults ≤ after.faults

-- how asking ended is why nothing was fetched
abbrev pub EndsAs : Outcome → FetchFault → Type 0
EndsAs o fault.Lost = o ≡ outcome.Lost
EndsAs o (fault.Moved a b) = o ≡ outcome.Moved a b
EndsAs o fault.Requests = o ≡ outcome.Requests
EndsAs o (fault.Peer status) = o ≡ outcome.Peer status
EndsAs o fault.BadReply = o ≡ outcome.BadReply
EndsAs o (fault.TooLarge n) = (taken : List WindowAnswer) × (o ≡ outcome.Done taken) × GatherRefuses taken (gather.TooLarge n)
EndsAs o fault.NoLink = ⊥
EndsAs o fault.PortFault = ⊥
EndsAs o fault.OutOfMemory = Unit {0}

-- asking ended so; or the port gave no link, or failed, and it goes on; want of memory is free
abbrev pub EndsSo : PortView → PortView → Way → FetchFault → Type 0
EndsSo before after way fault.NoLink = (s : Stage) × (way ≡ Goes s) × IsSpent after.left
EndsSo before after way fault.PortFault = (s : Stage) × (way ≡ Goes s) × Rose before.faults after.faults
EndsSo before after way fault.OutOfMemory = Unit {0}
EndsSo before after way why = (o : Outcome) × (way ≡ Ends o) × EndsAs o why

-- of accepted answers the windows adjoin, and the fronts are equal
abbrev pub AreAccepted : Outcome → Type 0
AreAccepted (outcome.Done taken) = Adjoin (windows_of taken) × (first_move (fronts_of taken) ≡ None)
AreAccepted _ = Unit {0}

-- the bytes are what is gathered of the answers
abbrev pub GivesBytes : Outcome → List ℕ → Type 0
GivesBytes (outcome.Done taken) bytes = IsGathered taken bytes
GivesBytes _ bytes = ⊥

-- where memory doesn't run out, something was heard on every link
abbrev pub HeardAll : FetchFault → List StreamView → Type 0
HeardAll fault.OutOfMemory more = Unit {0}
HeardAll why more = more ≡ []

-- all windows were answered with one front, and the bytes are what is gathered of them
abbrev pub IsFetched : Codes → Window → PortView → PortView → List ℕ → Type 0
IsFetched c whole before after bytes =
    (taken : List WindowAnswer) × (fetches : Fetches c whole before after (Ends (outcome.Done taken))) × (fetches.more ≡ []) × IsGathered taken bytes

abbrev pub FetchRefuses : Codes → Window → PortView → PortView → FetchFault → Type 0
FetchRefuses c whole before after why =
    (way : Way) × (fetches : Fetches c whole before after way) × HeardAll why fetches.more × EndsSo before after way why
