-- What the words of `fetch` and what was heard determine: the body that is written, or why there is none.
use Rattle.std.specs.Prelude.{◌≡◌, ◌≢◌, ◌⊎◌, ℕ, List, [], Result, Ok, Err}
use Rattle.command_words.specs.Commands.{FetchWords}
use Rattle.split_fetch.specs.Gathering.{IsGathered, GatherRefuses}
use Rattle.split_fetch.specs.Rounds.{Goes, Ends, begun, way_after}
use Rattle.split_fetch.specs.declared.answer.WindowAnswer.{WindowAnswer}
use Rattle.split_fetch.specs.declared.fault.GatherFault.TheVariants as gather
use Rattle.split_fetch.specs.declared.heard.Heard.{Heard}
use Rattle.split_fetch.specs.declared.heard.Outcome.{Outcome}
use Rattle.split_fetch.specs.declared.heard.Outcome.TheVariants as outcome
use Rattle.split_fetch.specs.declared.window.Window.{Window}
use Rattle.centre_fetch.specs.Words.{IsAsked, RefusesFetchWords}
use Rattle.centre_fetch.specs.declared.ending.FetchRefusal.{FetchRefusal}
use Rattle.centre_fetch.specs.declared.ending.FetchRefusal.TheVariants.{Value, Order, NoData, TooLarge, Peer, BadReply, Lost, Moved, Requests}

-- what was heard leads to an end of asking for the window of the words
pub record IsHeardOut (w : FetchWords) (heard : List Heard) : Type 0 where
  pub window : Window
  pub asked : IsAsked w window
  pub outcome : Outcome
  pub leads : way_after (Goes (begun window 1)) heard ≡ Ends outcome

-- What comes of how asking ended. Where all windows were answered: what is gathered of the answers, if that is some bytes; no data,
-- if it is none; or that they have more than 268,435,456. Else how it ended.
abbrev pub ComesOf : Outcome → Result (List ℕ) FetchRefusal → Type 0
ComesOf o (Ok body) = (taken : List WindowAnswer) × (o ≡ outcome.Done taken) × IsGathered taken body × (body ≢ [])
ComesOf o (Err NoData) = (taken : List WindowAnswer) × (o ≡ outcome.Done taken) × IsGathered taken []
ComesOf o (Err (TooLarge bytes limit)) =
    (taken : List WindowAnswer) × (o ≡ outcome.Done taken) × GatherRefuses taken (gather.TooLarge bytes) × (limit ≡ 268_435_456)
ComesOf o (Err (Peer status)) = o ≡ outcome.Peer status
ComesOf o (Err BadReply) = o ≡ outcome.BadReply
ComesOf o (Err Lost) = o ≡ outcome.Lost
ComesOf o (Err (Moved a b)) = o ≡ outcome.Moved a b
ComesOf o (Err Requests) = o ≡ outcome.Requests
ComesOf o (Err (Value word)) = ⊥
ComesOf o (Err Order) = ⊥

-- the words can be read, what was heard leads to an end, and this comes of it
pub record IsHeardAnswer (w : FetchWords) (heard : List Heard) (answer : Result (List ℕ) FetchRefusal) : Type 0 where
  pub window : Window
  pub asked : IsAsked w window
  pub outcome : Outcome
  pub leads : way_after (Goes (begun window 1)) heard ≡ Ends outcome
  pub comes : ComesOf outcome answer

-- the words of `fetch` and what was heard give this body, or are refused: the words before what was heard
abbrev pub IsFetchAnswer : FetchWords → List Heard → Result (List ℕ) FetchRefusal → Type 0
IsFetchAnswer w heard (Ok body) = IsHeardAnswer w heard (Ok body)
IsFetchAnswer w heard (Err refusal) = RefusesFetchWords w refusal ⊎ IsHeardAnswer w heard (Err refusal)
