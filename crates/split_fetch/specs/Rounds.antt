-- Which window is asked next, and how asking ends: functions of what was heard.
use Rattle.std.specs.Prelude.{◌+◌, ℕ, List, [], ◌∷◌, ◌++◌, Option, None, Some, nat_lt, if◌then◌else◌}
use Rattle.split_fetch.specs.declared.window.Window.{Window}
use Rattle.split_fetch.specs.declared.heard.Heard.{Heard}
use Rattle.split_fetch.specs.declared.heard.Heard.TheVariants.{Lost, Peer, BadReply, TooMuch, Got}
use Rattle.split_fetch.specs.declared.answer.WindowAnswer.{WindowAnswer}
use Rattle.split_fetch.specs.declared.heard.Outcome.{Outcome}
use Rattle.split_fetch.specs.declared.heard.Outcome.TheVariants.{Done, Lost as LostAtLast, Moved, Requests, Peer as PeerSaid, BadReply as BadAtLast}
use Rattle.split_fetch.specs.Fronts.{fronts_of, first_move}
use Rattle.split_fetch.specs.Halves.{left_of, right_of, can_split}

-- A round: the windows that are still to be asked, the next one first; the answers that were accepted, in
-- order; how many requests it had; and its number, from 1.
pub record Stage : Type 0 where
  pub whole : Window
  pub round : ℕ
  pub asked : ℕ
  pub todo : List Window
  pub taken : List WindowAnswer

-- how it goes on: a stage, or the end
pub data Way : Type 0 where
  Goes : Stage → Way
  Ends : Outcome → Way

-- a round begins with the whole window
abbrev pub begun : Window → ℕ → Stage
begun w round = record { whole = w; round = round; asked = 0; todo = w ∷ []; taken = [] }

-- where a round failed: a new one, or after the eighth the end
abbrev pub next_round : Stage → Outcome → Way
next_round s outcome = if nat_lt s.round 8 then Goes (begun s.whole (s.round + 1)) else Ends outcome

-- where all windows were answered
abbrev pub answered : Stage → List WindowAnswer → Option (ℕ × ℕ) → Way
answered s taken None = Ends (Done taken)
answered s taken (Some fronts) = next_round s (Moved fronts.0 fronts.1)

-- after a request, where these windows are left
abbrev pub going : Stage → List WindowAnswer → List Window → Way
going s taken [] = answered s taken (first_move (fronts_of taken))
going s taken (w ∷ todo) =
    if nat_lt (s.asked + 1) 10_000
    then Goes (record { whole = s.whole; round = s.round; asked = s.asked + 1; todo = w ∷ todo; taken = taken })
    else Ends Requests

-- what follows where this was heard for the first of the windows
abbrev pub heard_for : Stage → Window → List Window → Heard → Way
heard_for s w todo Lost = next_round s LostAtLast
heard_for s w todo (Peer status) = Ends (PeerSaid status)
heard_for s w todo BadReply = Ends BadAtLast
heard_for s w todo TooMuch =
    if can_split w then going s s.taken (left_of w ∷ right_of w ∷ todo) else Ends (PeerSaid 413)
heard_for s w todo (Got front rows) = going s (s.taken ++ record { window = w; front = front; rows = rows } ∷ []) todo

-- A stage has a window to ask; without one there is nothing to hear.
abbrev pub after_on : Stage → List Window → Heard → Way
after_on s [] heard = Goes s
after_on s (w ∷ todo) heard = heard_for s w todo heard

abbrev pub after : Stage → Heard → Way
after s heard = after_on s s.todo heard

-- the way after all that was heard
unfoldable pub way_after : Way → List Heard → Way
way_after way [] = way
way_after (Ends outcome) (heard ∷ more) = Ends outcome
way_after (Goes s) (heard ∷ more) = way_after (after s heard) more

abbrev pub first_of_todo : List Window → List Window
first_of_todo [] = []
first_of_todo (w ∷ todo) = w ∷ []

-- the windows that are asked, one for each reply
unfoldable pub windows_asked : Way → List Heard → List Window
windows_asked way [] = []
windows_asked (Ends outcome) (heard ∷ more) = []
windows_asked (Goes s) (heard ∷ more) = first_of_todo s.todo ++ windows_asked (after s heard) more
