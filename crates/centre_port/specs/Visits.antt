-- The sessions of one port, link after link, over one history.
use Rattle.std.specs.Prelude.{◌≡◌, ◌⊎◌, ℕ, ◌≤◌, true, List, [], ◌∷◌, ◌++◌, length, ⊤, Option, None}
use Rattle.std.specs.List.{flat_map, sum_by}
use mathlib.Core.List.{IsPrefix}
use mathlib.Core.Logic.{inl, inr}
use Rattle.exact_time.specs.declared.moment.Moment.{Moment}
use Rattle.archive_entry.specs.declared.entry.Entry.{Entry}
use Rattle.desk_words.specs.Counts.{RoseWithin, RoseAtLeast}
use Rattle.desk_words.specs.Setting.{Setting}
use Rattle.desk_words.specs.Stand.{Stand, GoesOn}
use Rattle.http_replies.specs.declared.reply.Reply.{Reply}
use Rattle.http_wire.specs.declared.turn.Turn.{Turn}
use Rattle.link_ports.specs.Ports.{PortView, Visitor, Took, Came}
use Rattle.streams.specs.View.{StreamView}
use Rattle.centre_desk.specs.Turns.{behind_of}
use Rattle.centre_session.specs.Clocks.{GaveAll}
use Rattle.centre_session.specs.Items.{Item}
use Rattle.centre_session.specs.Session.{Scene, scene, moments_of, SessionRow}
use Rattle.centre_session.specs.Turns.{IsSession, last_front, stops_of, made_least, made_most}
use Rattle.centre_session.specs.declared.ending.SessionEnd.{SessionEnd}
use Rattle.centre_session.specs.declared.ending.SessionEnd.TheVariants.{Closed, Cut, LinkFault, Memory}

-- The replies of a session to its items. The reply that tells that memory ran out while a request was read is not among them.
abbrev pub replies_in : (before after : Scene) (s : Setting) (turns : List Turn) (ending : SessionEnd) → SessionRow before after s turns ending → List Reply
replies_in before after s turns Closed (inl ended) = ended.replies
replies_in before after s turns Closed (inr ended) = ended.replies
replies_in before after s turns Cut ended = ended.replies
replies_in before after s turns LinkFault broken = broken.replies
replies_in before after s turns Memory ran_out = ran_out.replies

-- What was read from a link and written to it, and its turns, are those of a session over a desk that saw k entries or more
-- when it began, and in the end a first part of this history. `before` is what was told of the link when it was given, and
-- `after` when it came back.
pub record IsVisit (h : List Entry) (k : ℕ) (s : Setting) (before after : StreamView) (turns : List Turn) (replies : List Reply) : Type 0 where
  pub first : Stand
  pub last : Stand
  pub given : Option (List Moment)
  pub given_then : Option (List Moment)
  pub ending : SessionEnd
  pub row : SessionRow (scene first before given) (scene last after given_then) s turns ending
  pub from : k ≤ length first.seen
  pub within : IsPrefix last.seen h
  pub replies_are : replies_in (scene first before given) (scene last after given_then) s turns ending row ≡ replies

-- Each link that was given came back as a visit, in order, and no front is below one of a link before it.
abbrev pub IsVisits : List Entry → ℕ → Setting → List StreamView → List Visitor → List (List Reply) → Type 0
IsVisits h k s [] [] [] = ⊤
IsVisits h k s (link ∷ gave) (back ∷ came) (rs ∷ replies) = IsVisit h k s link back.link back.turns rs × IsVisits h (last_front k back.turns) s gave came replies
IsVisits h k s [] [] (rs ∷ replies) = ⊥
IsVisits h k s [] (back ∷ came) replies = ⊥
IsVisits h k s (link ∷ gave) [] replies = ⊥
IsVisits h k s (link ∷ gave) (back ∷ came) [] = ⊥

-- the turns of all links that came back, link after link
abbrev pub turns_of : List Visitor → List Turn
turns_of came = flat_map (λ back. back.turns) came

-- how many replies to one link tell that a disk stopped a command, and how many that the desk knows too few entries
abbrev pub halts_in : List Reply → ℕ
halts_in replies = sum_by stops_of replies

abbrev pub behind_in : List Reply → ℕ
behind_in replies = sum_by behind_of replies

-- what is known at one moment of a desk and of a port, and which moments the clock gave
pub record PortScene : Type 0 where
  pub stand : Stand
  pub port : PortView
  pub given : Option (List Moment)

abbrev pub port_scene : Stand → PortView → Option (List Moment) → PortScene
port_scene stand port given = record { stand = stand; port = port; given = given }

-- The links that the port gave were served and came back, in order, over what the desk sees after them. The moments of all
-- turns are those that the clock gave. So many commands were stopped, so often the desk caught up, and so many entries were
-- made, at least or at most.
pub record ServesPort (before after : PortScene) (s : Setting) : Type 0 where
  pub gave : List StreamView
  pub came : List Visitor
  pub replies : List (List Reply)
  pub left : Took before.port.left after.port.left gave
  pub back : Came before.port.back after.port.back came
  pub goes_on : GoesOn before.stand after.stand
  pub visits : IsVisits after.stand.seen (length before.stand.seen) s gave came replies
  pub moments : GaveAll before.given after.given (moments_of (turns_of came))
  pub stops : RoseAtLeast (sum_by halts_in replies) before.stand.stops after.stand.stops
  pub caught : RoseAtLeast (sum_by behind_in replies) before.stand.caught after.stand.caught
  pub made : RoseWithin (sum_by made_least (turns_of came)) (sum_by made_most (turns_of came)) before.stand.made after.stand.made
  pub later : before.port.faults ≤ after.port.faults

-- no turn more, or one for which memory ran out while its request was read, over the whole history or a first part of it
abbrev pub OneShortMore : List Entry → List Turn → Type 0
OneShortMore h [] = ⊤
OneShortMore h (t ∷ []) = (t.short ≡ true) × (t.entry ≡ None) × (t.front ≤ length h)
OneShortMore h (t ∷ u ∷ turns) = ⊥

-- These turns are those of a session over the whole history, from the front k on, with at most one short turn behind them.
pub record SessionOver (h : List Entry) (k : ℕ) (s : Setting) (turns : List Turn) (replies : List Reply) : Type 0 where
  pub items : List Item
  pub done : List Turn
  pub more : List Turn
  pub turns_are : turns ≡ done ++ more
  pub session : IsSession h k s items done replies
  pub short : OneShortMore h more
