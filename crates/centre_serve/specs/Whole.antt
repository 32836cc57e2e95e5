-- The links of all ports over one history.
use Rattle.std.specs.Prelude.{◌⊎◌, ℕ, ◌+◌, ◌≤◌, List, [], ◌∷◌, length, ⊤}
use Rattle.std.specs.List.{sum_by}
use Rattle.exact_time.specs.Causes.{Rose}
use Rattle.archive_entry.specs.declared.entry.Entry.{Entry}
use Rattle.desk_words.specs.Setting.{Setting}
use Rattle.http_replies.specs.declared.reply.Reply.{Reply}
use Rattle.link_ports.specs.Ports.{PortView, Visitor, Took, Came, IsSpent}
use Rattle.streams.specs.View.{StreamView}
use Rattle.centre_port.specs.Visits.{IsVisits, turns_of, halts_in}
use Rattle.centre_session.specs.Turns.{made_least, made_most}

-- what one port gave, and what came back, with the replies on each link
pub record PortVisits : Type 0 where
  pub gave : List StreamView
  pub came : List Visitor
  pub replies : List (List Reply)

-- The links that one port gave came back, in order, each as a visit over this history from the front k on, and no front is
-- below one of a link before it. None is left in it, or its count of faults rose.
pub record IsServed (h : List Entry) (k : ℕ) (s : Setting) (before after : PortView) (visits : PortVisits) : Type 0 where
  pub left : Took before.left after.left visits.gave
  pub back : Came before.back after.back visits.came
  pub are : IsVisits h k s visits.gave visits.came visits.replies
  pub later : before.faults ≤ after.faults
  pub ends : IsSpent after.left ⊎ Rose before.faults after.faults

-- so it is of each port
abbrev pub AreServed : List Entry → ℕ → Setting → List PortView → List PortView → List PortVisits → Type 0
AreServed h k s [] [] [] = ⊤
AreServed h k s (before ∷ befores) (after ∷ afters) (visits ∷ served) = IsServed h k s before after visits × AreServed h k s befores afters served
AreServed h k s [] [] (visits ∷ served) = ⊥
AreServed h k s [] (after ∷ afters) served = ⊥
AreServed h k s (before ∷ befores) [] served = ⊥
AreServed h k s (before ∷ befores) (after ∷ afters) [] = ⊥

-- how many entries the turns on the links of one port made, at least and at most, and how many replies on them tell that a
-- disk stopped a command
abbrev pub least_made : PortVisits → ℕ
least_made visits = sum_by made_least (turns_of visits.came)

abbrev pub most_made : PortVisits → ℕ
most_made visits = sum_by made_most (turns_of visits.came)

abbrev pub halted : PortVisits → ℕ
halted visits = sum_by halts_in visits.replies

-- none is left in any port
abbrev pub AreSpent : List PortView → Type 0
AreSpent [] = ⊤
AreSpent (after ∷ afters) = IsSpent after.left × AreSpent afters

-- the count of one of the ports rose
abbrev pub OneRose : List PortView → List PortView → Type 0
OneRose (before ∷ befores) (after ∷ afters) = Rose before.faults after.faults ⊎ OneRose befores afters
OneRose _ _ = ⊥

-- All links of all ports were served over one history, which has as many entries beyond the first k as their turns made.
pub record AllServed (h : List Entry) (k : ℕ) (s : Setting) (befores afters : List PortView) : Type 0 where
  pub served : List PortVisits
  pub are : AreServed h k s befores afters served
  pub least : k + sum_by least_made served ≤ length h
  pub most : length h ≤ k + sum_by most_made served
