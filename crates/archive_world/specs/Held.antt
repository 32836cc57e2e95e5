-- What lies under the lock of a running archive, what callers have, and what a crash leaves of both.
use Rattle.std.specs.Prelude.{◌≡◌, ℕ, ◌+◌, ◌≤◌, List, [], ◌∷◌, ◌++◌, length, Bool, true, false, Option, None, is_some}
use mathlib.Core.List.{IsPrefix}
use Rattle.disk_model.specs.Disk.{Leaves}
use Rattle.disk_model.specs.View.{DiskView, WhereTold, AlwaysLeaves}
use Rattle.archive_entry.specs.declared.entry.Entry.{Entry}
use Rattle.archive_log.specs.Histories.{Recovers}
use Rattle.archive_state.specs.Lawful.{IsLawful}
use Rattle.archive_world.specs.World.{World, Event, Allowed, after, run}
use Rattle.archive_world.specs.World.Event.{begins, commits, publishes, fails, crashes, recovers}

-- what lies under the lock: the committed history, what is published of it, and what was in hand when a commit failed
pub record Held : Type 0 where
  pub journal : List Entry
  pub published : List Entry
  pub hand : Option Entry

abbrev pub held : List Entry → List Entry → Option Entry → Held
held journal published hand = record { journal = journal; published = published; hand = hand }

-- what the type of what lies under the lock keeps
pub record IsHeld (h : Held) : Type 0 where
  pub lawful : IsLawful h.journal
  pub first : IsPrefix h.published h.journal
  pub few : length h.journal ≤ length h.published + 1

-- what callers have: how many entries each has seen, over how many replies were made, and what was acknowledged
pub record Callers : Type 0 where
  pub seen : ℕ → ℕ
  pub shown : ℕ
  pub acknowledged : List (ℕ × Entry)

-- the world while the program runs
abbrev pub world_of : Held → Callers → World
world_of h c = record {
  journal = h.journal;
  hand = h.hand;
  published = length h.published;
  seen = c.seen;
  shown = c.shown;
  acknowledged = c.acknowledged;
  stopped = is_some h.hand;
  up = true;
}

-- the same world, where callers have something else
abbrev pub with_callers : World → Callers → World
with_callers w c = record w { seen = c.seen; shown = c.shown; acknowledged = c.acknowledged }

-- what happens to what lies under the lock, and not to what callers have
abbrev pub is_held : Event → Bool
is_held (begins e) = true
is_held commits = true
is_held publishes = true
is_held fails = true
is_held _ = false

-- these events may happen one after another, and lead from one world to the other
pub record WorldSteps (w : World) (events : List Event) (v : World) : Type 0 where
  pub allowed : Allowed w events
  pub there : run w events ≡ v

-- the file is a journal of what a crash of the world leaves
pub record IsLeftOf (w : World) (file : List ℕ) : Type 0 where
  pub joins : Bool
  pub journal : Recovers (after w (crashes joins)).journal file

-- the file is a journal of what a crash leaves after some of these events
pub record IsLeftWithin (w : World) (events : List Event) (file : List ℕ) : Type 0 where
  pub done : List Event
  pub ahead : List Event
  pub are : events ≡ done ++ ahead
  pub left : IsLeftOf (run w done) file

-- the history is that of the world after a crash, whether or not what was in hand joined it
pub record IsOpened (w : World) (h : List Entry) : Type 0 where
  pub joins : Bool
  pub history : h ≡ (after w (crashes joins)).journal

-- One world leads to the other, and at every moment every image of the disk is a journal of what a crash leaves after
-- some of these events.
pub record Goes (before now : DiskView) (w : World) (events : List Event) (v : World) : Type 0 where
  pub steps : WorldSteps w events v
  pub images : WhereTold before (AlwaysLeaves before now (IsLeftWithin w events))

-- What is done under the lock by these events: whatever callers have, the world before leads to the world after.
abbrev pub GoesBy : DiskView → DiskView → Held → Held → List Event → Type 0
GoesBy before now old new events = (c : Callers) → Goes before now (world_of old c) events (world_of new c)

-- while nothing happens: every image is a journal of what a crash leaves now
abbrev pub LeavesHeld : DiskView → Held → Type 0
LeavesHeld view h = WhereTold view ((c : Callers) → Leaves view.may_leave (IsLeftOf (world_of h c)))

-- what a crash leaves of what callers have
abbrev pub callers_after : World → Callers
callers_after w = record { seen = λ c. 0; shown = w.shown; acknowledged = w.acknowledged }

-- whichever world it is that a crash left with this history, it recovers, and then all of the history is published
abbrev pub Recovered : List Entry → Type 0
Recovered opening = (w : World) (o : IsOpened w opening) → WorldSteps w (crashes o.joins ∷ recovers ∷ []) (world_of (held opening opening None) (callers_after w))

-- a start over this history
pub record StartsOver (opening : List Entry) (h : Held) : Type 0 where
  pub is : h ≡ held opening opening None
  pub again : Recovered opening
