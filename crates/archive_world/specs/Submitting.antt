-- The events of a submit, and of the caller that it answers.
use Rattle.std.specs.Prelude.{◌≡◌, ◌⊎◌, ℕ, ◌==◌, List, [], ◌∷◌, ◌++◌, length, Option, None, Some, option_to_list, Result, Ok, Err, if◌then◌else◌}
use Rattle.std.specs.List.{AllByRecursion}
use mathlib.Core.List.{IsPrefix}
use Rattle.exact_time.specs.declared.error.OutOfMemory.{OutOfMemory}
use Rattle.exact_time.specs.declared.moment.Moment.{Moment}
use Rattle.disk_model.specs.View.{DiskView}
use Rattle.archive_entry.specs.declared.entry.Entry.{Entry}
use Rattle.archive_state.specs.declared.posted.Posted.{Posted}
use Rattle.archive_state.specs.declared.verdict.Verdict.{Verdict}
use Rattle.archive_state.specs.declared.verdict.Verdict.TheVariants.{Repeat, Accept}
use Rattle.desk_words.specs.Posting.{added_by, posted_entry}
use Rattle.desk_words.specs.Setting.{Setting}
use Rattle.desk_words.specs.declared.asking.Answer.{Answer}
use Rattle.desk_words.specs.declared.asking.Submitted.{Submitted}
use Rattle.desk_words.specs.declared.asking.SubmitFault.{SubmitFault}
use Rattle.desk_words.specs.declared.asking.SubmitFault.TheVariants.{Stopped, OutOfMemory as NoMemory}
use Rattle.archive_world.specs.Held.{Held, held, IsHeld, Callers, world_of, WorldSteps, GoesBy, Recovered}
use Rattle.archive_world.specs.World.{Event, Allowed, run}
use Rattle.archive_world.specs.World.Event.{begins, commits, publishes, reads, learns, replies, acknowledges, fails}

-- ---- under the lock

-- what is committed and isn't published is published
abbrev pub show_all : Held → List Event
show_all h = if length h.published == length h.journal then [] else publishes ∷ []

-- entries are committed, one after another
abbrev pub commit_each : List Entry → List Event
commit_each [] = []
commit_each (e ∷ es) = begins e ∷ commits ∷ commit_each es

-- each is published before the next begins
abbrev pub show_each : List Entry → List Event
show_each [] = []
show_each (e ∷ es) = begins e ∷ commits ∷ publishes ∷ show_each es

-- a disk stops a commit; behind one that was stopped none begins
abbrev pub stop_at : (hand posted : Option Entry) → List Event
stop_at None (Some e) = begins e ∷ fails ∷ []
stop_at None None = []
stop_at (Some first) posted = []

-- the events of a post that is answered so, where all that is committed is published
abbrev pub post_events : Result Verdict SubmitFault → (hand posted : Option Entry) → List Event
post_events (Ok verdict) hand posted = commit_each (added_by verdict posted)
post_events (Err Stopped) hand posted = stop_at hand posted
post_events (Err NoMemory) hand posted = []

-- The events of a submit that is answered so. What waits is published first. Then an accepted entry is committed and
-- published; the first commit that a disk stops begins and fails; on every other answer nothing more happens. Memory may
-- run out at once, before the verdict, or behind the commit.
abbrev pub IsMade : Held → Option Entry → Result Submitted SubmitFault → List Event → Type 0
IsMade h posted (Ok told) events = events ≡ show_all h ++ show_each (added_by told.verdict posted)
IsMade h posted (Err Stopped) events = events ≡ show_all h ++ stop_at h.hand posted
IsMade h posted (Err NoMemory) events = (events ≡ []) ⊎ ((events ≡ show_all h) ⊎ (events ≡ show_all h ++ commit_each (option_to_list posted)))

-- the same of what was posted
abbrev pub SubmitMakes : Posted → Moment → Setting → Result Submitted SubmitFault → Held → List Event → Type 0
SubmitMakes p m s result h events = IsMade h (posted_entry h.journal p m s) result events

-- what a submit does under the lock, where this entry was posted
pub record Makes (before now : DiskView) (old new : Held) (posted : Option Entry) (result : Result Submitted SubmitFault) : Type 0 where
  pub events : List Event
  pub are : IsMade old posted result events
  pub goes : GoesBy before now old new events

-- ---- callers

-- how a call returns to its caller: without a word, over so many entries, or with the number of an entry
pub data Answered : Type 0 where
  without : Answered
  over : (front : ℕ) → Answered
  with_number : (n : ℕ) → Answered

abbrev pub returns : ℕ → Answered → List Event
returns caller without = []
returns caller (over front) = replies caller front ∷ []
returns caller (with_number n) = acknowledges caller n ∷ []

-- an accepted command and a repeated one are answered with the number of their entry
abbrev pub told_by : Verdict → ℕ → Answered
told_by (Accept n) front = with_number n
told_by (Repeat n) front = with_number n
told_by _ front = over front

abbrev pub submit_told : Result Submitted SubmitFault → Answered
submit_told (Ok told) = told_by told.verdict told.front
submit_told (Err fault) = without

abbrev pub ask_told : Result Answer OutOfMemory → Answered
ask_told (Ok answer) = over answer.front
ask_told (Err fault) = without

-- A call without the lock: wherever all that is seen after it is published, the caller reads so much, and is answered.
pub record Reads (old seen : List Entry) (told : Answered) : Type 0 where
  pub grows : IsPrefix old seen
  pub allowed : (h : Held) (c : Callers) (caller : ℕ) → c.seen caller ≡ length old → IsPrefix seen h.published → Allowed (world_of h c) (reads caller (length seen) ∷ returns caller told)
  pub sees : (h : Held) (c : Callers) (caller : ℕ) → (run (world_of h c) (reads caller (length seen) ∷ returns caller told)).seen caller ≡ length seen

-- A call with the lock: what the caller had seen was published then. What lay under the lock went on by such events, the
-- caller learns all that is published behind them, and is answered.
pub record Learns (old seen : List Entry) (Are : Held → List Event → Type 0) (told : Answered) : Type 0 where
  pub before : Held
  pub behind : Held
  pub is : IsHeld before
  pub saw : IsPrefix old before.published
  pub events : List Event
  pub are : Are before events
  pub goes : (c : Callers) → WorldSteps (world_of before c) events (world_of behind c)
  pub all : seen ≡ behind.published
  pub allowed : (c : Callers) (caller : ℕ) → Allowed (world_of behind c) (learns caller ∷ returns caller told)
  pub sees : (c : Callers) (caller : ℕ) → (run (world_of behind c) (learns caller ∷ returns caller told)).seen caller ≡ length seen

-- nothing happens under the lock
abbrev pub NoEvents : Held → List Event → Type 0
NoEvents h events = events ≡ []

-- A start over this history: it recovers, and each place reads it all.
pub record Opens {P : Type 0} (opening : List Entry) (seen : P → List Entry) (places : List P) : Type 0 where
  pub recovered : Recovered opening
  pub read : AllByRecursion (λ p. (c : Callers) (caller : ℕ) → c.seen caller ≡ 0 → Allowed (world_of (held opening opening None) c) (reads caller (length (seen p)) ∷ [])) places
