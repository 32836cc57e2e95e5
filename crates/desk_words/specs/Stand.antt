-- What is known of a desk at one moment, and what its calls do. `old` is what is known before a call, `new` after it.
use Rattle.std.specs.Prelude.{◌≡◌, ◌⊎◌, ℕ, ◌≤◌, Bool, true, List, [], ◌∷◌, ◌++◌, length, ⊤, Option, None, Some, Result, Ok, Err, IfOk}
use mathlib.Core.List.{IsPrefix}
use Rattle.exact_time.specs.declared.error.OutOfMemory.{OutOfMemory}
use Rattle.exact_time.specs.declared.moment.Moment.{Moment}
use Rattle.archive_entry.specs.declared.entry.Entry.{Entry}
use Rattle.archive_state.specs.declared.posted.Posted.{Posted}
use Rattle.archive_state.specs.declared.verdict.Verdict.{Verdict}
use Rattle.archive_state.specs.declared.verdict.Verdict.TheVariants.{Accept}
use Rattle.desk_words.specs.declared.asking.Question.{Question}
use Rattle.desk_words.specs.declared.asking.Answer.{Answer}
use Rattle.desk_words.specs.declared.asking.Submitted.{Submitted}
use Rattle.desk_words.specs.declared.asking.SubmitFault.{SubmitFault}
use Rattle.desk_words.specs.declared.asking.SubmitFault.TheVariants.{Stopped, OutOfMemory as NoMemory}
use Rattle.desk_words.specs.Setting.{Setting}
use Rattle.desk_words.specs.Outcomes.{outcome_of}
use Rattle.desk_words.specs.Posting.{ruling, posted_entry, added_by, could_stop}
use Rattle.desk_words.specs.Counts.{RoseBy, RoseWithin}

-- what a call that didn't end well left: an entry that is committed and not seen yet, for want of memory; or one whose
-- commit the disk stopped
pub data Left : Type 0 where
  nothing : Left
  short : Entry → Left
  stopped : Entry → Left

abbrev pub as_short : Option Entry → Left
as_short None = nothing
as_short (Some e) = short e

abbrev pub as_stopped : Option Entry → Left
as_stopped None = nothing
as_stopped (Some e) = stopped e

-- what a desk stands on: whether its disk tells what it holds, and how often it had failed when it was opened
pub record Footing : Type 0 where
  pub told : Bool
  pub faults : ℕ

-- What is known of a desk: what it stands on; the history that was seen; how many submits a disk stopped, how often it
-- caught up, how many entries it made; whether nobody else lengthens what is seen; and what was left.
pub record Stand : Type 0 where
  pub footing : Footing
  pub seen : List Entry
  pub stops : ℕ
  pub caught : ℕ
  pub made : ℕ
  pub alone : Bool
  pub left : Left

-- what every call keeps: what was seen stays in front, and counts don't fall
pub record GoesOn (old new : Stand) : Type 0 where
  pub grows : IsPrefix old.seen new.seen
  pub alone : new.alone ≡ old.alone
  pub footing : new.footing ≡ old.footing
  pub stops : old.stops ≤ new.stops

-- where nobody else lengthens what is seen, the call doesn't either, and leaves what was left
abbrev pub Quiet : Stand → Stand → Type 0
Quiet old new = old.alone ≡ true → (new.seen ≡ old.seen) × (new.left ≡ old.left)

abbrev pub answer_of : List Entry → Question → Setting → Answer
answer_of h q s = record { front = length h; outcome = outcome_of h q s }

-- a question is answered over what is seen after the call
pub record Asks (old new : Stand) (q : Question) (s : Setting) (result : Result Answer OutOfMemory) : Type 0 where
  pub goes_on : GoesOn old new
  pub caught : new.caught ≡ old.caught
  pub made : new.made ≡ old.made
  pub quiet : Quiet old new
  pub answer : IfOk result (λ a. a ≡ answer_of new.seen q s)

-- catching up is counted
pub record CatchesUp (old new : Stand) : Type 0 where
  pub goes_on : GoesOn old new
  pub caught : RoseBy 1 old.caught new.caught
  pub later : old.caught ≤ new.caught
  pub made : new.made ≡ old.made
  pub quiet : Quiet old new

-- what a desk may still add: nothing, or the entry that was left short
abbrev pub MayFlush : Left → List Entry → Type 0
MayFlush nothing flushed = flushed ≡ []
MayFlush (short e) flushed = (flushed ≡ []) ⊎ (flushed ≡ e ∷ [])
MayFlush (stopped e) flushed = flushed ≡ []

-- Over a desk that is alone: what was judged is what was seen and what was left short; and what is left now: nothing,
-- or what was left before where its entry wasn't added, or this call's own.
pub record Alone (old new : Stand) (judged : List Entry) (Mine : Left → Type 0) : Type 0 where
  pub flushed : List Entry
  pub may : MayFlush old.left flushed
  pub judged_is : judged ≡ old.seen ++ flushed
  pub left : (new.left ≡ nothing) ⊎ (((flushed ≡ []) × (new.left ≡ old.left)) ⊎ Mine new.left)

-- nothing is left that may still be added
abbrev pub NothingShort : Left → Type 0
NothingShort nothing = ⊤
NothingShort (short e) = ⊥
NothingShort (stopped e) = ⊤

-- how many entries a verdict makes
abbrev pub made_by : Verdict → ℕ
made_by (Accept n) = 1
made_by _ = 0

-- The command was judged over a history that begins with what was seen, and on Accept its entry is the last of what is
-- seen now.
pub record IsJudged (old new : Stand) (p : Posted) (moment : Moment) (s : Setting) (told : Submitted) : Type 0 where
  pub judged : List Entry
  pub judged_is : told.judged ≡ length judged
  pub begins : IsPrefix old.seen judged
  pub verdict : told.verdict ≡ ruling judged p moment s
  pub seen : new.seen ≡ judged ++ added_by told.verdict (posted_entry judged p moment s)
  pub front : told.front ≡ length new.seen
  pub made : RoseWithin (made_by told.verdict) (made_by told.verdict) old.made new.made
  pub alone : old.alone ≡ true → Alone old new judged (λ left. ⊥)
  pub tidy : old.alone ≡ true → NothingShort new.left

-- a disk stopped the command: its caller isn't denied, and it is accepted or its author has an entry with this sequence
-- number
pub record IsStopped (old new : Stand) (p : Posted) (moment : Moment) (s : Setting) : Type 0 where
  pub rose : RoseBy 1 old.stops new.stops
  pub could : could_stop new.seen p moment s ≡ true
  pub made : new.made ≡ old.made
  pub alone : old.alone ≡ true → Alone old new new.seen (λ left. left ≡ as_stopped (posted_entry new.seen p moment s))

-- memory ran out: the command's entry may be committed or not
pub record IsShort (old new : Stand) (p : Posted) (moment : Moment) (s : Setting) : Type 0 where
  pub made : RoseWithin 0 1 old.made new.made
  pub alone : old.alone ≡ true → Alone old new new.seen (λ left. left ≡ as_short (posted_entry new.seen p moment s))

abbrev pub SubmitRow : Stand → Stand → Posted → Moment → Setting → Result Submitted SubmitFault → Type 0
SubmitRow old new p moment s (Ok told) = IsJudged old new p moment s told
SubmitRow old new p moment s (Err Stopped) = IsStopped old new p moment s
SubmitRow old new p moment s (Err NoMemory) = IsShort old new p moment s

-- what submitting a command does
pub record Submits (old new : Stand) (p : Posted) (moment : Moment) (s : Setting) (result : Result Submitted SubmitFault) : Type 0 where
  pub goes_on : GoesOn old new
  pub caught : new.caught ≡ old.caught
  pub row : SubmitRow old new p moment s result
