-- How what is told of a request is put together from what a desk says.
use Rattle.std.specs.Prelude.{◌≡◌, ◌⊎◌, ℕ, ◌+◌, ◌≤◌, ◌==◌, Bool, true, List, length, Option, None, Some, is_some, Result, Ok, Err, IfOk}
use Rattle.exact_time.specs.declared.error.OutOfMemory.{OutOfMemory}
use Rattle.exact_time.specs.declared.moment.Moment.{Moment}
use Rattle.archive_entry.specs.declared.entry.Entry.{Entry}
use Rattle.archive_state.specs.declared.limits.Limits.{Limits}
use Rattle.archive_state.specs.declared.posted.Posted.{Posted}
use Rattle.archive_state.specs.declared.verdict.Verdict.{Verdict}
use Rattle.archive_state.specs.declared.verdict.Verdict.TheVariants.{Accept}
use Rattle.http_digest.specs.declared.authorization.Credentials.{Credentials}
use Rattle.query_parameters.specs.declared.fault.QueryFault.{QueryFault}
use Rattle.desk_words.specs.Counts.{RoseWithin, RoseAtLeast}
use Rattle.desk_words.specs.Outcomes.{outcome_of}
use Rattle.desk_words.specs.Setting.{Setting}
use Rattle.desk_words.specs.Stand.{Stand, GoesOn, Quiet}
use Rattle.desk_words.specs.declared.asking.Outcome.{Outcome}
use Rattle.desk_words.specs.declared.asking.Outcome.TheVariants as outcome
use Rattle.desk_words.specs.declared.asking.Question.{Question}
use Rattle.desk_words.specs.declared.asking.Wanted.{Wanted}
use Rattle.centre_desk.specs.Queries.{nodata_of, wanted_or_nothing}
use Rattle.centre_desk.specs.Replies.{told_empty, kind_of, too_large}
use Rattle.centre_desk.specs.Told.{status_told}
use Rattle.centre_desk.specs.Turns.{IsLast, AddsRight, could_stop_in, added_by, as_count}
use Rattle.centre_desk.specs.declared.answering.Asking.{Asking}
use Rattle.centre_desk.specs.declared.fault.Fault.TheVariants as fault
use Rattle.centre_desk.specs.declared.told.Told.{Told}
use Rattle.centre_desk.specs.declared.told.Told.TheVariants.{Body, Nothing, Refused}
use Rattle.centre_desk.specs.declared.told.Said.{Said}

-- the fault of a query, if it has one
abbrev pub fault_in : Result Wanted QueryFault → Option QueryFault
fault_in (Ok w) = None
fault_in (Err f) = Some f

-- the question of a query; a faulty one wants nothing, so that who asks is known
abbrev pub question_of : Result Wanted QueryFault → Option Credentials → ℕ → Moment → Question
question_of asked credentials least moment = record { wanted = wanted_or_nothing asked; credentials = credentials; least = least; moment = moment }

-- a question, and the fault of its query
abbrev pub asking_of : Result Wanted QueryFault → Option Credentials → ℕ → Moment → Asking
asking_of asked credentials least moment = record { question = question_of asked credentials least moment; fault = fault_in asked }

abbrev pub told_known : Option QueryFault → Told
told_known None = Nothing
told_known (Some f) = Refused (fault.Query f)

-- what an outcome over so many entries is told as
abbrev pub told_by : Option QueryFault → Question → Limits → ℕ → Outcome → Told
told_by f q limits front outcome.Behind = Refused (fault.Behind q.least front)
told_by f q limits front (outcome.Denied d) = Refused (fault.Denied d)
told_by f q limits front outcome.Known = told_known f
told_by f q limits front outcome.NoRole = Refused fault.Role
told_by f q limits front outcome.Empty = told_empty (nodata_of q.wanted)
told_by f q limits front (outcome.TooLarge n) = Refused (too_large q.wanted n limits)
told_by f q limits front (outcome.Body bytes) = Body (kind_of q.wanted) bytes

-- what a question's answer over a history is told as
abbrev pub told_asking : List Entry → Asking → Setting → Told
told_asking h a s = told_by a.fault a.question s.limits (length h) (outcome_of h a.question s)

abbrev pub said_as : Told → ℕ → Option ℕ → Said
said_as told front entry = record { told = told; front = front; entry = entry }

-- a question was answered: its answer is told over what is seen
pub record Answers (old new : Stand) (tells : List Entry → Told) (result : Result Said OutOfMemory) : Type 0 where
  pub goes_on : GoesOn old new
  pub made : new.made ≡ old.made
  pub quiet : Quiet old new
  pub said : IfOk result (λ s. s ≡ said_as (tells new.seen) (length new.seen) None)

-- what a request is told is what is to be told over this history
pub record SaysWhole (tells : List Entry → Bool → Told) (posts : Option Posted) (h : List Entry) (moment : Moment) (s : Setting) (said : Said) : Type 0 where
  pub entry : IsLast said.entry (length h)
  pub adds : AddsRight h posts moment s (is_some said.entry)
  pub told_is : said.told ≡ tells h (is_some said.entry)

-- what a request is told where a disk stopped its command
pub record SaysStopped (posts : Option Posted) (h : List Entry) (moment : Moment) (s : Setting) (said : Said) : Type 0 where
  pub no_entry : said.entry ≡ None
  pub could : could_stop_in h posts moment s ≡ true
  pub told_is : said.told ≡ Refused fault.Stopped

-- what a request was told, over what is seen after it
pub record HasSaid (old new : Stand) (tells : List Entry → Bool → Told) (posts : Option Posted) (moment : Moment) (s : Setting) (said : Said) : Type 0 where
  pub front : said.front ≡ length new.seen
  pub rises : length old.seen + added_by said.entry ≤ length new.seen
  pub served : SaysWhole tells posts new.seen moment s said ⊎ SaysStopped posts new.seen moment s said
  pub stops : RoseAtLeast (as_count (status_told said.told == 503)) old.stops new.stops
  pub made : RoseWithin (added_by said.entry) (added_by said.entry) old.made new.made

abbrev pub SaidRow : Stand → Stand → (List Entry → Bool → Told) → Option Posted → Moment → Setting → Result Said OutOfMemory → Type 0
SaidRow old new tells posts moment s (Ok said) = HasSaid old new tells posts moment s said
SaidRow old new tells posts moment s (Err memory) = RoseWithin 0 1 old.made new.made

-- a request is told something over a desk, or memory runs out
pub record Says (old new : Stand) (tells : List Entry → Bool → Told) (posts : Option Posted) (moment : Moment) (s : Setting) (result : Result Said OutOfMemory) : Type 0 where
  pub goes_on : GoesOn old new
  pub row : SaidRow old new tells posts moment s result

-- the number of the entry that a verdict adds
abbrev pub entry_number : Verdict → Option ℕ
entry_number (Accept n) = Some n
entry_number _ = None
