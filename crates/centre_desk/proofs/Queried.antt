-- What an answer of a desk is told as is what is to be told of the query.
use Rattle.std.proofs.Common.{◌≡◌, refl, ℕ, Bool, true, false, List, length, Option, None, Some, Result, Ok, Err, nat_lt, if◌then◌else◌}
use Rattle.exact_time.specs.declared.error.TextRefusal.{TextRefusal}
use Rattle.exact_time.specs.declared.error.TextRefusal.TheVariants.{Empty as NoLine, TooLarge as TooManyLines, OutOfMemory as TextMemory}
use Rattle.exact_time.specs.declared.moment.Moment.{Moment}
use Rattle.epochs.specs.Kinds.{Text}
use Rattle.access_digest.specs.declared.denial.Denial.{Denial}
use Rattle.archive_entry.specs.declared.entry.Entry.{Entry}
use Rattle.archive_state.specs.History.{live_of}
use Rattle.archive_state.specs.declared.limits.Limits.{Limits}
use Rattle.dataselect.specs.DataBody.{answer_of as data_answer_of}
use Rattle.dataselect.specs.declared.answers.DataRefusal.{DataRefusal}
use Rattle.dataselect.specs.declared.answers.DataRefusal.TheVariants.{Empty as NoRow, TooLarge as TooManyBytes, OutOfMemory as DataMemory}
use Rattle.entry_bodies.specs.Bodies.{entries_body}
use Rattle.entry_bodies.specs.declared.writing.BodyRefusal.{BodyRefusal}
use Rattle.entry_bodies.specs.declared.writing.BodyRefusal.TheVariants.{Empty as NoEntry, TooLarge as LongEntry, OutOfMemory as BodyMemory}
use Rattle.query_parameters.specs.declared.fault.QueryFault.{QueryFault}
use Rattle.query_words.specs.declared.avail.AvailMethod.TheVariants as method
use Rattle.availability.specs.Spans.{spans_of}
use Rattle.availability.specs.Texts.{answer_of as avail_answer_of}
use Rattle.station_text.specs.Answers.{text_answer_of as station_answer_of}
use Rattle.event_text.specs.Texts.{text_answer_of as event_answer_of}
use Rattle.http_digest.specs.declared.authorization.Credentials.{Credentials}
use Rattle.http_wire.specs.declared.request.Request.{Request}
use Rattle.service_paths.specs.declared.page.Access.{Access}
use Rattle.desk_words.specs.Outcomes.{outcome_from, answer_to, data_told, text_told, body_told, may_copy, asked_as, told_as, outcome_of}
use Rattle.desk_words.specs.Setting.{Setting}
use Rattle.desk_words.specs.Visible.{visible, is_among, all_seen}
use Rattle.desk_words.specs.declared.asking.Outcome.{Outcome}
use Rattle.desk_words.specs.declared.asking.Outcome.TheVariants as outcome
use Rattle.desk_words.specs.declared.asking.Question.{Question}
use Rattle.desk_words.specs.declared.asking.Wanted.{Wanted}
use Rattle.desk_words.specs.declared.asking.Wanted.TheVariants.{Nothing, Waves, Spans, Extent, Station, Event, Entries}
use Rattle.centre_desk.specs.Answering.{fault_in, question_of, told_by}
use Rattle.centre_desk.specs.Fields.{credentials_by}
use Rattle.centre_desk.specs.Queries.{wanted_or_nothing}
use Rattle.centre_desk.specs.Replies.{told_answer, told_user, told_caller, told_query}
use Rattle.centre_desk.specs.declared.fault.Fault.TheVariants as fault
use Rattle.centre_desk.specs.declared.told.Told.{Told}
use Rattle.centre_desk.specs.declared.told.Told.TheVariants.{Refused}

module _ (credentials : Option Credentials) (least : ℕ) (moment : Moment) (limits : Limits) (front : ℕ) where
  -- what the outcome is told as, and what the answer is to be told as
  abbrev IsSame : Wanted → Outcome → Type 0
  IsSame w o = told_by None (question_of (Ok w) credentials least moment) limits front o ≡ told_answer w limits o

  of_data : (w : Wanted) (answer : Result (List ℕ) DataRefusal) → IsSame w (outcome_from data_told answer)
  of_data w (Ok body) = refl
  of_data w (Err NoRow) = refl
  of_data w (Err (TooManyBytes n)) = refl
  of_data w (Err DataMemory) = refl

  of_text : (w : Wanted) (answer : Result (List ℕ) TextRefusal) → IsSame w (outcome_from text_told answer)
  of_text w (Ok body) = refl
  of_text w (Err NoLine) = refl
  of_text w (Err (TooManyLines n)) = refl
  of_text w (Err TextMemory) = refl

  of_body : (w : Wanted) (answer : Result (List ℕ) BodyRefusal) → IsSame w (outcome_from body_told answer)
  of_body w (Ok body) = refl
  of_body w (Err NoEntry) = refl
  of_body w (Err (LongEntry n)) = refl
  of_body w (Err BodyMemory) = refl

  of_copy : (w : Wanted) (may : Bool) (answer : Result (List ℕ) BodyRefusal) → IsSame w (if may then outcome_from body_told answer else outcome.NoRole)
  of_copy w true answer = of_body w answer
  of_copy w false answer = refl

  of_answer : (h : List Entry) (user : Option Text) (w : Wanted) → IsSame w (answer_to h limits user w)
  of_answer h user Nothing = refl
  of_answer h user (Waves q) = of_data (Waves q) (data_answer_of all_seen q limits.max_bytes (visible h user).rows)
  of_answer h user (Spans q) =
      of_text (Spans q) (avail_answer_of method.Spans q limits.max_lines (spans_of all_seen (is_among (visible h user).restricted) q (visible h user).rows))
  of_answer h user (Extent q) =
      of_text (Extent q) (avail_answer_of method.Extent q limits.max_lines (spans_of all_seen (is_among (visible h user).restricted) q (visible h user).rows))
  of_answer h user (Station q) = of_text (Station q) (station_answer_of q limits.max_lines (visible h user).lines)
  of_answer h user (Event q) = of_text (Event q) (event_answer_of q limits.max_lines (visible h user).lines)
  of_answer h user (Entries from) = of_copy (Entries from) (may_copy (live_of h) user) (entries_body h from limits.max_bytes)

module _ (h : List Entry) (r : Request) (moment : Moment) (s : Setting) (access : Access) (least : ℕ) where
  abbrev question : Result Wanted QueryFault → Question
  question asked = question_of asked (credentials_by access r) least moment

  abbrev told : Result Wanted QueryFault → Outcome → Told
  told asked o = told_by (fault_in asked) (question asked) s.limits (length h) o

  by_asked : (asked : Result Wanted QueryFault) (user : Option Text) → told asked (answer_to h s.limits user (wanted_or_nothing asked)) ≡ told_user h s asked user
  by_asked (Err f) user = refl
  by_asked (Ok w) user = of_answer (credentials_by access r) least moment s.limits (length h) h user w

  by_asker : (asked : Result Wanted QueryFault) (asker : Result (Option Text) Denial) → told asked (told_as asker (λ user. answer_to h s.limits user (wanted_or_nothing asked))) ≡ told_caller h s asked asker
  by_asker asked (Err d) = refl
  by_asker asked (Ok user) = by_asked asked user

  by_front : (asked : Result Wanted QueryFault) (behind : Bool)
      → told asked (if behind then outcome.Behind else told_as (asked_as (live_of h) (credentials_by access r) moment s.secret) (λ user. answer_to h s.limits user (wanted_or_nothing asked)))
      ≡ (if behind then Refused (fault.Behind least (length h)) else told_caller h s asked (asked_as (live_of h) (credentials_by access r) moment s.secret))
  by_front asked true = refl
  by_front asked false = by_asker asked (asked_as (live_of h) (credentials_by access r) moment s.secret)

  pub query_is_told : (asked : Result Wanted QueryFault) → told asked (outcome_of h (question asked) s) ≡ told_query h r moment s access asked (Some least)
  unfolding outcome_of
  query_is_told asked = by_front asked (nat_lt (length h) least)
