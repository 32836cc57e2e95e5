-- What a question is answered with.
use Rattle.std.specs.Prelude.{ℕ, Bool, true, false, List, length, find, Option, None, Some, Result, Ok, Err, nat_lt, if◌then◌else◌}
use Rattle.exact_time.specs.declared.error.TextRefusal.{TextRefusal}
use Rattle.exact_time.specs.declared.error.TextRefusal.TheVariants.{Empty as NoLine, TooLarge as TooManyLines, OutOfMemory as TextMemory}
use Rattle.exact_time.specs.declared.moment.Moment.{Moment}
use Rattle.epochs.specs.Kinds.{Text}
use Rattle.epochs.specs.declared.parts.Roles.{Roles}
use Rattle.epoch_rules.specs.Catalog.{is_user}
use Rattle.epochs.specs.Lines.{LineValues}
use Rattle.dataselect.specs.DataBody.{answer_of as data_answer_of}
use Rattle.dataselect.specs.declared.answers.DataRefusal.{DataRefusal}
use Rattle.dataselect.specs.declared.answers.DataRefusal.TheVariants.{Empty as NoRow, TooLarge as TooManyBytes, OutOfMemory as DataMemory}
use Rattle.query_words.specs.declared.avail.AvailMethod.{AvailMethod}
use Rattle.query_words.specs.declared.avail.AvailMethod.TheVariants as method
use Rattle.query_words.specs.declared.avail.AvailQuery.{AvailQuery}
use Rattle.availability.specs.Spans.{spans_of}
use Rattle.availability.specs.Texts.{answer_of as avail_answer_of}
use Rattle.station_text.specs.Answers.{text_answer_of as station_answer_of}
use Rattle.event_text.specs.Texts.{text_answer_of as event_answer_of}
use Rattle.http_digest.specs.declared.authorization.Credentials.{Credentials}
use Rattle.http_digest.specs.declared.secret.Secret.{Secret}
use Rattle.access_digest.specs.Who.{who_of}
use Rattle.access_digest.specs.declared.denial.Denial.{Denial}
use Rattle.archive_entry.specs.declared.entry.Entry.{Entry}
use Rattle.entry_bodies.specs.Bodies.{entries_body}
use Rattle.entry_bodies.specs.declared.writing.BodyRefusal.{BodyRefusal}
use Rattle.entry_bodies.specs.declared.writing.BodyRefusal.TheVariants.{Empty as NoEntry, TooLarge as LongEntry, OutOfMemory as BodyMemory}
use Rattle.archive_state.specs.History.{live_of, roles_in}
use Rattle.archive_state.specs.declared.limits.Limits.{Limits}
use Rattle.desk_words.specs.declared.asking.Question.{Question}
use Rattle.desk_words.specs.declared.asking.Wanted.{Wanted}
use Rattle.desk_words.specs.declared.asking.Wanted.TheVariants.{Nothing, Waves, Spans, Extent, Station, Event, Entries}
use Rattle.desk_words.specs.declared.asking.Outcome.{Outcome}
use Rattle.desk_words.specs.declared.asking.Outcome.TheVariants.{Behind, Denied, Known, NoRole, Empty, TooLarge, Body}
use Rattle.desk_words.specs.Setting.{Setting}
use Rattle.desk_words.specs.Visible.{Visible, visible, is_among, all_seen}

-- a body, or what its refusal is told as
abbrev pub outcome_from : {F : Type 0} → (F → Outcome) → Result (List ℕ) F → Outcome
outcome_from told (Ok body) = Body body
outcome_from told (Err fault) = told fault

-- how refusals are told; want of memory is no outcome, and no definition gives it
abbrev pub data_told : DataRefusal → Outcome
data_told NoRow = Empty
data_told (TooManyBytes n) = TooLarge n
data_told DataMemory = Empty

abbrev pub text_told : TextRefusal → Outcome
text_told NoLine = Empty
text_told (TooManyLines n) = TooLarge n
text_told TextMemory = Empty

abbrev pub body_told : BodyRefusal → Outcome
body_told NoEntry = Empty
body_told (LongEntry n) = TooLarge n
body_told BodyMemory = Empty

-- the text about spans that one who sees this is given
abbrev pub avail_outcome : AvailMethod → Visible → Limits → AvailQuery → Outcome
avail_outcome way v limits q = outcome_from text_told (avail_answer_of way q limits.max_lines (spans_of all_seen (is_among v.restricted) q v.rows))

-- a user who has the role replica, and nobody else, may copy an archive
abbrev pub copies : Option Roles → Bool
copies None = false
copies (Some r) = r.replica

abbrev pub may_copy : List LineValues → Option Text → Bool
may_copy live None = false
may_copy live (Some user) = copies (roles_in (find (is_user user) live))

-- what one is told who asks for the entries from a number on: the whole history's, whatever else that one may see
abbrev pub entries_told : List Entry → Limits → Option Text → ℕ → Outcome
entries_told h limits user from =
    if may_copy (live_of h) user then outcome_from body_told (entries_body h from limits.max_bytes)
    else NoRole

-- what is answered to one who sees this, and is told this of the entries from a number on
abbrev pub wanted_outcome : Visible → (ℕ → Outcome) → Limits → Wanted → Outcome
wanted_outcome v entries limits Nothing = Known
wanted_outcome v entries limits (Waves q) = outcome_from data_told (data_answer_of all_seen q limits.max_bytes v.rows)
wanted_outcome v entries limits (Spans q) = avail_outcome method.Spans v limits q
wanted_outcome v entries limits (Extent q) = avail_outcome method.Extent v limits q
wanted_outcome v entries limits (Station q) = outcome_from text_told (station_answer_of q limits.max_lines v.lines)
wanted_outcome v entries limits (Event q) = outcome_from text_told (event_answer_of q limits.max_lines v.lines)
wanted_outcome v entries limits (Entries from) = entries from

-- what is answered over a history to a user, or to nobody in particular
abbrev pub answer_to : List Entry → Limits → Option Text → Wanted → Outcome
answer_to h limits user wanted = wanted_outcome (visible h user) (entries_told h limits user) limits wanted

abbrev pub as_asker : Result Text Denial → Result (Option Text) Denial
as_asker (Ok name) = Ok (Some name)
as_asker (Err denial) = Err denial

abbrev pub asked_as : List LineValues → Option Credentials → Moment → Secret → Result (Option Text) Denial
asked_as live None moment secret = Ok None
asked_as live (Some credentials) moment secret = as_asker (who_of live credentials moment secret)

-- who asks: nobody in particular, a user, or one who is denied
abbrev pub asker_of : List Entry → Question → Setting → Result (Option Text) Denial
asker_of h q s = asked_as (live_of h) q.credentials q.moment s.secret

abbrev pub told_as : Result (Option Text) Denial → (Option Text → Outcome) → Outcome
told_as (Err denial) answer = Denied denial
told_as (Ok user) answer = answer user

-- Behind where there are fewer entries than the question wants, then the denial, then what is wanted
abbrev pub outcome_by : ℕ → Result (Option Text) Denial → (Option Text → Outcome) → Question → Outcome
outcome_by front asker answer q = if nat_lt front q.least then Behind else told_as asker answer

-- What a question is answered with over a history: a function of the number of entries, of who asks, and of what is
-- visible to that one; of the entries themselves where it asks for them and may copy the archive.
unfoldable pub outcome_of : List Entry → Question → Setting → Outcome
outcome_of h q s = outcome_by (length h) (asker_of h q s) (λ user. answer_to h s.limits user q.wanted) q

-- a question asks for entries
abbrev pub asks_entries : Wanted → Bool
asks_entries (Entries from) = true
asks_entries _ = false
