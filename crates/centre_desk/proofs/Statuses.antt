-- Which statuses are not told.
use Rattle.std.proofs.Common.{◌≡◌, refl, ℕ, ◌==◌, Bool, true, false, List, length, map, Option, None, Some, Result, Ok, Err, nat_lt, if◌then◌else◌}
use Rattle.exact_time.specs.declared.moment.Moment.{Moment}
use Rattle.epochs.specs.Kinds.{Text}
use Rattle.access_digest.specs.declared.denial.Denial.{Denial}
use Rattle.access_digest.specs.declared.denial.Denial.TheVariants as denial
use Rattle.archive_entry.specs.declared.entry.Entry.{Entry}
use Rattle.archive_entry.specs.declared.entry.Kind.{Kind}
use Rattle.archive_state.specs.History.{live_of}
use Rattle.archive_state.specs.declared.limits.Limits.{Limits}
use Rattle.archive_state.specs.declared.verdict.Verdict.{Verdict}
use Rattle.archive_state.specs.declared.verdict.Verdict.TheVariants as verdict
use Rattle.dataselect.specs.declared.query.Nodata.{Nodata}
use Rattle.dataselect.specs.declared.query.Nodata.TheVariants.{Quiet, NotFound}
use Rattle.query_parameters.specs.declared.fault.QueryFault.{QueryFault}
use Rattle.http_replies.specs.declared.reply.Allow.{Allow}
use Rattle.http_wire.specs.FieldPairs.{as_pair}
use Rattle.http_wire.specs.declared.ending.HeadFault.{HeadFault}
use Rattle.http_wire.specs.declared.ending.HeadFault.TheVariants as head
use Rattle.http_wire.specs.declared.request.Request.{Request}
use Rattle.service_paths.specs.Paths.{page_of, methods_of, is_allowed, path_of, query_of}
use Rattle.service_paths.specs.declared.page.Access.{Access}
use Rattle.service_paths.specs.declared.page.Page.{Page}
use Rattle.service_paths.specs.declared.page.Page.TheVariants as page
use Rattle.desk_words.specs.Outcomes.{asked_as, answer_to}
use Rattle.desk_words.specs.Posting.{ruling}
use Rattle.desk_words.specs.Setting.{Setting}
use Rattle.desk_words.specs.declared.asking.Outcome.{Outcome}
use Rattle.desk_words.specs.declared.asking.Outcome.TheVariants as outcome
use Rattle.desk_words.specs.declared.asking.Wanted.{Wanted}
use Rattle.desk_words.specs.declared.asking.Wanted.TheVariants as wanted
use Rattle.centre_desk.specs.Faults.{head_status, denial_status}
use Rattle.centre_desk.specs.Fields.{front_asked, credentials_by}
use Rattle.centre_desk.specs.Queries.{wanted_of, seq_got}
use Rattle.centre_desk.specs.Replies.{told_empty, too_large, told_answer, told_user, told_caller, told_query, told_verdict, told_feed, told_page, told_path, told_of, judged_over, posted_as}
use Rattle.centre_desk.specs.Told.{status_told}
use Rattle.centre_desk.specs.declared.fault.Fault.TheVariants as fault
use Rattle.centre_desk.specs.declared.told.Told.{Told}
use Rattle.centre_desk.specs.declared.told.Told.TheVariants.{Body, Nothing, Refused}

-- it isn't that a disk stopped a command
abbrev pub IsGoing : Told → Type 0
IsGoing told = (status_told told == 503) ≡ false

going_denial : (d : Denial) → IsGoing (Refused (fault.Denied d))
going_denial denial.Absent = refl
going_denial denial.Unreadable = refl
going_denial denial.Stale = refl
going_denial denial.UnknownUser = refl
going_denial denial.WrongResponse = refl

going_empty : (nodata : Nodata) → IsGoing (told_empty nodata)
going_empty Quiet = refl
going_empty NotFound = refl

going_large : (w : Wanted) (n : ℕ) (limits : Limits) → IsGoing (Refused (too_large w n limits))
going_large (wanted.Waves q) n limits = refl
going_large wanted.Nothing n limits = refl
going_large (wanted.Spans q) n limits = refl
going_large (wanted.Extent q) n limits = refl
going_large (wanted.Station q) n limits = refl
going_large (wanted.Event q) n limits = refl
going_large (wanted.Entries from) n limits = refl

going_answer : (w : Wanted) (limits : Limits) (o : Outcome) → IsGoing (told_answer w limits o)
going_answer w limits outcome.Behind = refl
going_answer w limits (outcome.Denied d) = going_denial d
going_answer w limits outcome.Known = refl
going_answer w limits outcome.NoRole = refl
going_answer w limits outcome.Empty = going_empty _
going_answer w limits (outcome.TooLarge n) = going_large w n limits
going_answer w limits (outcome.Body bytes) = refl

going_user : (h : List Entry) (s : Setting) (asked : Result Wanted QueryFault) (user : Option Text) → IsGoing (told_user h s asked user)
going_user h s (Err f) user = refl
going_user h s (Ok w) user = going_answer w s.limits (answer_to h s.limits user w)

going_caller : (h : List Entry) (s : Setting) (asked : Result Wanted QueryFault) (asker : Result (Option Text) Denial) → IsGoing (told_caller h s asked asker)
going_caller h s asked (Err d) = going_denial d
going_caller h s asked (Ok user) = going_user h s asked user

going_front : (h : List Entry) (least : ℕ) (told : Told) (behind : Bool) → IsGoing told → IsGoing (if behind then Refused (fault.Behind least (length h)) else told)
going_front h least told true is = refl
going_front h least told false is = is

-- on a query path
pub going_query : (h : List Entry) (r : Request) (moment : Moment) (s : Setting) (access : Access) (asked : Result Wanted QueryFault) (front : Option ℕ) → IsGoing (told_query h r moment s access asked front)
going_query h r moment s access asked None = refl
going_query h r moment s access asked (Some least) =
    going_front h least _ (nat_lt (length h) least) (going_caller h s asked (asked_as (live_of h) (credentials_by access r) moment s.secret))

-- for a verdict
pub going_verdict : (limits : Limits) (v : Verdict) → IsGoing (told_verdict limits v)
going_verdict limits (verdict.Denied d) = going_denial d
going_verdict limits verdict.Role = refl
going_verdict limits (verdict.Repeat n) = refl
going_verdict limits (verdict.OtherBody n) = refl
going_verdict limits (verdict.Gap last) = refl
going_verdict limits (verdict.BadRecord at f) = refl
going_verdict limits (verdict.BadLine line f) = refl
going_verdict limits (verdict.Broken line rule) = refl
going_verdict limits (verdict.FullRecords n) = refl
going_verdict limits (verdict.FullBytes n) = refl
going_verdict limits (verdict.Accept n) = refl

-- ---- of any request

going_page : (h : List Entry) (r : Request) (moment : Moment) (s : Setting) (added : Bool) (p : Page) → IsGoing (told_page h r moment s added p)
going_page h r moment s added (page.Query asked access) = going_query h r moment s access (wanted_of asked r.method (query_of r.target) r.body) (front_asked (map as_pair r.headers))
going_page h r moment s added (page.Version service) = refl
going_page h r moment s added (page.Feed kind) = going_feed (judged_over h added) r moment s kind (seq_got (query_of r.target))
  where
    going_feed : (j : List Entry) (r : Request) (moment : Moment) (s : Setting) (kind : Kind) (seq : Result ℕ QueryFault) → IsGoing (told_feed j r moment s kind seq)
    going_feed j r moment s kind (Err f) = refl
    going_feed j r moment s kind (Ok seq) = going_verdict s.limits (ruling j (posted_as r kind seq) moment s)

going_method : (methods : Allow) (told : Told) (b : Bool) → IsGoing told → IsGoing (if b then told else Refused (fault.NoMethod methods))
going_method methods told true is = is
going_method methods told false is = refl

going_path : (h : List Entry) (r : Request) (moment : Moment) (s : Setting) (added : Bool) (o : Option Page) → IsGoing (told_path h r moment s added o)
going_path h r moment s added None = refl
going_path h r moment s added (Some p) = going_method (methods_of p) _ (is_allowed (methods_of p) r.method) (going_page h r moment s added p)

pub going_of : (h : List Entry) (r : Request) (moment : Moment) (s : Setting) (added : Bool) → IsGoing (told_of h r moment s added)
going_of h r moment s added = going_path h r moment s added (page_of (path_of r.target))

-- no status is that of want of memory
with_memory_denial : (d : Denial) → (denial_status d == 500) ≡ false
with_memory_denial denial.Absent = refl
with_memory_denial denial.Unreadable = refl
with_memory_denial denial.Stale = refl
with_memory_denial denial.UnknownUser = refl
with_memory_denial denial.WrongResponse = refl

with_memory_head : (f : HeadFault) → (head_status f == 500) ≡ false
with_memory_head head.TargetTooLong = refl
with_memory_head head.HeadTooLong = refl
with_memory_head head.BadHead = refl
with_memory_head head.TooManyHeaders = refl
with_memory_head head.BadLength = refl
with_memory_head head.NoLength = refl
with_memory_head (head.BodyTooLong n) = refl

pub with_memory : (told : Told) → (status_told told == 500) ≡ false
with_memory (Body kind bytes) = refl
with_memory Nothing = refl
with_memory (Refused (fault.Head f)) = with_memory_head f
with_memory (Refused fault.NoPath) = refl
with_memory (Refused (fault.NoMethod methods)) = refl
with_memory (Refused fault.BadFront) = refl
with_memory (Refused (fault.Behind asked got)) = refl
with_memory (Refused (fault.Query f)) = refl
with_memory (Refused (fault.Denied d)) = with_memory_denial d
with_memory (Refused fault.Role) = refl
with_memory (Refused (fault.OtherBody n)) = refl
with_memory (Refused (fault.Gap last)) = refl
with_memory (Refused (fault.Record at f)) = refl
with_memory (Refused (fault.Line line f)) = refl
with_memory (Refused (fault.Broken line rule)) = refl
with_memory (Refused fault.NoData) = refl
with_memory (Refused (fault.ManyBytes bytes most)) = refl
with_memory (Refused (fault.ManyLines lines most)) = refl
with_memory (Refused (fault.FullRecords records most)) = refl
with_memory (Refused (fault.FullBytes bytes most)) = refl
with_memory (Refused fault.Stopped) = refl
