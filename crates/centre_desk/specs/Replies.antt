-- What a request is told over a history, and the one reply that tells it.
use Rattle.std.specs.Prelude.{ℕ, ◌-◌, Bool, true, false, List, ◌++◌, length, take, map, nat_lt, if◌then◌else◌, Option, None, Some, Result, Ok, Err, codes, decimal}
use Rattle.exact_time.specs.declared.moment.Moment.{Moment}
use Rattle.epochs.specs.Kinds.{Text}
use Rattle.access_digest.specs.declared.denial.Denial.{Denial}
use Rattle.archive_entry.specs.declared.entry.Entry.{Entry}
use Rattle.archive_entry.specs.declared.entry.Kind.{Kind}
use Rattle.archive_state.specs.History.{live_of}
use Rattle.archive_state.specs.declared.limits.Limits.{Limits}
use Rattle.archive_state.specs.declared.posted.Posted.{Posted}
use Rattle.archive_state.specs.declared.verdict.Verdict.{Verdict}
use Rattle.archive_state.specs.declared.verdict.Verdict.TheVariants as verdict
use Rattle.dataselect.specs.declared.query.Nodata.{Nodata}
use Rattle.dataselect.specs.declared.query.Nodata.TheVariants.{Quiet, NotFound}
use Rattle.query_parameters.specs.declared.fault.QueryFault.{QueryFault}
use Rattle.desk_words.specs.Outcomes.{asked_as, answer_to}
use Rattle.desk_words.specs.Posting.{ruling}
use Rattle.desk_words.specs.Setting.{Setting}
use Rattle.desk_words.specs.declared.asking.Outcome.{Outcome}
use Rattle.desk_words.specs.declared.asking.Outcome.TheVariants as outcome
use Rattle.desk_words.specs.declared.asking.Wanted.{Wanted}
use Rattle.desk_words.specs.declared.asking.Wanted.TheVariants as wanted
use Rattle.http_replies.specs.declared.reply.BodyKind.{BodyKind}
use Rattle.http_replies.specs.declared.reply.BodyKind.TheVariants.{Miniseed, Plain, Octets}
use Rattle.http_replies.specs.declared.reply.Reply.{Reply}
use Rattle.http_wire.specs.FieldPairs.{as_pair}
use Rattle.http_wire.specs.declared.request.Request.{Request}
use Rattle.service_paths.specs.Paths.{page_of, methods_of, version_text, is_allowed, path_of, query_of}
use Rattle.service_paths.specs.declared.page.Access.{Access}
use Rattle.service_paths.specs.declared.page.Page.{Page}
use Rattle.service_paths.specs.declared.page.Page.TheVariants as page
use Rattle.centre_desk.specs.Fields.{front_asked, credentials_of, credentials_by}
use Rattle.centre_desk.specs.Queries.{wanted_of, seq_got, nodata_of}
use Rattle.centre_desk.specs.Told.{reply_from}
use Rattle.centre_desk.specs.declared.fault.Fault.{Fault}
use Rattle.centre_desk.specs.declared.fault.Fault.TheVariants as fault
use Rattle.centre_desk.specs.declared.told.Told.{Told}
use Rattle.centre_desk.specs.declared.told.Told.TheVariants.{Body, Nothing, Refused}

-- what is told where there is nothing, as the query wants it
abbrev pub told_empty : Nodata → Told
told_empty Quiet = Nothing
told_empty NotFound = Refused fault.NoData

-- records are bytes of miniSEED, entries other bytes; the other answers are lines of text
abbrev pub kind_of : Wanted → BodyKind
kind_of (wanted.Waves q) = Miniseed
kind_of (wanted.Entries from) = Octets
kind_of _ = Plain

abbrev pub too_large : Wanted → ℕ → Limits → Fault
too_large (wanted.Waves q) n limits = fault.ManyBytes n limits.max_bytes
too_large (wanted.Entries from) n limits = fault.ManyBytes n limits.max_bytes
too_large _ n limits = fault.ManyLines n limits.max_lines

-- what an answer to a query is told as: no role, no data, too large, or the body. A query has no other answer.
abbrev pub told_answer : Wanted → Limits → Outcome → Told
told_answer w limits outcome.NoRole = Refused fault.Role
told_answer w limits outcome.Empty = told_empty (nodata_of w)
told_answer w limits (outcome.TooLarge n) = Refused (too_large w n limits)
told_answer w limits (outcome.Body bytes) = Body (kind_of w) bytes
told_answer w limits outcome.Behind = Nothing
told_answer w limits (outcome.Denied d) = Refused (fault.Denied d)
told_answer w limits outcome.Known = Nothing

-- the fault of the query, or its answer to this user
abbrev pub told_user : List Entry → Setting → Result Wanted QueryFault → Option Text → Told
told_user h s (Err f) user = Refused (fault.Query f)
told_user h s (Ok w) user = told_answer w s.limits (answer_to h s.limits user w)

-- the denial, or what the one who asks is told
abbrev pub told_caller : List Entry → Setting → Result Wanted QueryFault → Result (Option Text) Denial → Told
told_caller h s asked (Err d) = Refused (fault.Denied d)
told_caller h s asked (Ok user) = told_user h s asked user

-- On a query path: a bad field X-Archive-Front; that there are fewer entries than it asks for; the denial; the fault of
-- the query; that the user may not copy the archive; no data; too large; the body.
abbrev pub told_query : List Entry → Request → Moment → Setting → Access → Result Wanted QueryFault → Option ℕ → Told
told_query h r moment s access asked None = Refused fault.BadFront
told_query h r moment s access asked (Some least) =
    if nat_lt (length h) least then Refused (fault.Behind least (length h))
    else told_caller h s asked (asked_as (live_of h) (credentials_by access r) moment s.secret)

-- that a command has this entry
abbrev pub accepted : ℕ → Told
accepted n = Body Plain (codes "accepted " ++ decimal n ++ codes "\n")

-- what a verdict is told as
abbrev pub told_verdict : Limits → Verdict → Told
told_verdict limits (verdict.Denied d) = Refused (fault.Denied d)
told_verdict limits verdict.Role = Refused fault.Role
told_verdict limits (verdict.Repeat n) = accepted n
told_verdict limits (verdict.OtherBody n) = Refused (fault.OtherBody n)
told_verdict limits (verdict.Gap last) = Refused (fault.Gap last)
told_verdict limits (verdict.BadRecord at f) = Refused (fault.Record at f)
told_verdict limits (verdict.BadLine line f) = Refused (fault.Line line f)
told_verdict limits (verdict.Broken line rule) = Refused (fault.Broken line rule)
told_verdict limits (verdict.FullRecords n) = Refused (fault.FullRecords n limits.max_records)
told_verdict limits (verdict.FullBytes n) = Refused (fault.FullBytes n limits.max_archive)
told_verdict limits (verdict.Accept n) = accepted n

-- the command that a request posts under a sequence number
abbrev pub posted_as : Request → Kind → ℕ → Posted
posted_as r kind seq = record { credentials = credentials_of r; kind = kind; seq = seq; body = r.body }

-- the history that a command was judged over: without its last entry where the command added that
abbrev pub judged_over : List Entry → Bool → List Entry
judged_over h true = take (length h - 1) h
judged_over h false = h

-- on a feed path: the fault of the sequence number, or the verdict
abbrev pub told_feed : List Entry → Request → Moment → Setting → Kind → Result ℕ QueryFault → Told
told_feed j r moment s kind (Err f) = Refused (fault.Query f)
told_feed j r moment s kind (Ok seq) = told_verdict s.limits (ruling j (posted_as r kind seq) moment s)

-- what a page tells; `added` says whether the request added the last entry
abbrev pub told_page : List Entry → Request → Moment → Setting → Bool → Page → Told
told_page h r moment s added (page.Query asked access) =
    told_query h r moment s access (wanted_of asked r.method (query_of r.target) r.body) (front_asked (map as_pair r.headers))
told_page h r moment s added (page.Version service) = Body Plain (version_text service)
told_page h r moment s added (page.Feed kind) = told_feed (judged_over h added) r moment s kind (seq_got (query_of r.target))

-- the path, and then the method
abbrev pub told_path : List Entry → Request → Moment → Setting → Bool → Option Page → Told
told_path h r moment s added None = Refused fault.NoPath
told_path h r moment s added (Some p) =
    if is_allowed (methods_of p) r.method then told_page h r moment s added p else Refused (fault.NoMethod (methods_of p))

-- what a request is told over a history, at a moment
abbrev pub told_of : List Entry → Request → Moment → Setting → Bool → Told
told_of h r moment s added = told_path h r moment s added (page_of (path_of r.target))

-- the reply to a request over a history, at a moment
abbrev pub reply_of : List Entry → Request → Moment → Setting → Bool → Reply
reply_of h r moment s added = reply_from (told_of h r moment s added) (length h) r moment s.secret
