-- A reply that tells that there are too few entries is one to a request that asks for more than are seen.
use Rattle.std.proofs.Common.{◌≡◌, ◌∙◌, ◌⊎◌, refl, sym, ap, subst, ⊎_elim, arith, ℕ, ◌+◌, ◌-◌, ◌^◌, ◌≤◌, ◌==◌, ◌&&◌, Bool, true, false, List, length, map, Option, None, Some, is_some, Result, Ok, Err, nat_lt, if◌then◌else◌}
use Rattle.std.specs.Fmt.{digits}
use Rattle.std.specs.Prelude.{codes}
use Rattle.std.proofs.Math.Nat.{min-le_left}
use Rattle.std.proofs.lemmas.Bool.Decides.{nat_tests}
use Rattle.exact_time.specs.declared.moment.Moment.{Moment}
use Rattle.epochs.specs.Kinds.{Text}
use Rattle.access_digest.specs.declared.denial.Denial.{Denial}
use Rattle.access_digest.specs.declared.denial.Denial.TheVariants as denial
use Rattle.archive_entry.specs.declared.entry.Entry.{Entry}
use Rattle.archive_entry.specs.declared.entry.Kind.{Kind}
use Rattle.archive_state.specs.History.{live_of}
use Rattle.archive_state.specs.declared.limits.Limits.{Limits}
use Rattle.archive_state.specs.declared.verdict.Verdict.{Verdict}
use Rattle.archive_state.specs.declared.verdict.Verdict.TheVariants as verdict
use Rattle.dataselect.specs.declared.query.Nodata.{Nodata}
use Rattle.dataselect.specs.declared.query.Nodata.TheVariants.{Quiet, NotFound}
use Rattle.query_parameters.specs.declared.fault.QueryFault.{QueryFault}
use Rattle.http_replies.specs.declared.reply.Reply.{Reply}
use Rattle.http_wire.specs.FieldPairs.{as_pair}
use Rattle.http_wire.specs.declared.ending.HeadFault.{HeadFault}
use Rattle.http_wire.specs.declared.ending.HeadFault.TheVariants as head
use Rattle.http_wire.specs.declared.request.Request.{Request}
use Rattle.http_wire.specs.declared.turn.Turn.{Turn}
use Rattle.service_paths.specs.Paths.{page_of, methods_of, is_allowed, path_of, query_of}
use Rattle.service_paths.specs.declared.page.Access.{Access}
use Rattle.service_paths.specs.declared.page.Page.{Page}
use Rattle.service_paths.specs.declared.page.Page.TheVariants as page
use Rattle.desk_words.specs.Counts.{RoseAtLeast}
use Rattle.desk_words.specs.Outcomes.{asked_as, answer_to}
use Rattle.desk_words.specs.Posting.{ruling}
use Rattle.desk_words.specs.Setting.{Setting}
use Rattle.desk_words.specs.declared.asking.Outcome.{Outcome}
use Rattle.desk_words.specs.declared.asking.Outcome.TheVariants as outcome
use Rattle.desk_words.specs.declared.asking.Wanted.{Wanted}
use Rattle.desk_words.specs.declared.asking.Wanted.TheVariants as wanted
use Rattle.centre_desk.specs.Fields.{front_asked, credentials_by}
use Rattle.centre_desk.specs.Queries.{wanted_of, seq_got, nodata_of}
use Rattle.centre_desk.specs.Replies.{told_empty, too_large, told_answer, told_user, told_caller, told_query, told_verdict, told_feed, told_page, told_path, told_of, judged_over, posted_as, reply_of}
use Rattle.centre_desk.specs.Told.{status_told, body_told, head_reply}
use Rattle.centre_desk.specs.Turns.{begins_with, tells_behind, behind_of, as_count, is_above, asks_above_on, asks_above, allowed_page, reached, CaughtUpIf, IsWhole, IsStopped}
use Rattle.centre_desk.specs.declared.fault.Fault.TheVariants as fault
use Rattle.centre_desk.specs.declared.told.Told.{Told}
use Rattle.centre_desk.specs.declared.told.Told.TheVariants.{Body, Nothing, Refused}

-- ---- what is told by which text

abbrev is_behind : Told → Bool
is_behind (Refused (fault.Behind asked got)) = true
is_behind _ = false

-- what is told has that status and begins with that text
abbrev begins_so : Told → Bool
begins_so told = status_told told == 400 && begins_with (codes "Error 400: front ") (body_told told)

by_denial : (d : Denial) → begins_so (Refused (fault.Denied d)) ≡ false
by_denial denial.Absent = refl
by_denial denial.Unreadable = refl
by_denial denial.Stale = refl
by_denial denial.UnknownUser = refl
by_denial denial.WrongResponse = refl

by_head : (f : HeadFault) → begins_so (Refused (fault.Head f)) ≡ false
unfolding digits
by_head head.TargetTooLong = refl
by_head head.HeadTooLong = refl
by_head head.BadHead = refl
by_head head.TooManyHeaders = refl
by_head head.BadLength = refl
by_head head.NoLength = refl
by_head (head.BodyTooLong n) = refl

by_text : (told : Told) → begins_so told ≡ is_behind told
unfolding digits
by_text (Body kind bytes) = refl
by_text Nothing = refl
by_text (Refused (fault.Head f)) = by_head f
by_text (Refused fault.NoPath) = refl
by_text (Refused (fault.NoMethod methods)) = refl
by_text (Refused fault.BadFront) = refl
by_text (Refused (fault.Behind asked got)) = refl
by_text (Refused (fault.Query f)) = refl
by_text (Refused (fault.Denied d)) = by_denial d
by_text (Refused fault.Role) = refl
by_text (Refused (fault.OtherBody n)) = refl
by_text (Refused (fault.Gap last)) = refl
by_text (Refused (fault.Record at f)) = refl
by_text (Refused (fault.Line line f)) = refl
by_text (Refused (fault.Broken line rule)) = refl
by_text (Refused fault.NoData) = refl
by_text (Refused (fault.ManyBytes bytes most)) = refl
by_text (Refused (fault.ManyLines lines most)) = refl
by_text (Refused (fault.FullRecords records most)) = refl
by_text (Refused (fault.FullBytes bytes most)) = refl
by_text (Refused fault.Stopped) = refl

-- a head that is refused is told otherwise
pub head_is_no_front : (f : HeadFault) (front : ℕ) → tells_behind (head_reply f front) ≡ false
head_is_no_front f front = by_head f

-- ---- which requests are told so

enough_empty : (nodata : Nodata) → is_behind (told_empty nodata) ≡ false
enough_empty Quiet = refl
enough_empty NotFound = refl

enough_large : (w : Wanted) (n : ℕ) (limits : Limits) → is_behind (Refused (too_large w n limits)) ≡ false
enough_large (wanted.Waves q) n limits = refl
enough_large wanted.Nothing n limits = refl
enough_large (wanted.Spans q) n limits = refl
enough_large (wanted.Extent q) n limits = refl
enough_large (wanted.Station q) n limits = refl
enough_large (wanted.Event q) n limits = refl
enough_large (wanted.Entries from) n limits = refl

enough_answer : (w : Wanted) (limits : Limits) (o : Outcome) → is_behind (told_answer w limits o) ≡ false
enough_answer w limits outcome.Behind = refl
enough_answer w limits (outcome.Denied d) = refl
enough_answer w limits outcome.Known = refl
enough_answer w limits outcome.NoRole = refl
enough_answer w limits outcome.Empty = enough_empty (nodata_of w)
enough_answer w limits (outcome.TooLarge n) = enough_large w n limits
enough_answer w limits (outcome.Body bytes) = refl

enough_user : (h : List Entry) (s : Setting) (asked : Result Wanted QueryFault) (user : Option Text) → is_behind (told_user h s asked user) ≡ false
enough_user h s (Err f) user = refl
enough_user h s (Ok w) user = enough_answer w s.limits (answer_to h s.limits user w)

enough_caller : (h : List Entry) (s : Setting) (asked : Result Wanted QueryFault) (asker : Result (Option Text) Denial) → is_behind (told_caller h s asked asker) ≡ false
enough_caller h s asked (Err d) = refl
enough_caller h s asked (Ok user) = enough_user h s asked user

by_test : (least n : ℕ) (told : Told) (behind : Bool) → is_behind told ≡ false → is_behind (if behind then Refused (fault.Behind least n) else told) ≡ behind
by_test least n told true is = refl
by_test least n told false is = is

by_front : (h : List Entry) (r : Request) (moment : Moment) (s : Setting) (access : Access) (asked : Result Wanted QueryFault) (front : Option ℕ)
    → is_behind (told_query h r moment s access asked front) ≡ is_above (length h) front
by_front h r moment s access asked None = refl
by_front h r moment s access asked (Some least) =
    by_test least (length h) _ (nat_lt (length h) least) (enough_caller h s asked (asked_as (live_of h) (credentials_by access r) moment s.secret))

by_verdict : (limits : Limits) (v : Verdict) → is_behind (told_verdict limits v) ≡ false
by_verdict limits (verdict.Denied d) = refl
by_verdict limits verdict.Role = refl
by_verdict limits (verdict.Repeat n) = refl
by_verdict limits (verdict.OtherBody n) = refl
by_verdict limits (verdict.Gap last) = refl
by_verdict limits (verdict.BadRecord at f) = refl
by_verdict limits (verdict.BadLine line f) = refl
by_verdict limits (verdict.Broken line rule) = refl
by_verdict limits (verdict.FullRecords n) = refl
by_verdict limits (verdict.FullBytes n) = refl
by_verdict limits (verdict.Accept n) = refl

by_seq : (j : List Entry) (r : Request) (moment : Moment) (s : Setting) (kind : Kind) (seq : Result ℕ QueryFault) → is_behind (told_feed j r moment s kind seq) ≡ false
by_seq j r moment s kind (Err f) = refl
by_seq j r moment s kind (Ok seq) = by_verdict s.limits (ruling j (posted_as r kind seq) moment s)

by_page : (h : List Entry) (r : Request) (moment : Moment) (s : Setting) (added : Bool) (p : Page) → is_behind (told_page h r moment s added p) ≡ asks_above_on (length h) r (Some p)
by_page h r moment s added (page.Query asked access) = by_front h r moment s access (wanted_of asked r.method (query_of r.target) r.body) (front_asked (map as_pair r.headers))
by_page h r moment s added (page.Version service) = refl
by_page h r moment s added (page.Feed kind) = by_seq (judged_over h added) r moment s kind (seq_got (query_of r.target))

by_allowed : (h : List Entry) (r : Request) (moment : Moment) (s : Setting) (added : Bool) (p : Page) (b : Bool)
    → is_behind (if b then told_page h r moment s added p else Refused (fault.NoMethod (methods_of p))) ≡ asks_above_on (length h) r (if b then Some p else None)
by_allowed h r moment s added p true = by_page h r moment s added p
by_allowed h r moment s added p false = refl

by_path : (h : List Entry) (r : Request) (moment : Moment) (s : Setting) (added : Bool) (o : Option Page) → is_behind (told_path h r moment s added o) ≡ asks_above_on (length h) r (allowed_page r o)
by_path h r moment s added None = refl
by_path h r moment s added (Some p) = by_allowed h r moment s added p (is_allowed (methods_of p) r.method)

-- a reply tells that there are too few entries exactly where the request asks for more
pub tells_above : (h : List Entry) (r : Request) (moment : Moment) (s : Setting) (added : Bool) → tells_behind (reply_of h r moment s added) ≡ asks_above (length h) r
tells_above h r moment s added = by_text (told_of h r moment s added) ∙ by_path h r moment s added (page_of (path_of r.target))

-- ---- and the desk catches up for these

less_above : (n k : ℕ) (front : Option ℕ) → n ≤ k → is_above k front ≡ true → is_above n front ≡ true
less_above n k None le is = absurd cc
less_above n k (Some least) le is = grind (arith, nat_tests, le, is)

less_above_on : (n k : ℕ) (r : Request) (o : Option Page) → n ≤ k → asks_above_on k r o ≡ true → asks_above_on n r o ≡ true
less_above_on n k r None le is = absurd cc
less_above_on n k r (Some (page.Version service)) le is = absurd cc
less_above_on n k r (Some (page.Feed kind)) le is = absurd cc
less_above_on n k r (Some (page.Query asked access)) le is = less_above n k (front_asked (map as_pair r.headers)) le is

-- a count that doesn't fall
pub rose_by_none : (before now : ℕ) → before ≤ now → RoseAtLeast 0 before now
rose_by_none before now le = record { later = le; at_least = omega (arith, le, min-le_left (before + 0) (2 ^ 64 - 1)) }

pub unlike_behind : (reply : Reply) (before now : ℕ) → tells_behind reply ≡ false → before ≤ now → RoseAtLeast (behind_of reply) before now
unlike_behind reply before now is le = subst (λ (b : Bool). RoseAtLeast (as_count b) before now) (sym is) (rose_by_none before now le)

module _ (front : ℕ) (h : List Entry) (r : Request) (s : Setting) (t : Turn) (reply : Reply) (before now : ℕ) (grown : front ≤ length h) (later : before ≤ now)
    (caught : CaughtUpIf (asks_above front r) before now) where
  by_reply : (b : Bool) → asks_above (length h) r ≡ b → RoseAtLeast (as_count b) before now
  by_reply true above = subst (λ (b : Bool). CaughtUpIf b before now) (less_above_on front (length h) r (reached r) grown above) caught
  by_reply false above = rose_by_none before now later

  of_whole : IsWhole h r s t reply → RoseAtLeast (behind_of reply) before now
  of_whole w =
      subst (λ (b : Bool). RoseAtLeast (as_count b) before now) (sym (ap tells_behind w.reply_is ∙ tells_above h r t.moment s (is_some t.entry)))
      (by_reply (asks_above (length h) r) refl)

  of_stopped : IsStopped h r s t reply → RoseAtLeast (behind_of reply) before now
  of_stopped w = unlike_behind reply before now (ap tells_behind w.reply_is) later

  -- the desk caught up for a reply that tells that there are too few entries
  pub behind_caught : IsWhole h r s t reply ⊎ IsStopped h r s t reply → RoseAtLeast (behind_of reply) before now
  behind_caught served = ⊎_elim (λ (w : IsWhole h r s t reply). of_whole w) (λ (w : IsStopped h r s t reply). of_stopped w) served
