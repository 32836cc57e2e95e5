-- What holds of every request.
use Rattle.std.specs.Prelude.{◌≡◌, ℕ, ◌&&◌, Bool, true, false, List, [], ◌++◌, length, map, nat_lt, if◌then◌else◌, Option, None, Some, Ok, Err}
use Rattle.std.specs.List.{fold}
use Rattle.std.specs.Str.{bytes_eq}
use Rattle.exact_time.specs.declared.moment.Moment.{Moment}
use Rattle.epochs.specs.Kinds.{Text}
use Rattle.access_digest.specs.Who.{who_of}
use Rattle.access_digest.specs.declared.denial.Denial.{Denial}
use Rattle.archive_entry.specs.declared.entry.Entry.{Entry}
use Rattle.archive_entry.specs.declared.entry.Kind.{Kind}
use Rattle.archive_state.specs.History.{live_of, may_post}
use Rattle.archive_state.specs.Verdicts.{is_kind}
use Rattle.archive_state.specs.declared.posted.Posted.{Posted}
use Rattle.query_parameters.specs.declared.fault.QueryFault.{QueryFault}
use Rattle.desk_words.specs.Outcomes.{asked_as, answer_to}
use Rattle.desk_words.specs.Posting.{ruling, posted_entry, added_by}
use Rattle.desk_words.specs.Setting.{Setting}
use Rattle.desk_words.specs.declared.asking.Wanted.{Wanted}
use Rattle.http_replies.specs.declared.reply.BodyKind.TheVariants.{Plain}
use Rattle.http_wire.specs.FieldPairs.{as_pair}
use Rattle.http_wire.specs.declared.request.Request.{Request}
use Rattle.service_paths.specs.Paths.{page_of, methods_of, version_text, is_allowed, path_of, query_of}
use Rattle.service_paths.specs.declared.page.Access.{Access}
use Rattle.service_paths.specs.declared.page.Asked.{Asked}
use Rattle.service_paths.specs.declared.page.Page.{Page}
use Rattle.service_paths.specs.declared.page.Page.TheVariants as page
use Rattle.service_paths.specs.declared.page.Service.{Service}
use Rattle.centre_desk.specs.Fields.{front_asked, credentials_by}
use Rattle.centre_desk.specs.Queries.{wanted_of, seq_got}
use Rattle.centre_desk.specs.Replies.{told_of, told_answer, told_verdict, judged_over, posted_as, accepted}
use Rattle.centre_desk.specs.Turns.{reached, posted_by}
use Rattle.centre_desk.specs.declared.fault.Fault.TheVariants as fault
use Rattle.centre_desk.specs.declared.told.Told.{Told}
use Rattle.centre_desk.specs.declared.told.Told.TheVariants.{Body, Refused}

-- ---- the order of the tests: each row stands where no row before it does

-- what a request is told over a history, whose last entry it added or not
abbrev pub Tells : Setting → List Entry → Request → Moment → Bool → Told → Type 0
Tells s h r m added told = told_of h r m s added ≡ told

-- first the path and the method
pub record PathRows (s : Setting) (h : List Entry) (r : Request) (m : Moment) (added : Bool) : Type 0 where
  pub no_path : page_of (path_of r.target) ≡ None → Tells s h r m added (Refused fault.NoPath)
  pub no_method : (p : Page) → page_of (path_of r.target) ≡ Some p → is_allowed (methods_of p) r.method ≡ false
      → Tells s h r m added (Refused (fault.NoMethod (methods_of p)))
  pub version : (service : Service) → reached r ≡ Some (page.Version service) → Tells s h r m added (Body Plain (version_text service))

-- on a feed path the fault of the sequence number, and then the verdict
pub record FeedRows (s : Setting) (h : List Entry) (r : Request) (m : Moment) (added : Bool) (kind : Kind) : Type 0 where
  pub no_number : (f : QueryFault) → seq_got (query_of r.target) ≡ Err f → Tells s h r m added (Refused (fault.Query f))
  pub verdict : (seq : ℕ) → seq_got (query_of r.target) ≡ Ok seq
      → Tells s h r m added (told_verdict s.limits (ruling (judged_over h added) (posted_as r kind seq) m s))

-- on a query path a bad field X-Archive-Front, that there are too few entries, the denial, the fault of the query, and
-- then the answer to the one who asks
pub record QueryRows (s : Setting) (h : List Entry) (r : Request) (m : Moment) (added : Bool) (asked : Asked) (access : Access) : Type 0 where
  pub bad_front : front_asked (map as_pair r.headers) ≡ None → Tells s h r m added (Refused fault.BadFront)
  pub behind : (least : ℕ) → front_asked (map as_pair r.headers) ≡ Some least → nat_lt (length h) least ≡ true
      → Tells s h r m added (Refused (fault.Behind least (length h)))
  pub denied : (least : ℕ) (d : Denial) → front_asked (map as_pair r.headers) ≡ Some least → nat_lt (length h) least ≡ false
      → asked_as (live_of h) (credentials_by access r) m s.secret ≡ Err d → Tells s h r m added (Refused (fault.Denied d))
  pub no_query : (least : ℕ) (user : Option Text) (f : QueryFault) → front_asked (map as_pair r.headers) ≡ Some least → nat_lt (length h) least ≡ false
      → asked_as (live_of h) (credentials_by access r) m s.secret ≡ Ok user
      → wanted_of asked r.method (query_of r.target) r.body ≡ Err f → Tells s h r m added (Refused (fault.Query f))
  pub answer : (least : ℕ) (user : Option Text) (w : Wanted) → front_asked (map as_pair r.headers) ≡ Some least → nat_lt (length h) least ≡ false
      → asked_as (live_of h) (credentials_by access r) m s.secret ≡ Ok user
      → wanted_of asked r.method (query_of r.target) r.body ≡ Ok w
      → Tells s h r m added (told_answer w s.limits (answer_to h s.limits user w))

-- ---- a command that is posted again

-- a request, and when it came
pub record Sent : Type 0 where
  pub request : Request
  pub moment : Moment

-- what a request adds to a history: its entry, where it posts a command that is accepted
abbrev pub adds_by : List Entry → Option Posted → Moment → Setting → List Entry
adds_by h None m s = []
adds_by h (Some p) m s = added_by (ruling h p m s) (posted_entry h p m s)

abbrev pub after_request : Setting → List Entry → Sent → List Entry
after_request s h x = h ++ adds_by h (posted_by x.request) x.moment s

-- what a history becomes by requests that come one after another
abbrev pub after_requests : Setting → List Entry → List Sent → List Entry
after_requests s h sent = fold (after_request s) h sent

-- the request posts a command of this author and this sequence number
pub record Posts (h : List Entry) (s : Setting) (author : Text) (seq : ℕ) (x : Sent) : Type 0 where
  pub posted : Posted
  pub posted_is : posted_by x.request ≡ Some posted
  pub author_is : who_of (live_of h) posted.credentials x.moment s.secret ≡ Ok author
  pub seq_is : posted.seq ≡ seq

-- a repeat is told the number of the entry where it is the same, and else that the entry is another
abbrev pub told_again : Entry → Posted → Told
told_again e p =
    if is_kind e.kind p.kind && bytes_eq e.body p.body then accepted e.number
    else Refused (fault.OtherBody e.number)

-- what a command is told whose author has this entry with its sequence number
abbrev pub told_repeat : List Entry → Entry → Posted → Told
told_repeat h e p = if may_post (live_of h) e.author p.kind then told_again e p else Refused fault.Role
