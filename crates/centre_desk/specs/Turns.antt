-- What making a reply does to a desk, and what became of the request.
use Rattle.std.specs.Prelude.{◌≡◌, ◌⊎◌, ℕ, ◌+◌, ◌≤◌, ◌==◌, ◌&&◌, Bool, true, false, List, ◌++◌, length, map, take, codes, ⊤, nat_lt, if◌then◌else◌, Option, None, Some, is_some, Result, Ok, Err, OnOk}
use Rattle.std.specs.Str.{bytes_eq}
use Rattle.exact_time.specs.declared.error.OutOfMemory.{OutOfMemory}
use Rattle.exact_time.specs.declared.moment.Moment.{Moment}
use Rattle.archive_entry.specs.declared.entry.Entry.{Entry}
use Rattle.archive_state.specs.Lawful.{is_accept}
use Rattle.archive_state.specs.declared.posted.Posted.{Posted}
use Rattle.query_parameters.specs.declared.fault.QueryFault.{QueryFault}
use Rattle.desk_words.specs.Counts.{RoseWithin, RoseAtLeast}
use Rattle.desk_words.specs.Posting.{ruling, posted_entry, listed, could_stop}
use Rattle.desk_words.specs.Setting.{Setting}
use Rattle.desk_words.specs.Stand.{Stand, GoesOn}
use Rattle.http_replies.specs.declared.reply.Reply.{Reply}
use Rattle.http_wire.specs.FieldPairs.{as_pair}
use Rattle.http_wire.specs.declared.request.Request.{Request}
use Rattle.http_wire.specs.declared.turn.Turn.{Turn}
use Rattle.archive_entry.specs.declared.entry.Kind.{Kind}
use Rattle.service_paths.specs.Paths.{page_of, methods_of, is_allowed, path_of, query_of}
use Rattle.service_paths.specs.declared.page.Page.{Page}
use Rattle.service_paths.specs.declared.page.Page.TheVariants as page
use Rattle.centre_desk.specs.Fields.{front_asked}
use Rattle.centre_desk.specs.Queries.{seq_got}
use Rattle.centre_desk.specs.Replies.{posted_as, judged_over, reply_of}
use Rattle.centre_desk.specs.Told.{reply_from}
use Rattle.centre_desk.specs.declared.fault.Fault.TheVariants as fault
use Rattle.centre_desk.specs.declared.told.Told.TheVariants.{Refused}

-- the page that a request reaches: its path has one, and that page has its method
abbrev pub allowed_page : Request → Option Page → Option Page
allowed_page r None = None
allowed_page r (Some p) = if is_allowed (methods_of p) r.method then Some p else None

abbrev pub reached : Request → Option Page
reached r = allowed_page r (page_of (path_of r.target))

abbrev pub posted_under : Request → Kind → Result ℕ QueryFault → Option Posted
posted_under r kind (Ok seq) = Some (posted_as r kind seq)
posted_under r kind (Err f) = None

abbrev pub posted_on : Request → Option Page → Option Posted
posted_on r (Some (page.Feed kind)) = posted_under r kind (seq_got (query_of r.target))
posted_on r _ = None

-- the command that a request posts, where it reaches a feed path with a sequence number
abbrev pub posted_by : Request → Option Posted
posted_by r = posted_on r (reached r)

abbrev pub is_above : ℕ → Option ℕ → Bool
is_above front None = false
is_above front (Some least) = nat_lt front least

abbrev pub asks_above_on : ℕ → Request → Option Page → Bool
asks_above_on front r (Some (page.Query asked access)) = is_above front (front_asked (map as_pair r.headers))
asks_above_on front r _ = false

-- a request asks on a query path for more entries than these
abbrev pub asks_above : ℕ → Request → Bool
asks_above front r = asks_above_on front r (reached r)

-- the desk caught up exactly where that is wanted
abbrev pub CaughtUpIf : Bool → ℕ → ℕ → Type 0
CaughtUpIf true before now = RoseAtLeast 1 before now
CaughtUpIf false before now = now ≡ before

-- how many entries a turn added
abbrev pub added_by : Option ℕ → ℕ
added_by (Some n) = 1
added_by None = 0

-- the entry that a turn added is the last one of its history
abbrev pub IsLast : Option ℕ → ℕ → Type 0
IsLast (Some n) front = n ≡ front
IsLast None front = ⊤

-- where the command added an entry, that is the last one of the history, and the command's own
abbrev pub HasAdded : List Entry → Posted → Moment → Setting → Bool → Type 0
HasAdded h p moment s true = h ≡ judged_over h true ++ listed (posted_entry (judged_over h true) p moment s)
HasAdded h p moment s false = ⊤

-- an entry was added exactly where the verdict accepts; a request that posts nothing adds none
abbrev pub AddsRight : List Entry → Option Posted → Moment → Setting → Bool → Type 0
AddsRight h (Some p) moment s added = (is_accept (ruling (judged_over h added) p moment s) ≡ added) × HasAdded h p moment s added
AddsRight h None moment s added = added ≡ false

-- the reply is that of the definition over the history of the turn
pub record IsWhole (h : List Entry) (r : Request) (s : Setting) (t : Turn) (reply : Reply) : Type 0 where
  pub entry : IsLast t.entry (length h)
  pub adds : AddsRight h (posted_by r) t.moment s (is_some t.entry)
  pub reply_is : reply ≡ reply_of h r t.moment s (is_some t.entry)

abbrev pub could_stop_in : List Entry → Option Posted → Moment → Setting → Bool
could_stop_in h None moment s = false
could_stop_in h (Some p) moment s = could_stop h p moment s

-- a disk stopped the command that the request posts: its caller isn't denied, and it is accepted or its author has an
-- entry with this sequence number
pub record IsStopped (h : List Entry) (r : Request) (s : Setting) (t : Turn) (reply : Reply) : Type 0 where
  pub no_entry : t.entry ≡ None
  pub could : could_stop_in h (posted_by r) t.moment s ≡ true
  pub reply_is : reply ≡ reply_from (Refused fault.Stopped) (length h) r t.moment s.secret

abbrev pub as_count : Bool → ℕ
as_count true = 1
as_count false = 0

-- the bytes begin with these
abbrev pub begins_with : List ℕ → List ℕ → Bool
begins_with words bytes = bytes_eq (take (length words) bytes) words

-- the reply tells `front n asked, front m reached`: it has the status 400, and its body begins so
abbrev pub tells_behind : Reply → Bool
tells_behind reply = reply.status == 400 && begins_with (codes "Error 400: front ") reply.body

abbrev pub behind_of : Reply → ℕ
behind_of reply = as_count (tells_behind reply)

-- A request had its reply, over what is seen after it.
pub record Replied (old new : Stand) (r : Request) (moment : Moment) (s : Setting) (reply : Reply) (t : Turn) : Type 0 where
  pub moment_is : t.moment ≡ moment
  pub front : t.front ≡ length new.seen
  pub not_short : t.short ≡ false
  pub rises : length old.seen + added_by t.entry ≤ length new.seen
  pub served : IsWhole new.seen r s t reply ⊎ IsStopped new.seen r s t reply
  pub stops : RoseAtLeast (as_count (reply.status == 503)) old.stops new.stops
  pub made : RoseWithin (added_by t.entry) (added_by t.entry) old.made new.made

-- where memory ran out, the desk may have made an entry
abbrev pub ReplyRow : Stand → Stand → Request → Moment → Setting → Result (Reply × Turn) OutOfMemory → Type 0
ReplyRow old new r moment s (Ok told) = Replied old new r moment s told.0 told.1
ReplyRow old new r moment s (Err memory) = RoseWithin 0 1 old.made new.made

-- what making a reply does
pub record Replies (old new : Stand) (r : Request) (moment : Moment) (s : Setting) (result : Result (Reply × Turn) OutOfMemory) : Type 0 where
  pub goes_on : GoesOn old new
  pub caught : OnOk result (CaughtUpIf (asks_above (length old.seen) r) old.caught new.caught)
  pub caught_later : old.caught ≤ new.caught
  pub row : ReplyRow old new r moment s result
