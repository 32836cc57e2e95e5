-- What a request is told, row by row, and that a command acts once.
use Rattle.std.proofs.Common.{◌≡◌, ◌∙◌, refl, sym, ap, ℕ, ◌≤◌, ◌&&◌, Bool, true, false, List, [], ◌∷◌, ◌++◌, length, map, nat_lt, if◌then◌else◌, Option, None, Some, Result, Ok, Err}
use Rattle.std.proofs.lemmas.List.{append-nil}
use Rattle.std.specs.List.{All, fold, slice_get}
use Rattle.std.proofs.lemmas.List.Elements.{All-head, All-tail}
use Rattle.std.specs.Str.{bytes_eq}
use Rattle.exact_time.specs.declared.moment.Moment.{Moment}
use Rattle.epochs.specs.Kinds.{Text}
use Rattle.access_digest.specs.declared.denial.Denial.{Denial}
use Rattle.archive_entry.specs.declared.entry.Entry.{Entry}
use Rattle.archive_entry.specs.declared.entry.Kind.{Kind}
use Rattle.archive_state.specs.History.{live_of, may_post}
use Rattle.archive_state.specs.Lawful.{is_lawful}
use Rattle.archive_state.specs.Verdicts.{command, is_kind, verdict_by}
use Rattle.archive_state.specs.declared.limits.Limits.{Limits}
use Rattle.archive_state.specs.declared.posted.Posted.{Posted}
use Rattle.archive_state.specs.declared.verdict.Verdict.{Verdict}
use Rattle.archive_state.specs.declared.verdict.Verdict.TheVariants.{Repeat, OtherBody, Role}
use Rattle.archive_state.proofs.Sendings.{known_verdict}
use Rattle.query_parameters.specs.declared.fault.QueryFault.{QueryFault}
use Rattle.desk_words.specs.Outcomes.{asked_as}
use Rattle.desk_words.specs.Posting.{ruling, posted_entry, added_by}
use Rattle.desk_words.specs.Setting.{Setting}
use Rattle.desk_words.specs.declared.asking.Wanted.{Wanted}
use Rattle.http_wire.specs.FieldPairs.{as_pair}
use Rattle.http_wire.specs.declared.request.Request.{Request}
use Rattle.service_paths.specs.Paths.{page_of, methods_of, is_allowed, path_of, query_of}
use Rattle.service_paths.specs.declared.page.Access.{Access}
use Rattle.service_paths.specs.declared.page.Asked.{Asked}
use Rattle.service_paths.specs.declared.page.Page.{Page}
use Rattle.service_paths.specs.declared.page.Page.TheVariants as page
use Rattle.centre_desk.specs.Fields.{front_asked, credentials_by}
use Rattle.centre_desk.specs.Laws.{PathRows, FeedRows, QueryRows, Sent, Posts, adds_by, after_request, after_requests, told_repeat}
use Rattle.centre_desk.specs.Queries.{wanted_of, seq_got}
use Rattle.centre_desk.specs.Replies.{told_of, told_path, told_page, told_feed, told_query, told_caller, told_user, told_verdict, judged_over, posted_as}
use Rattle.centre_desk.specs.Turns.{allowed_page, reached, posted_under, posted_on, posted_by}
use Rattle.centre_desk.specs.declared.fault.Fault.TheVariants as fault
use Rattle.centre_desk.specs.declared.told.Told.TheVariants.{Refused}

-- ---- the page that a request reaches

pub reached_at : (r : Request) (p : Page) → page_of (path_of r.target) ≡ Some p → is_allowed (methods_of p) r.method ≡ true → reached r ≡ Some p
reached_at r p is allowed = ap (allowed_page r) is ∙ ap (λ (b : Bool). if b then Some p else None) allowed

module _ (s : Setting) (h : List Entry) (r : Request) (m : Moment) (added : Bool) where
  by_allowed : (p q : Page) (b : Bool) → (if b then Some p else None) ≡ Some q
      → (if b then told_page h r m s added p else Refused (fault.NoMethod (methods_of p))) ≡ told_page h r m s added q
  by_allowed p q true is = let same : p ≡ q = cc in ap (told_page h r m s added) same
  by_allowed p q false is = absurd cc

  by_path : (o : Option Page) (q : Page) → allowed_page r o ≡ Some q → told_path h r m s added o ≡ told_page h r m s added q
  by_path None q is = absurd cc
  by_path (Some p) q is = by_allowed p q (is_allowed (methods_of p) r.method) is

  -- what is told is what its page tells
  pub on_page : (q : Page) → reached r ≡ Some q → told_of h r m s added ≡ told_page h r m s added q
  on_page q is = by_path (page_of (path_of r.target)) q is

  refused_method : (o : Option Page) (p : Page) → o ≡ Some p → is_allowed (methods_of p) r.method ≡ false → told_path h r m s added o ≡ Refused (fault.NoMethod (methods_of p))
  refused_method o p is unlike = ap (told_path h r m s added) is ∙ ap (λ (b : Bool). if b then told_page h r m s added p else Refused (fault.NoMethod (methods_of p))) unlike

  pub path_rows : PathRows s h r m added
  path_rows = record {
    no_path = λ none. ap (told_path h r m s added) none;
    no_method = λ p is unlike. refused_method (page_of (path_of r.target)) p is unlike;
    version = λ service is. on_page (page.Version service) is;
  }

  pub feed_rows : (kind : Kind) → reached r ≡ Some (page.Feed kind) → FeedRows s h r m added kind
  feed_rows kind is = record {
    no_number = λ f unlike. on_page (page.Feed kind) is ∙ ap (told_feed (judged_over h added) r m s kind) unlike;
    verdict = λ seq yes. on_page (page.Feed kind) is ∙ ap (told_feed (judged_over h added) r m s kind) yes;
  }

  module _ (asked : Asked) (access : Access) (is : reached r ≡ Some (page.Query asked access)) where
    abbrev wanted : Result Wanted QueryFault
    wanted = wanted_of asked r.method (query_of r.target) r.body

    abbrev asker : Result (Option Text) Denial
    asker = asked_as (live_of h) (credentials_by access r) m s.secret

    by_front : (o : Option ℕ) → front_asked (map as_pair r.headers) ≡ o → told_of h r m s added ≡ told_query h r m s access wanted o
    by_front o front = on_page (page.Query asked access) is ∙ ap (told_query h r m s access wanted) front

    enough : (least : ℕ) → front_asked (map as_pair r.headers) ≡ Some least → nat_lt (length h) least ≡ false → told_of h r m s added ≡ told_caller h s wanted asker
    enough least front unlike = by_front (Some least) front ∙ ap (λ (b : Bool). if b then Refused (fault.Behind least (length h)) else told_caller h s wanted asker) unlike

    pub query_rows : QueryRows s h r m added asked access
    query_rows = record {
      bad_front = λ none. by_front None none;
      behind = λ least front yes. by_front (Some least) front ∙ ap (λ (b : Bool). if b then Refused (fault.Behind least (length h)) else told_caller h s wanted asker) yes;
      denied = λ least d front unlike who. enough least front unlike ∙ ap (told_caller h s wanted) who;
      no_query = λ least user f front unlike who bad. enough least front unlike ∙ ap (told_caller h s wanted) who ∙ ap (λ w. told_user h s w user) bad;
      answer = λ least user w front unlike who good. enough least front unlike ∙ ap (told_caller h s wanted) who ∙ ap (λ v. told_user h s v user) good;
    }

-- ---- a command that is posted again

posted_seq : (s : Setting) (h : List Entry) (r : Request) (m : Moment) (added : Bool) (kind : Kind) (p : Posted) (q : Result ℕ QueryFault) → posted_under r kind q ≡ Some p
    → told_feed (judged_over h added) r m s kind q ≡ told_verdict s.limits (ruling (judged_over h added) p m s)
posted_seq s h r m added kind p (Err f) is = absurd cc
posted_seq s h r m added kind p (Ok seq) is = let same : posted_as r kind seq ≡ p = cc in ap (λ x. told_verdict s.limits (ruling (judged_over h added) x m s)) same

posted_at : (s : Setting) (h : List Entry) (r : Request) (m : Moment) (added : Bool) (p : Posted) (o : Option Page) → reached r ≡ o → posted_on r o ≡ Some p
    → told_of h r m s added ≡ told_verdict s.limits (ruling (judged_over h added) p m s)
posted_at s h r m added p None at is = absurd cc
posted_at s h r m added p (Some (page.Query asked access)) at is = absurd cc
posted_at s h r m added p (Some (page.Version service)) at is = absurd cc
posted_at s h r m added p (Some (page.Feed kind)) at is = on_page s h r m added (page.Feed kind) at ∙ posted_seq s h r m added kind p (seq_got (query_of r.target)) is

-- a command is told its verdict
pub told_posted : (s : Setting) (h : List Entry) (r : Request) (m : Moment) (added : Bool) (p : Posted) → posted_by r ≡ Some p
    → told_of h r m s added ≡ told_verdict s.limits (ruling (judged_over h added) p m s)
told_posted s h r m added p is = posted_at s h r m added p (reached r) refl is

-- the verdict on a command whose author has that entry
abbrev again_verdict : Bool → Bool → ℕ → Verdict
again_verdict may same n = if may then (if same then Repeat n else OtherBody n) else Role

told_by_verdict : (limits : Limits) (h : List Entry) (e : Entry) (p : Posted) (may same : Bool) → may_post (live_of h) e.author p.kind ≡ may → (is_kind e.kind p.kind && bytes_eq e.body p.body) ≡ same
    → told_verdict limits (again_verdict may same e.number) ≡ told_repeat h e p
told_by_verdict limits h e p true true may same = rw (may, same) refl
told_by_verdict limits h e p true false may same = rw (may, same) refl
told_by_verdict limits h e p false same may _ = rw may refl

adds_nothing : (may same : Bool) (n : ℕ) (o : Option Entry) → added_by (again_verdict may same n) o ≡ []
adds_nothing true true n o = refl
adds_nothing true false n o = refl
adds_nothing false same n o = refl

module _ (s : Setting) (h : List Entry) (n : ℕ) (e : Entry) (lawful : is_lawful h ≡ true) (at : slice_get h n ≡ Some e) (some : 1 ≤ e.seq) (x : Sent) (again : Posts h s e.author e.seq x) where
  abbrev p : Posted
  p = again.posted

  abbrev may : Bool
  may = may_post (live_of h) e.author p.kind

  abbrev same : Bool
  same = is_kind e.kind p.kind && bytes_eq e.body p.body

  verdict_is : ruling h p x.moment s ≡ again_verdict may same e.number
  verdict_is = ap (verdict_by h s.limits p) again.author_is ∙ known_verdict h s.limits (command e.author p.seq p.kind p.body) n e lawful at some refl (sym again.seq_is)

  pub told_is : told_of h x.request x.moment s false ≡ told_repeat h e p
  told_is = told_posted s h x.request x.moment false p again.posted_is ∙ (ap (told_verdict s.limits) verdict_is ∙ told_by_verdict s.limits h e p may same refl refl)

  pub stays : after_request s h x ≡ h
  stays =
      ap (λ o. h ++ adds_by h o x.moment s) again.posted_is
      ∙ (ap (λ v. h ++ added_by v (posted_entry h p x.moment s)) verdict_is ∙ (ap (λ l. h ++ l) (adds_nothing may same e.number (posted_entry h p x.moment s)) ∙ append-nil h))

-- as often as one likes
pub stays_all : (s : Setting) (h : List Entry) (n : ℕ) (e : Entry) (sent : List Sent) → is_lawful h ≡ true → slice_get h n ≡ Some e → 1 ≤ e.seq
    → All (Posts h s e.author e.seq) sent → after_requests s h sent ≡ h
stays_all s h n e [] lawful at some all = refl
stays_all s h n e (x ∷ sent) lawful at some all =
    ap (λ g. fold (after_request s) g sent) (stays s h n e lawful at some x (All-head (Posts h s e.author e.seq) x sent all))
    ∙ stays_all s h n e sent lawful at some (All-tail (Posts h s e.author e.seq) x sent all)
