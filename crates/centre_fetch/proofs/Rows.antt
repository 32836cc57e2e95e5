-- How a run of `fetch` comes to its row.
use Rattle.std.proofs.Common.{◌≡◌, ◌≢◌, ◌↔◌, inl, inr, ℕ, Bool, true, false, IsTrue, List, [], Result, Ok, Err, refl, sym, subst}
use Rattle.exact_time.specs.Causes.{Rose}
use Rattle.streams.specs.Effects.{Grew, WritesPart}
use Rattle.streams.specs.View.{StreamView}
use Rattle.command_words.specs.Commands.{FetchWords}
use Rattle.link_ports.specs.Ports.{PortView}
use Rattle.split_fetch.specs.Fetching.{Fetches, IsFetched, FetchRefuses}
use Rattle.split_fetch.specs.Rounds.{Way, Ends}
use Rattle.split_fetch.specs.declared.fetching.FetchFault.{FetchFault}
use Rattle.split_fetch.specs.declared.fetching.FetchFault.TheVariants as fault
use Rattle.split_fetch.specs.declared.heard.Heard.{Heard}
use Rattle.split_fetch.specs.declared.heard.Outcome.{Outcome}
use Rattle.split_fetch.specs.declared.heard.Outcome.TheVariants as outcome
use Rattle.split_fetch.specs.declared.window.Window.{Window}
use Rattle.centre_fetch.specs.Answers.{ComesOf, IsHeardAnswer, IsFetchAnswer}
use Rattle.centre_fetch.specs.Table.{IsGiven, FetchRow, stop_for}
use Rattle.centre_fetch.specs.Words.{IsAsked, codes_of}
use Rattle.centre_fetch.specs.declared.ending.FetchRefusal.{FetchRefusal}
use Rattle.centre_fetch.specs.declared.ending.FetchRefusal.TheVariants.{NoData, TooLarge, Peer, BadReply, Lost, Moved, Requests}
use Rattle.centre_fetch.specs.declared.ending.FetchStop.{FetchStop}
use Rattle.centre_fetch.specs.declared.ending.FetchStop.TheVariants.{Refused, WriteFault}

module _ (w : FetchWords) (window : Window) (asked : IsAsked w window) (before after : PortView) where
  abbrev FetchesAll : Way → Type 0
  FetchesAll way = (fetches : Fetches (codes_of w) window before after way) × (fetches.more ≡ [])

  given : (way : Way) (all : FetchesAll way) → IsGiven w before after all.0.heard
  given way all = record { window = window; asked = asked; way = way; fetches = all.0; none_more = all.1; heard_is = refl }

  answers : (o : Outcome) (all : FetchesAll (Ends o)) (answer : Result (List ℕ) FetchRefusal) → ComesOf o answer → IsHeardAnswer w all.0.heard answer
  answers o all answer comes = record { window = window; asked = asked; outcome = o; leads = all.0.leads; comes = comes }

  -- an end without a body
  ended : (old : StreamView) (way : Way) (all : FetchesAll way) (o : Outcome) (refusal : FetchRefusal) → way ≡ Ends o → ComesOf o (Err refusal)
      → FetchRow w old old before after (Err (Refused refusal))
  ended old way all o refusal is comes =
      let there = subst FetchesAll is all in
      inr (record { heard = there.0.heard; given = given (Ends o) there; answer = inr (answers o there (Err refusal) comes); kept = refl })

  on_fault : (old : StreamView) (why : FetchFault) → FetchRefuses (codes_of w) window before after why → FetchRow w old old before after (Err (stop_for why))
  on_fault old fault.Lost h = ended old h.0 (h.1, h.2) h.3.0 Lost h.3.1 h.3.2
  on_fault old (fault.Moved a b) h = ended old h.0 (h.1, h.2) h.3.0 (Moved a b) h.3.1 h.3.2
  on_fault old fault.Requests h = ended old h.0 (h.1, h.2) h.3.0 Requests h.3.1 h.3.2
  on_fault old (fault.Peer status) h = ended old h.0 (h.1, h.2) h.3.0 (Peer status) h.3.1 h.3.2
  on_fault old fault.BadReply h = ended old h.0 (h.1, h.2) h.3.0 BadReply h.3.1 h.3.2
  on_fault old (fault.TooLarge bytes) h =
      let why = h.3.2 in
      ended old h.0 (h.1, h.2) h.3.0 (TooLarge bytes 268_435_456) h.3.1 (why.0, why.1, why.2, refl)
  on_fault old fault.NoLink h =
      let there = subst FetchesAll h.3.1 (h.1, h.2) in
      record { window = window; asked = asked; stage = h.3.0; fetches = there.0; none_more = there.1; cause = h.3.2; kept = refl }
  on_fault old fault.PortFault h =
      let there = subst FetchesAll h.3.1 (h.1, h.2) in
      record { window = window; asked = asked; stage = h.3.0; fetches = there.0; none_more = there.1; cause = h.3.2; kept = refl }
  on_fault old fault.OutOfMemory h = refl

  -- nothing was fetched
  pub fault_row : (old : StreamView) (why : FetchFault) (stop : FetchStop) → stop ≡ stop_for why → FetchRefuses (codes_of w) window before after why → FetchRow w old old before after (Err stop)
  fault_row old why stop is h = subst (λ (s : FetchStop). FetchRow w old old before after (Err s)) (sym is) (on_fault old why h)

  -- no bytes were fetched
  pub none_row : (old : StreamView) (bytes : List ℕ) → bytes ≡ [] → IsFetched (codes_of w) window before after bytes → FetchRow w old old before after (Err (Refused NoData))
  none_row old bytes none h =
      let empty = subst (λ (xs : List ℕ). IsFetched (codes_of w) window before after xs) none h in
      ended old (Ends (outcome.Done empty.0)) (empty.1, empty.2) (outcome.Done empty.0) NoData refl (empty.0, refl, empty.3)

  -- some were, and written
  pub done_row : (old new : StreamView) (bytes : List ℕ) (done : Unit {0}) → bytes ≢ [] → IsFetched (codes_of w) window before after bytes → Grew old.written new.written bytes
      → FetchRow w old new before after (Ok done)
  done_row old new bytes done some h output = record {
    heard = h.1.heard;
    body = bytes;
    given = given (Ends (outcome.Done h.0)) (h.1, h.2);
    answer = answers (outcome.Done h.0) (h.1, h.2) (Ok bytes) (h.0, refl, h.3, some);
    output = output;
  }

  -- some were, and a first part was written
  pub cut_row : (old new : StreamView) (bytes : List ℕ) → bytes ≢ [] → IsFetched (codes_of w) window before after bytes → Rose old.faults new.faults
      → WritesPart old.written new.written bytes → FetchRow w old new before after (Err WriteFault)
  cut_row old new bytes some h rose output = record {
    heard = h.1.heard;
    body = bytes;
    given = given (Ends (outcome.Done h.0)) (h.1, h.2);
    answer = answers (outcome.Done h.0) (h.1, h.2) (Ok bytes) (h.0, refl, h.3, some);
    rose = rose;
    output = output;
  }

-- what was heard, if that can be told in one way only, gives the answer of the row
pub refused_answer : (w : FetchWords) (old new : StreamView) (before after : PortView) (refusal : FetchRefusal) → FetchRow w old new before after (Err (Refused refusal)) → (heard : List Heard)
    → ((other : List Heard) → IsGiven w before after other → other ≡ heard) → IsFetchAnswer w heard (Err refusal)
refused_answer w old new before after refusal (inl words) heard only = inl words.why
refused_answer w old new before after refusal (inr h) heard only =
    subst (λ (hs : List Heard). IsFetchAnswer w hs (Err refusal)) (only h.heard h.given) h.answer

pub some_bytes : (t : Bool) (bytes : List ℕ) → IsTrue t ↔ (bytes ≡ []) → t ≡ false → bytes ≢ []
some_bytes t bytes tests is none = let turned : t ≡ true = tests.1 none in cc
