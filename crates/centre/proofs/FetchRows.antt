-- The command `fetch` as rows of the table.
use Rattle.std.proofs.Common.{◌≡◌, ◌∙◌, false, inl, inr, ◌∷◌, ℕ, List, [], Option, Some, Result, Ok, Err, refl, sym, ap, subst}
use Rattle.disk_model.specs.View.{DiskView}
use Rattle.exact_time.specs.Causes.{Rose}
use Rattle.link_ports.specs.Ports.{PortView, IsSpent}
use Rattle.split_fetch.specs.declared.heard.Heard.{Heard}
use Rattle.centre_serve.specs.Whole.{OneRose}
use Rattle.centre_fetch.specs.Answers.{IsFetchAnswer, IsHeardOut}
use Rattle.centre_fetch.specs.Table.{IsGiven}
use Rattle.centre_fetch.specs.Words.{IsAsked}
use Rattle.centre_fetch.specs.declared.ending.FetchRefusal.{FetchRefusal}
use Rattle.centre_fetch.specs.declared.ending.FetchRefusal.TheVariants as refusal
use Rattle.centre_fetch.specs.declared.ending.FetchStop.{FetchStop}
use Rattle.centre_fetch.specs.declared.ending.FetchStop.TheVariants as stop
use Rattle.centre_fetch.proofs.Decide.{words_decide}
use Rattle.centre_fetch.proofs.OneFetch.{one_fetch}
use Rattle.centre_fetch.proofs.SomeFetch.{some_heard}
use Rattle.split_fetch.specs.declared.window.Window.{Window}
use Rattle.command_words.specs.Commands.{FetchWords, fetch}
use Rattle.centre.specs.Ends.{answer_by, ending_by}
use Rattle.centre.specs.Fetches.{IsFetch, IsFetching, FetchEnding, refusal_for_fetch, stop_for_fetch}
use Rattle.centre.specs.Given.{World, Given, AreGiven, WasHeard}
use Rattle.centre.specs.Settled.{HasNoLink, KeepsOthers}
use Rattle.centre.specs.Status.{status_of_refusal, status_of_run}
use Rattle.centre.specs.Table.{ToldFor}
use Rattle.centre.specs.declared.ending.Refusal.{Refusal}
use Rattle.centre.specs.declared.ending.Stop.{Stop}
use Rattle.centre.proofs.Answering.{Ended, ended_by, gives, one_by, refuses, six, eight, seventeen, seventy}
use Rattle.centre.proofs.Says as says
use Rattle.centre.proofs.Says.{Says, is_odd, says_by}
use Rattle.centre.proofs.MemoryTexts.{MayRunOut, told_by}

module _ {D : Type 0} (w : FetchWords) (before after : World D) where
  -- want of memory, told in the stead of a refusal, leaves the sink as it was
  refusal_kept : (why : FetchRefusal) → (row : IsFetch w before after (Err (stop.Refused why))) → after.streams.sink ≡ before.streams.sink
  refusal_kept why row = elim row.row [ inl words ↦ words.sink_same | inr heard ↦ heard.kept ]

  starves : (why : FetchStop) → MayRunOut (stop_for_fetch why) → IsFetch w before after (Err why) → IsFetch w before after (Err stop.OutOfMemory)
  starves (stop.Refused why) may row = record { old = row.old; new = row.new; others = row.others; had = row.had; has = row.has; rest = row.rest; row = refusal_kept why row }
  starves stop.WriteFault may row = absurd may
  starves stop.PortFault may row = absurd may
  starves stop.NoLink may row = absurd may
  starves stop.OutOfMemory may row = absurd may

  pub told_fetch : (stopped told : Stop) → FetchEnding w before after (Err stopped) → ToldFor stopped told → FetchEnding w before after (Err told)
  told_fetch stopped told row e = told_by stop_for_fetch (IsFetch w before after) stop.OutOfMemory refl starves stopped told row e

  -- what was heard, and what came of it, is said of the ports
  heard_at : (outcome : Result (Unit {0}) FetchStop) (row : IsFetch w before after outcome) (heard : List Heard) → IsGiven w row.old row.new heard → WasHeard w before.ports after.ports heard
  heard_at outcome row heard given =
      let P : List PortView → List PortView → Type 0 = λ a b. WasHeard w a b heard in
      subst (λ a. P a after.ports) (sym row.had) (subst (λ b. P (row.old ∷ row.others) b) (sym row.has) given)

  rose_at : (outcome : Result (Unit {0}) FetchStop) (row : IsFetch w before after outcome) → Rose row.old.faults row.new.faults → OneRose before.ports after.ports
  rose_at outcome row rose = subst (λ a. OneRose a after.ports) (sym row.had) (subst (λ b. OneRose (row.old ∷ row.others) b) (sym row.has) (inl rose))

  spent_at : (outcome : Result (Unit {0}) FetchStop) (row : IsFetch w before after outcome) → IsSpent row.new.left → HasNoLink (Some (fetch w)) after.ports
  spent_at outcome row spent = subst (λ b. HasNoLink (Some (fetch w)) b) (sym row.has) spent

  pub fetch_others : (ending : Result (Unit {0}) Stop) → FetchEnding w before after ending → KeepsOthers before.ports after.ports
  fetch_others ending it =
      let row = it.row in
      subst (λ a. KeepsOthers a after.ports) (sym row.had) (subst (λ b. KeepsOthers (row.old ∷ row.others) b) (sym row.has) refl)

-- what an ending says
plain : (why : FetchRefusal) → is_odd (status_of_refusal (refusal_for_fetch why)) ≡ false
plain (refusal.Value word) = refl
plain refusal.Order = refl
plain refusal.NoData = refl
plain (refusal.TooLarge bytes limit) = refl
plain (refusal.Peer status) = refl
plain refusal.BadReply = refl
plain refusal.Lost = refl
plain (refusal.Moved a b) = refl
plain refusal.Requests = refl

abbrev of_heard : List Heard → Given
of_heard heard = record { input = []; file = []; heard = heard }

module _ {D : Type 0} (view : D → DiskView) (w : FetchWords) (before after : World D) where
  by : (outcome : Result (Unit {0}) FetchStop) → IsFetch w before after outcome → Says view (Some (fetch w)) before after (status_of_run (ending_by stop_for_fetch outcome))
  by (Ok done) it =
      let row = it.row in
      says.done view (Some (fetch w)) before after (record {
        given = of_heard row.heard;
        body = row.body;
        had = heard_at w before after (Ok done) it row.heard row.given;
        answer = record { own = Ok row.body; is = row.answer; same = refl };
        output = row.output;
      })
  by (Err (stop.Refused why)) it = says.refused_plainly view (Some (fetch w)) before after (refusal_for_fetch why) (refusal_kept w before after why it) (plain why)
  by (Err stop.WriteFault) it =
      let row = it.row in
      says.cut_short view (Some (fetch w)) before after (record {
        given = of_heard row.heard;
        body = row.body;
        had = heard_at w before after (Err stop.WriteFault) it row.heard row.given;
        answer = record { own = Ok row.body; is = row.answer; same = refl };
        rose = row.rose;
        output = row.output;
      })
  by (Err stop.PortFault) it = says.port_stopped view (Some (fetch w)) before after it.row.kept (rose_at w before after (Err stop.PortFault) it it.row.cause)
  by (Err stop.NoLink) it = says.links_spent view (Some (fetch w)) before after it.row.kept (spent_at w before after (Err stop.NoLink) it it.row.cause)
  by (Err stop.OutOfMemory) it = says.starved view (Some (fetch w)) before after it.row

  pub fetch_says : (ending : Result (Unit {0}) Stop) → FetchEnding w before after ending → Says view (Some (fetch w)) before after (status_of_run ending)
  fetch_says ending row = says_by view (Some (fetch w)) before after stop_for_fetch (IsFetch w before after) ending by row

-- and the answer that it is
module _ {D : Type 0} (view : D → DiskView) (w : FetchWords) (given : Given) (before after : World D) (e : AreGiven view (Some (fetch w)) before after given) where
  ends : (outcome : Result (Unit {0}) FetchStop) → IsFetch w before after outcome → Ended (Some (fetch w)) given (ending_by stop_for_fetch outcome)
  ends (Ok done) it =
      let row = it.row in
      let P : List Heard → Type 0 = λ heard. IsFetchAnswer w heard (Ok row.body) in
      gives (Some (fetch w)) given row.body (record { own = Ok row.body; is = subst P (e row.heard (heard_at w before after (Ok done) it row.heard row.given)) row.answer; same = refl })
  ends (Err (stop.Refused why)) it =
      let P : List Heard → Type 0 = λ heard. IsFetchAnswer w heard (Err why) in
      let is : P given.heard = elim it.row [
        | inl words ↦ inl words.why
        | inr row ↦ subst P (e row.heard (heard_at w before after (Err (stop.Refused why)) it row.heard row.given)) row.answer
      ] in
      refuses (Some (fetch w)) given (refusal_for_fetch why) (record { own = Err why; is = is; same = refl })
  ends (Err stop.WriteFault) it = inl six
  ends (Err stop.PortFault) it = inl eight
  ends (Err stop.NoLink) it = inl seventeen
  ends (Err stop.OutOfMemory) it = inl seventy

  pub fetch_ended : (ending : Result (Unit {0}) Stop) → FetchEnding w before after ending → Ended (Some (fetch w)) given ending
  fetch_ended ending row = ended_by (Some (fetch w)) given stop_for_fetch (IsFetch w before after) ending ends row

-- there is one answer, and no other
pub one_fetching : (w : FetchWords) (heard : List Heard) (a b : Result (List ℕ) Refusal) → IsFetching w heard a → IsFetching w heard b → a ≡ b
one_fetching w heard a b p q = one_by refusal_for_fetch (IsFetchAnswer w heard) (one_fetch w heard) a b p q

pub some_fetching : (w : FetchWords) (heard : List Heard) → ((window : Window) → IsAsked w window → IsHeardOut w heard) → (answer : Result (List ℕ) Refusal) × IsFetching w heard answer
some_fetching w heard through = elim (words_decide w) [
  | inl refused ↦ (Err (refusal_for_fetch refused.0), record { own = Err refused.0; is = inl refused.1; same = refl })
  | inr asked ↦
      let some = some_heard w heard (through asked.0 asked.1) in
      (answer_by refusal_for_fetch some.0, record { own = some.0; is = some.1; same = refl })
]
