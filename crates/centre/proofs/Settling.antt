-- From the row of a run: what words and what is read determine decides its status.
use Rattle.std.proofs.Common.{◌≡◌, ◌⊎◌, inl, inr, false, true, ℕ, List, Option, None, Some, Result, Ok, Err, refl, sym, ap, ◌∙◌, subst, arith}
use Rattle.std.proofs.lemmas.Bool.{false≢true}
use Rattle.exact_time.specs.Causes.{Rose}
use Rattle.exact_time.specs.declared.moment.Moment.{Moment}
use Rattle.disk_model.specs.View.{DiskView, WhereTold}
use Rattle.http_digest.specs.declared.secret.Secret.{Secret}
use Rattle.streams.specs.View.{StreamView}
use Rattle.centre_drill.specs.Drill.{HoldsHistory}
use Rattle.centre_drill.specs.History.{made_history}
use Rattle.centre_select.specs.Status.{Tells}
use Rattle.command_words.specs.Commands.{InitWords, TalkWords, ServeWords, DrillWords, FetchWords, CoverageWords, Command, select, init, talk, serve, drill, fetch, coverage, show}
use Rattle.centre.specs.Answers.{IsAnswer}
use Rattle.centre.specs.Given.{World, Given, AreGiven, Told}
use Rattle.centre.specs.Settled.{IsFree, ComesWhere, IsComplete, IsCutShort, IsSettled, IsRefused, IsTooLarge, IsNoArchive, IsPeerRefusal, IsUnsettled, IsUnknown, HoldsNewArchive, KeepsUnused, KeepsSink, KeepsPorts, AsksNoClock, HasEndedTalk, HasEndedServe, HasEndedFetch, HasEndedCoverage, KeepsFile, RunRows, status_of_answer, text_of_answer}
use Rattle.centre.specs.Status.{status_of_run, text_of_run}
use Rattle.centre.specs.Table.{IsEnding, IsRun, IsStarved}
use Rattle.centre.specs.declared.ending.Refusal.{Refusal}
use Rattle.centre.specs.declared.ending.Refusal.TheVariants.{NoData, TooLarge, TooManyLines, InputTooLong, NotEmpty, NotAJournal, Damaged, RequestCut, Peer, BadReply, Lost, Moved, Requests}
use Rattle.centre.specs.declared.ending.Stop.{Stop}
use Rattle.centre.specs.declared.ending.Stop.TheVariants.{OutOfMemory}
use Rattle.centre.proofs.CoverageRows.{coverage_keeps, keeps_same}
use Rattle.centre.proofs.DrillRows.{drill_held}
use Rattle.centre.proofs.InitRows.{init_founded}
use Rattle.centre.proofs.OneAnswer.{one_answer}
use Rattle.centre.proofs.Rows.{ended, says, unused_row, clock_row, ports_row}
use Rattle.centre.proofs.Says as said
use Rattle.centre.proofs.Says.{Says, free_is, is_free}
use Rattle.centre.proofs.Statuses.{Of, of_status}

-- an answer with this status
record HasStatus (command : Option Command) (given : Given) (status : ℕ) : Type 0 where
  answer : Result (List ℕ) Refusal
  is : IsAnswer command given answer
  status_is : status_of_answer answer ≡ status

-- is one of the refusals that have it
refusals : (command : Option Command) (given : Given) (status : ℕ) → (status ≡ 0 → ⊥) → HasStatus command given status → Of (λ refusal. IsAnswer command given (Err refusal)) status
refusals command given status some has = by has.answer has.is has.status_is
  where
    by : (answer : Result (List ℕ) Refusal) → IsAnswer command given answer → status_of_answer answer ≡ status → Of (λ refusal. IsAnswer command given (Err refusal)) status
    by (Ok body) is e = absurd (some (sym e))
    by (Err refusal) is e =
        let P : Refusal → Type 0 = λ r. IsAnswer command given (Err r) in
        subst (λ (n : ℕ). Of P n) e (of_status P refusal is)

module _ {D : Type 0} (view : D → DiskView) (secret : Secret) (command : Option Command) (before after : World D) (old new : StreamView) (status : ℕ) (run : IsRun view secret command before after old new status) where
  -- the answer decides
  pub settles : Told view command before after (λ given. IsSettled command given old new status)
  settles = λ given e answer is.
      elim (ended view secret command given before after run.ending e run.row) [
        | inl free ↦ inl (subst (λ (n : ℕ). IsFree n) (sym run.status_is) free)
        | inr by ↦
            let same : by.answer ≡ answer = one_answer command given by.answer answer by.is is in
            let text : text_of_run run.ending ≡ text_of_answer answer = by.text_is ∙ ap text_of_answer same in
            inr (record {
              status_is = run.status_is ∙ by.status_is ∙ ap status_of_answer same;
              text = (let P : List ℕ → Type 0 = λ xs. Tells old new xs in subst P text run.text);
            })
      ]

  free_or_has : (given : Given) → AreGiven view command before after given → IsFree status ⊎ HasStatus command given status
  free_or_has given e =
      elim (ended view secret command given before after run.ending e run.row) [
        | inl free ↦ inl (subst (λ (n : ℕ). IsFree n) (sym run.status_is) free)
        | inr by ↦ inr (record { answer = by.answer; is = by.is; status_is = sym (run.status_is ∙ by.status_is) })
      ]

  -- a cause that is an answer with that status has the status exactly
  comes : (expected : ℕ) (Cause : Given → Type 0) → (IsFree expected → ⊥)
      → ((given : Given) → HasStatus command given expected → Cause given) → ((given : Given) → Cause given → HasStatus command given expected)
      → Told view command before after (λ given. ComesWhere status expected (Cause given))
  comes expected Cause fixed to from = λ given e. record {
    only = λ same. elim (free_or_has given e) [
      | inl free ↦ absurd (fixed (subst (λ (n : ℕ). IsFree n) same free))
      | inr has ↦ to given (record { answer = has.answer; is = has.is; status_is = has.status_is ∙ same })
    ];
    always = λ cause. elim (free_or_has given e) [
      | inl free ↦ inl free
      | inr has ↦
          let by = from given cause in
          let same : has.answer ≡ by.answer = one_answer command given has.answer by.answer has.is by.is in
          inr (sym has.status_is ∙ ap status_of_answer same ∙ by.status_is)
    ];
  }

  pub refused_comes : Told view command before after (λ given. ComesWhere status 2 (IsRefused command given))
  refused_comes =
      comes 2 (λ given. IsRefused command given) (λ free. false≢true (free_is 2 free))
      (λ given has. let h = refusals command given 2 (λ e. omega (arith, e)) has in record { refusal = h.0; answer = h.1; status_is = h.2 })
      (λ given h. record { answer = Err h.refusal; is = h.answer; status_is = h.status_is })

  pub no_data_comes : Told view command before after (λ given. ComesWhere status 3 (IsAnswer command given (Err NoData)))
  no_data_comes =
      comes 3 (λ given. IsAnswer command given (Err NoData)) (λ free. false≢true (free_is 3 free))
      (λ given has. refusals command given 3 (λ e. omega (arith, e)) has)
      (λ given h. record { answer = Err NoData; is = h; status_is = refl })

  large_status : (given : Given) → IsTooLarge command given → HasStatus command given 4
  large_status given (inl h) = record { answer = Err (TooLarge h.0 h.1); is = h.2; status_is = refl }
  large_status given (inr h) = record { answer = Err (TooManyLines h.0 h.1); is = h.2; status_is = refl }

  pub too_large_comes : Told view command before after (λ given. ComesWhere status 4 (IsTooLarge command given))
  too_large_comes =
      comes 4 (λ given. IsTooLarge command given) (λ free. false≢true (free_is 4 free))
      (λ given has. refusals command given 4 (λ e. omega (arith, e)) has)
      large_status

  archive_status : (given : Given) → IsNoArchive command given → HasStatus command given 9
  archive_status given (inl h) = record { answer = Err NotEmpty; is = h; status_is = refl }
  archive_status given (inr (inl h)) = record { answer = Err NotAJournal; is = h; status_is = refl }
  archive_status given (inr (inr h)) = record { answer = Err (Damaged h.0); is = h.1; status_is = refl }

  pub no_archive_comes : Told view command before after (λ given. ComesWhere status 9 (IsNoArchive command given))
  no_archive_comes =
      comes 9 (λ given. IsNoArchive command given) (λ free. false≢true (free_is 9 free))
      (λ given has. refusals command given 9 (λ e. omega (arith, e)) has)
      archive_status

  pub too_long_comes : Told view command before after (λ given. ComesWhere status 10 (IsAnswer command given (Err InputTooLong)))
  too_long_comes =
      comes 10 (λ given. IsAnswer command given (Err InputTooLong)) (λ free. false≢true (free_is 10 free))
      (λ given has. refusals command given 10 (λ e. omega (arith, e)) has)
      (λ given h. record { answer = Err InputTooLong; is = h; status_is = refl })

  pub request_cut_comes : Told view command before after (λ given. ComesWhere status 11 (IsAnswer command given (Err RequestCut)))
  request_cut_comes =
      comes 11 (λ given. IsAnswer command given (Err RequestCut)) (λ free. false≢true (free_is 11 free))
      (λ given has. refusals command given 11 (λ e. omega (arith, e)) has)
      (λ given h. record { answer = Err RequestCut; is = h; status_is = refl })

  pub peer_comes : Told view command before after (λ given. ComesWhere status 13 (IsPeerRefusal command given))
  peer_comes =
      comes 13 (λ given. IsPeerRefusal command given) (λ free. false≢true (free_is 13 free))
      (λ given has. refusals command given 13 (λ e. omega (arith, e)) has)
      (λ given h. record { answer = Err (Peer h.0); is = h.1; status_is = refl })

  pub bad_reply_comes : Told view command before after (λ given. ComesWhere status 14 (IsAnswer command given (Err BadReply)))
  bad_reply_comes =
      comes 14 (λ given. IsAnswer command given (Err BadReply)) (λ free. false≢true (free_is 14 free))
      (λ given has. refusals command given 14 (λ e. omega (arith, e)) has)
      (λ given h. record { answer = Err BadReply; is = h; status_is = refl })

  round_status : (given : Given) → IsUnsettled command given → HasStatus command given 15
  round_status given (inl h) = record { answer = Err Lost; is = h; status_is = refl }
  round_status given (inr h) = record { answer = Err (Moved h.0 h.1); is = h.2; status_is = refl }

  pub unsettled_comes : Told view command before after (λ given. ComesWhere status 15 (IsUnsettled command given))
  unsettled_comes =
      comes 15 (λ given. IsUnsettled command given) (λ free. false≢true (free_is 15 free))
      (λ given has. refusals command given 15 (λ e. omega (arith, e)) has)
      round_status

  pub requests_come : Told view command before after (λ given. ComesWhere status 18 (IsAnswer command given (Err Requests)))
  requests_come =
      comes 18 (λ given. IsAnswer command given (Err Requests)) (λ free. false≢true (free_is 18 free))
      (λ given has. refusals command given 18 (λ e. omega (arith, e)) has)
      (λ given h. record { answer = Err Requests; is = h; status_is = refl })

-- what stays as it was is kept, whatever the command
kept_same : (command : Option Command) (old new : StreamView) → new ≡ old → KeepsSink command old new
kept_same None old new same = same
kept_same (Some (show text)) old new same = same
kept_same (Some (select w)) old new same = same
kept_same (Some (init w)) old new same = same
kept_same (Some (talk w)) old new same = tt
kept_same (Some (serve w)) old new same = same
kept_same (Some (drill w)) old new same = same
kept_same (Some (fetch w)) old new same = same
kept_same (Some (coverage w)) old new same = same

unused_same : {D : Type 0} (command : Option Command) (old new : D) → new ≡ old → KeepsUnused command old new
unused_same None old new same = same
unused_same (Some (show text)) old new same = same
unused_same (Some (select w)) old new same = same
unused_same (Some (init w)) old new same = tt
unused_same (Some (talk w)) old new same = tt
unused_same (Some (serve w)) old new same = tt
unused_same (Some (drill w)) old new same = tt
unused_same (Some (fetch w)) old new same = same
unused_same (Some (coverage w)) old new same = tt

clock_same : (command : Option Command) (old new : Option (List Moment)) → new ≡ old → AsksNoClock command old new
clock_same None old new same = same
clock_same (Some (show text)) old new same = same
clock_same (Some (select w)) old new same = same
clock_same (Some (init w)) old new same = same
clock_same (Some (talk w)) old new same = tt
clock_same (Some (serve w)) old new same = same
clock_same (Some (drill w)) old new same = same
clock_same (Some (fetch w)) old new same = same
clock_same (Some (coverage w)) old new same = same

part_rose : {D : Type 0} (view : D → DiskView) (command : Option Command) (before after : World D) → IsCutShort view command before after → Rose before.streams.sink.faults after.streams.sink.faults
part_rose view None before after cut = cut.rose
part_rose view (Some (show text)) before after cut = cut.rose
part_rose view (Some (select w)) before after cut = cut.rose
part_rose view (Some (init w)) before after cut = cut.rose
part_rose view (Some (talk w)) before after cut = cut
part_rose view (Some (serve w)) before after cut = cut.rose
part_rose view (Some (drill w)) before after cut = cut.rose
part_rose view (Some (fetch w)) before after cut = cut.rose
part_rose view (Some (coverage w)) before after cut = cut.puts.rose

module _ {D : Type 0} (view : D → DiskView) (secret : Secret) (command : Option Command) (before after : World D) (old new : StreamView) (status : ℕ) (run : IsRun view secret command before after old new status) where
  -- where memory ran out before the words were read the status is 70, and nothing changed
  starved_status : IsStarved before after run.ending → status ≡ 70
  starved_status starved = run.status_is ∙ ap status_of_run starved.0

  it_says : Says view command before after status
  it_says = elim run.row [
    | inl starved ↦ subst (λ (n : ℕ). Says view command before after n) (sym (starved_status starved))
        (said.starved view command before after (kept_same command before.streams.sink after.streams.sink (λ i. (starved.1 i).streams.sink)))
    | inr row ↦ subst (λ (n : ℕ). Says view command before after n) (sym run.status_is) (says view secret command before after run.ending row)
  ]

  unknown : IsUnknown command status
  unknown = record {
    only = it_says.unknown;
    always = λ none. elim run.row [
      | inl starved ↦ inl (starved_status starved)
      | inr row ↦ inr (run.status_is ∙ ap status_of_run (subst (λ (c : Option Command). IsEnding view secret c before after run.ending) none row).0)
    ];
  }

  ports : (status ≡ 70 → ⊥) → KeepsPorts command before.ports after.ports
  ports not_short = elim run.row [
    | inl starved ↦ absurd (not_short (starved_status starved))
    | inr row ↦ ports_row view secret command before after run.ending row
  ]

  unused : KeepsUnused command before.disk after.disk
  unused = elim run.row [
    | inl starved ↦ unused_same command before.disk after.disk (λ i. (starved.1 i).disk)
    | inr row ↦ unused_row view secret command before after run.ending row
  ]

  clock : AsksNoClock command before.given after.given
  clock = elim run.row [
    | inl starved ↦ clock_same command before.given after.given (λ i. (starved.1 i).given)
    | inr row ↦ clock_row view secret command before after run.ending row
  ]

  row_of : (c : Option Command) → command ≡ c → IsStarved before after run.ending ⊎ IsEnding view secret c before after run.ending
  row_of c is = elim run.row [ inl starved ↦ inl starved | inr row ↦ inr (subst (λ (c : Option Command). IsEnding view secret c before after run.ending) is row) ]

  founded : (w : InitWords) → command ≡ Some (init w) → status ≡ 0 → WhereTold (view before.disk) (HoldsNewArchive (view after.disk) w)
  founded w is zero = elim (row_of (Some (init w)) is) [
    | inl starved ↦ absurd (let e = starved_status starved in omega (arith, e, zero))
    | inr row ↦ init_founded view w before after run.ending row (sym run.status_is ∙ zero)
  ]

  drilled : (w : DrillWords) → command ≡ Some (drill w) → (status ≡ 0) ⊎ (status ≡ 6) → WhereTold (view before.disk) (HoldsHistory (view after.disk) (made_history w.records))
  drilled w is at = elim (row_of (Some (drill w)) is) [
    | inl starved ↦ absurd (let e = starved_status starved in elim at [ inl zero ↦ omega (arith, e, zero) | inr six ↦ omega (arith, e, six) ])
    | inr row ↦ drill_held view w before after run.ending row (elim at [ inl zero ↦ inl (sym run.status_is ∙ zero) | inr six ↦ inr (sym run.status_is ∙ six) ])
  ]

  talked : (w : TalkWords) → command ≡ Some (talk w) → HasEndedTalk view secret w before after status
  talked w is = record { ending = run.ending; status_is = run.status_is; row = row_of (Some (talk w)) is }

  served : (w : ServeWords) → command ≡ Some (serve w) → HasEndedServe view secret w before after status
  served w is = record { ending = run.ending; status_is = run.status_is; row = row_of (Some (serve w)) is }

  fetched : (w : FetchWords) → command ≡ Some (fetch w) → HasEndedFetch w before after status
  fetched w is = record { ending = run.ending; status_is = run.status_is; row = row_of (Some (fetch w)) is }

  covered : (w : CoverageWords) → command ≡ Some (coverage w) → HasEndedCoverage view w before after status
  covered w is = record { ending = run.ending; status_is = run.status_is; row = row_of (Some (coverage w)) is }

  only_read : (w : CoverageWords) → command ≡ Some (coverage w) → WhereTold (view before.disk) (KeepsFile (view before.disk) (view after.disk))
  only_read w is = elim (row_of (Some (coverage w)) is) [
    | inl starved ↦ keeps_same view before.disk after.disk (λ i. (starved.1 i).disk)
    | inr row ↦ coverage_keeps view w before after run.ending row
  ]

  completes : Told view command before after (λ given. IsComplete view command given before after old new status)
  completes = λ given e unread unwritten undamaged unbroken answer is.
      elim (settles view secret command before after old new status run given e answer is) [
        | inl (inl five) ↦ absurd (unread (it_says.read five))
        | inl (inr (inl six)) ↦ absurd (unwritten (part_rose view command before after (it_says.cut six)))
        | inl (inr (inr (inl seven))) ↦ absurd (undamaged (it_says.disk seven))
        | inl (inr (inr (inr (inl eight)))) ↦ absurd (unbroken (it_says.port eight))
        | inl (inr (inr (inr (inr (inl seventeen))))) ↦ inl seventeen
        | inl (inr (inr (inr (inr (inr seventy))))) ↦ inr (inl seventy)
        | inr ends ↦ inr (inr ends)
      ]

  pub rows : RunRows view secret command before after old new status
  rows = record {
    settled = settles view secret command before after old new status run;
    complete = completes;
    kept = it_says.kept;
    unused = unused;
    clock = clock;
    ports = ports;
    written = it_says.written;
    founded = founded;
    drilled = drilled;
    talked = talked;
    served = served;
    fetched = fetched;
    covered = covered;
    only_read = only_read;
    unknown = unknown;
    refused = refused_comes view secret command before after old new status run;
    no_data = no_data_comes view secret command before after old new status run;
    too_large = too_large_comes view secret command before after old new status run;
    read_fault = it_says.read;
    write_fault = it_says.cut;
    disk_fault = it_says.disk;
    port_fault = it_says.port;
    no_archive = no_archive_comes view secret command before after old new status run;
    untouched = it_says.untouched;
    too_long = too_long_comes view secret command before after old new status run;
    request_cut = request_cut_comes view secret command before after old new status run;
    peer = peer_comes view secret command before after old new status run;
    bad_reply = bad_reply_comes view secret command before after old new status run;
    unsettled = unsettled_comes view secret command before after old new status run;
    no_link = it_says.no_link;
    requests = requests_come view secret command before after old new status run;
  }
