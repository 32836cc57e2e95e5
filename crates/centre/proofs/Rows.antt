-- What the table says of an ending, by cases on the command.
use Rattle.std.proofs.Common.{◌≡◌, ◌⊎◌, ◌∙◌, inl, inr, ℕ, List, Option, None, Some, Result, Ok, Err, refl, sym, ap, subst}
use Rattle.disk_model.specs.View.{DiskView}
use Rattle.http_digest.specs.declared.secret.Secret.{Secret}
use Rattle.centre_select.specs.Table.{Streams}
use Rattle.command_words.specs.Commands.{Command, select, init, talk, serve, drill, fetch, coverage, show}
use Rattle.centre.specs.Given.{World, Given, AreGiven}
use Rattle.centre.specs.Settled.{AsksNoClock, KeepsPorts, KeepsUnused}
use Rattle.centre.specs.Shown.{text_shown}
use Rattle.centre.specs.Status.{status_of_run}
use Rattle.centre.specs.Table.{ShowRow, UnknownRow, IsStarved, IsEnding, ToldFor}
use Rattle.centre.specs.declared.ending.Refusal.TheVariants.{UnknownCommand}
use Rattle.centre.specs.declared.ending.Stop.{Stop}
use Rattle.centre.specs.declared.ending.Stop.TheVariants.{Refused, WriteFault, OutOfMemory}
use Rattle.command_words.specs.declared.name.Shown.{Shown}
use Rattle.centre.proofs.Answering.{Ended, ended_same, gives, refuses, six, seventy}
use Rattle.centre.proofs.CoverageRows.{told_coverage, coverage_says, coverage_ended}
use Rattle.centre.proofs.DrillRows.{told_drill, drill_says, drill_ended}
use Rattle.centre.proofs.FetchRows.{told_fetch, fetch_says, fetch_ended, fetch_others}
use Rattle.centre.proofs.Files.{nothing_given}
use Rattle.centre.proofs.InitRows.{told_init, init_says, init_ended}
use Rattle.centre.proofs.Says as said
use Rattle.centre.proofs.Says.{Says}
use Rattle.centre.proofs.SelectRows.{told_select, select_says, select_ended}
use Rattle.centre.proofs.ServeRows.{told_serve, serve_says, serve_ended}
use Rattle.centre.proofs.TalkRows.{told_talk, talk_says, talk_ended}

-- a text that is shown, and words that are no command
told_show : (text : List ℕ) (before after : Streams) (stop told : Stop) → ShowRow text before after (Err stop) → ToldFor stop told → ShowRow text before after (Err told)
told_show text before after stop told (inl row) e = absurd (let bad = row.0 in cc)
told_show text before after stop told (inr row) e =
    let same = row.0 in
    let is : stop ≡ WriteFault = cc in
    let P : Stop → Type 0 = λ s. ToldFor s told in
    inr (ap Err (subst P is e), row.1)

told_unknown : {D : Type 0} (before after : World D) (stop told : Stop) → UnknownRow before after (Err stop) → ToldFor stop told → UnknownRow before after (Err told)
told_unknown before after stop told row e =
    let same = row.0 in
    let is : stop ≡ Refused UnknownCommand = cc in
    let P : Stop → Type 0 = λ s. ToldFor s told in
    (ap Err (subst P is e), row.1)

module _ {D : Type 0} (view : D → DiskView) (before after : World D) where
  show_says : (shown : Shown) (ending : Result (Unit {0}) Stop) → ShowRow (text_shown shown) before.streams after.streams ending → Says view (Some (show shown)) before after (status_of_run ending)
  show_says shown ending (inl row) =
      let P : Result (Unit {0}) Stop → Type 0 = λ e. Says view (Some (show shown)) before after (status_of_run e) in
      subst P (sym row.0) (said.done view (Some (show shown)) before after (record { given = nothing_given; body = text_shown shown; had = tt; answer = refl; output = row.1.output }))
  show_says shown ending (inr row) =
      let P : Result (Unit {0}) Stop → Type 0 = λ e. Says view (Some (show shown)) before after (status_of_run e) in
      subst P (sym row.0) (said.cut_short view (Some (show shown)) before after (record { given = nothing_given; body = text_shown shown; had = tt; answer = refl; rose = row.1.rose; output = row.1.output }))

  unknown_says : (ending : Result (Unit {0}) Stop) → UnknownRow before after ending → Says view None before after (status_of_run ending)
  unknown_says ending row =
      let P : Result (Unit {0}) Stop → Type 0 = λ e. Says view None before after (status_of_run e) in
      subst P (sym row.0) (said.refused view None before after UnknownCommand (λ i. (row.1 i).streams.sink) (λ e. absurd cc) (λ e. refl))

  show_ended : (shown : Shown) (given : Given) (ending : Result (Unit {0}) Stop) → ShowRow (text_shown shown) before.streams after.streams ending → Ended (Some (show shown)) given ending
  show_ended shown given ending (inl row) = ended_same (Some (show shown)) given ending (Ok tt) row.0 (gives (Some (show shown)) given (text_shown shown) refl)
  show_ended shown given ending (inr row) = ended_same (Some (show shown)) given ending (Err WriteFault) row.0 (inl six)

  unknown_ended : (given : Given) (ending : Result (Unit {0}) Stop) → UnknownRow before after ending → Ended None given ending
  unknown_ended given ending row = ended_same None given ending (Err (Refused UnknownCommand)) row.0 (refuses None given UnknownCommand refl)

-- what each command says of its endings
module _ {D : Type 0} (view : D → DiskView) (secret : Secret) where
  pub says : (command : Option Command) (before after : World D) (ending : Result (Unit {0}) Stop) → IsEnding view secret command before after ending → Says view command before after (status_of_run ending)
  says None before after ending row = unknown_says view before after ending row
  says (Some (show shown)) before after ending row = show_says view before after shown ending row.0
  says (Some (select w)) before after ending row = select_says view w before after ending row.0
  says (Some (init w)) before after ending row = init_says view w before after ending row
  says (Some (talk w)) before after ending row = talk_says view secret w before after ending row
  says (Some (serve w)) before after ending row = serve_says view secret w before after ending row
  says (Some (drill w)) before after ending row = drill_says view w before after ending row
  says (Some (fetch w)) before after ending row = fetch_says view w before after ending row
  says (Some (coverage w)) before after ending row = coverage_says view w before after ending row

  pub ended : (command : Option Command) (given : Given) (before after : World D) (ending : Result (Unit {0}) Stop) → AreGiven view command before after given
      → IsStarved before after ending ⊎ IsEnding view secret command before after ending → Ended command given ending
  ended command given before after ending e (inl starved) = ended_same command given ending (Err OutOfMemory) starved.0 (inl seventy)
  ended None given before after ending e (inr row) = unknown_ended view before after given ending row
  ended (Some (show shown)) given before after ending e (inr row) = show_ended view before after shown given ending row.0
  ended (Some (select w)) given before after ending e (inr row) = select_ended w given before.streams after.streams e ending row.0
  ended (Some (init w)) given before after ending e (inr row) = init_ended view w given before after e ending row
  ended (Some (talk w)) given before after ending e (inr row) = talk_ended view secret w given before after e ending row
  ended (Some (serve w)) given before after ending e (inr row) = serve_ended view secret w given before after e ending row
  ended (Some (drill w)) given before after ending e (inr row) = drill_ended view w given before after e ending row
  ended (Some (fetch w)) given before after ending e (inr row) = fetch_ended view w given before after e ending row
  ended (Some (coverage w)) given before after ending e (inr row) = coverage_ended view w given before after e ending row

  told_command : (command : Option Command) (before after : World D) (stop told : Stop) → IsEnding view secret command before after (Err stop) → ToldFor stop told → IsEnding view secret command before after (Err told)
  told_command None before after stop told row e = told_unknown before after stop told row e
  told_command (Some (show shown)) before after stop told row e = (told_show (text_shown shown) before.streams after.streams stop told row.0 e, row.1)
  told_command (Some (select w)) before after stop told row e = (told_select w before.streams after.streams stop told row.0 e, row.1)
  told_command (Some (init w)) before after stop told row e = told_init view w before after stop told row e
  told_command (Some (talk w)) before after stop told row e = told_talk view secret w before after stop told row e
  told_command (Some (serve w)) before after stop told row e = told_serve view secret w before after stop told row e
  told_command (Some (drill w)) before after stop told row e = told_drill view w before after stop told row e
  told_command (Some (fetch w)) before after stop told row e = told_fetch w before after stop told row e
  told_command (Some (coverage w)) before after stop told row e = told_coverage view w before after stop told row e

  told_starved : (before after : World D) (stop told : Stop) → IsStarved before after (Err stop) → ToldFor stop told → IsStarved before after (Err told)
  told_starved before after stop told row e =
      let same = row.0 in
      let is : stop ≡ OutOfMemory = cc in
      let P : Stop → Type 0 = λ s. ToldFor s told in
      (ap Err (subst P is e), row.1, row.2)

  -- what is told has a row of the table
  pub told_row : (command : Option Command) (before after : World D) (stop told : Stop) → IsStarved before after (Err stop) ⊎ IsEnding view secret command before after (Err stop) → ToldFor stop told
      → IsStarved before after (Err told) ⊎ IsEnding view secret command before after (Err told)
  told_row command before after stop told (inl row) e = inl (told_starved before after stop told row e)
  told_row command before after stop told (inr row) e = inr (told_command command before after stop told row e)

  -- what a command doesn't use stays as it was
  pub unused_row : (command : Option Command) (before after : World D) (ending : Result (Unit {0}) Stop) → IsEnding view secret command before after ending → KeepsUnused command before.disk after.disk
  unused_row None before after ending row = λ i. (row.1 i).disk
  unused_row (Some (show shown)) before after ending row = λ i. (row.1 i).disk
  unused_row (Some (select w)) before after ending row = λ i. (row.1 i).disk
  unused_row (Some (init w)) before after ending row = tt
  unused_row (Some (talk w)) before after ending row = tt
  unused_row (Some (serve w)) before after ending row = tt
  unused_row (Some (drill w)) before after ending row = tt
  unused_row (Some (fetch w)) before after ending row = λ i. (row.row.rest i).disk
  unused_row (Some (coverage w)) before after ending row = tt

  pub clock_row : (command : Option Command) (before after : World D) (ending : Result (Unit {0}) Stop) → IsEnding view secret command before after ending → AsksNoClock command before.given after.given
  clock_row None before after ending row = λ i. (row.1 i).given
  clock_row (Some (show shown)) before after ending row = λ i. (row.1 i).given
  clock_row (Some (select w)) before after ending row = λ i. (row.1 i).given
  clock_row (Some (init w)) before after ending row = λ i. (row.row.others i).given
  clock_row (Some (talk w)) before after ending row = tt
  clock_row (Some (serve w)) before after ending row = λ i. (row.row.others i).given
  clock_row (Some (drill w)) before after ending row = λ i. (row.row.others i).given
  clock_row (Some (fetch w)) before after ending row = λ i. (row.row.rest i).given
  clock_row (Some (coverage w)) before after ending row = λ i. (row.row.others i).given

  pub ports_row : (command : Option Command) (before after : World D) (ending : Result (Unit {0}) Stop) → IsEnding view secret command before after ending → KeepsPorts command before.ports after.ports
  ports_row None before after ending row = λ i. (row.1 i).ports
  ports_row (Some (show shown)) before after ending row = λ i. (row.1 i).ports
  ports_row (Some (select w)) before after ending row = λ i. (row.1 i).ports
  ports_row (Some (init w)) before after ending row = λ i. (row.row.others i).ports
  ports_row (Some (talk w)) before after ending row = row.row.ports
  ports_row (Some (serve w)) before after ending row = tt
  ports_row (Some (drill w)) before after ending row = λ i. (row.row.others i).ports
  ports_row (Some (fetch w)) before after ending row = fetch_others w before after ending row
  ports_row (Some (coverage w)) before after ending row = λ i. (row.row.others i).ports
