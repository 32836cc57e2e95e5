-- The program of `select` alone does what the program does for words that begin with `select`.
use Rattle.std.proofs.Common.{◌≡◌, ◌⊎◌, ◌∙◌, inl, inr, ℕ, List, [], ◌∷◌, Option, None, Some, Result, Ok, Err, true, false, cond, codes, option_map, refl, sym, ap, subst}
use Rattle.std.specs.Prelude.{⊤}
use Rattle.http_digest.specs.declared.secret.Secret.{Secret}
use Rattle.disk_model.specs.View.{DiskView}
use Rattle.streams.specs.View.{StreamView}
use Rattle.command_words.specs.Commands.{SelectWords, Command, select, init, talk, serve, drill, fetch, coverage, show, asks_help, command_of, select_words_in, words_of_command}
use Rattle.command_words.specs.Layouts.{app_for}
use Rattle.command_words.specs.Values.{read_by}
use Rattle.command_words.specs.declared.name.CommandName.TheVariants.{Select, Init, Talk, Serve, Drill, Fetch, Coverage}
use Rattle.command_words.specs.declared.name.Shown.TheVariants.{Help, Version, HelpOf}
use Rattle.centre_select.specs.Status.{Tells, unknown_text, error_text_of as select_text_of, status_of_run as select_status_of_run, text_of_run as select_text_of_run}
use Rattle.centre_select.specs.Table.{Streams, SelectRow, EndsSo, ShowRow as HelpRow, IsRun as IsRunOfSelect}
use Rattle.centre_select.specs.declared.ending.SelectStop.{SelectStop}
use Rattle.centre_select.specs.declared.ending.SelectStop.TheVariants as stop
use Rattle.centre_select.specs.declared.help.TheConstants.{SELECT_HELP}
use Rattle.centre.specs.Given.{World}
use Rattle.centre.specs.Ends.{ending_by}
use Rattle.centre.specs.Selects.{SelectEnding, stop_for_select}
use Rattle.centre.specs.Status.{error_text_of, status_of_run, text_of_run}
use Rattle.centre.specs.Table.{IsEnding, IsRun, IsStarved, ShowRow, UnknownRow}
use Rattle.centre.specs.declared.ending.Refusal.TheVariants.{UnknownCommand}
use Rattle.centre.specs.declared.ending.Stop.{Stop}
use Rattle.centre.specs.declared.ending.Stop.TheVariants.{Refused, WriteFault, OutOfMemory}
use Rattle.centre.proofs.SelectRows.{same_status, same_text}

-- what words give that begin with `select`
abbrev pub IsOfSelect : Option Command → Type 0
IsOfSelect None = ⊤
IsOfSelect (Some (select w)) = ⊤
IsOfSelect (Some (show (HelpOf Select))) = ⊤
IsOfSelect _ = ⊥

spelled : (words : Option SelectWords) → IsOfSelect (option_map select words)
spelled None = tt
spelled (Some words) = tt

pub given_select : (behind : List (List ℕ)) → IsOfSelect (command_of (codes "select" ∷ behind))
given_select [] = tt
given_select (second ∷ behind) =
    let words = codes "select" ∷ second ∷ behind in
    elim (asks_help (second ∷ behind)) as (λ b. IsOfSelect (cond b (Some (show (HelpOf Select))) (words_of_command Select words))) [
      | true ↦ tt
      | false ↦ spelled (read_by (app_for Select) select_words_in words)
    ]

-- an ending of `select` is one of a run, with the same status and the same text
status_above : (own : Result (Unit {0}) SelectStop) → select_status_of_run own ≡ status_of_run (ending_by stop_for_select own)
status_above (Ok done) = refl
status_above (Err why) = same_status why

text_as : (own : Result (Unit {0}) SelectStop) → select_text_of_run own ≡ text_of_run (ending_by stop_for_select own)
text_as (Ok done) = refl
text_as (Err why) = same_text why

text_by : (old new : StreamView) (a b : List ℕ) → a ≡ b → Tells old new a → Tells old new b
text_by old new a b is text = let P : List ℕ → Type 0 = λ xs. Tells old new xs in subst P is text

select_above : {D : Type 0} (view : D → DiskView) (secret : Secret) (w : SelectWords) (before after : World D) (old new : StreamView) (status : ℕ) (own : Result (Unit {0}) SelectStop) → after ≡ record before { streams = after.streams }
    → SelectRow w before.streams after.streams own → EndsSo own old new status → IsRun view secret (Some (select w)) before after old new status
select_above view secret w before after old new status own same row ends = record {
  ending = ending_by stop_for_select own;
  row = inr (record { outcome = own; row = row; same = refl }, same);
  status_is = ends.status_is ∙ status_above own;
  text = text_by old new (select_text_of_run own) (text_of_run (ending_by stop_for_select own)) (text_as own) ends.text;
}

help_above : {D : Type 0} (view : D → DiskView) (secret : Secret) (before after : World D) (old new : StreamView) (status : ℕ) (own : Result (Unit {0}) SelectStop) → after ≡ record before { streams = after.streams }
    → HelpRow SELECT_HELP.now before.streams after.streams own → EndsSo own old new status → IsRun view secret (Some (show (HelpOf Select))) before after old new status
help_above view secret before after old new status (Ok done) same row ends = record { ending = Ok tt; row = inr (inl (refl, row), same); status_is = ends.status_is; text = ends.text }
help_above view secret before after old new status (Err stop.WriteFault) same row ends = record { ending = Err WriteFault; row = inr (inr (refl, row), same); status_is = ends.status_is; text = ends.text }
help_above view secret before after old new status (Err (stop.Refused why)) same row ends = absurd row
help_above view secret before after old new status (Err stop.ReadFault) same row ends = absurd row
help_above view secret before after old new status (Err stop.OutOfMemory) same row ends = absurd row

-- where the streams are as before, all is
all_same : {D : Type 0} (before after : World D) → after ≡ record before { streams = after.streams } → after.streams ≡ before.streams → after ≡ before
all_same before after same streams = same ∙ ap (λ (s : Streams). record before { streams = s }) streams

pub above : {D : Type 0} (view : D → DiskView) (secret : Secret) (command : Option Command) (before after : World D) (old new : StreamView) (status : ℕ) → IsOfSelect command → after ≡ record before { streams = after.streams }
    → IsRunOfSelect command before.streams after.streams old new status → IsRun view secret command before after old new status
above view secret command before after old new status of same (inl starved) =
    let e = all_same before after same starved.same in
    let P : World _ → Type 0 = λ x. x ≡ record before { ports = x.ports } in
    record { ending = Err OutOfMemory; row = inl (refl, subst P (sym e) refl, inl (λ i. (e i).ports)); status_is = starved.ends.status_is; text = starved.ends.text }
above view secret None before after old new status of same (inr row) =
    record { ending = Err (Refused UnknownCommand); row = inr (refl, all_same before after same row.same); status_is = row.status_is; text = row.text }
above view secret (Some (select w)) before after old new status of same (inr row) = select_above view secret w before after old new status row.ending same row.row row.ends
above view secret (Some (show (HelpOf Select))) before after old new status of same (inr row) = help_above view secret before after old new status row.ending same row.row row.ends
above view secret (Some (show Help)) before after old new status of same (inr row) = absurd of
above view secret (Some (show Version)) before after old new status of same (inr row) = absurd of
above view secret (Some (show (HelpOf Init))) before after old new status of same (inr row) = absurd of
above view secret (Some (show (HelpOf Talk))) before after old new status of same (inr row) = absurd of
above view secret (Some (show (HelpOf Serve))) before after old new status of same (inr row) = absurd of
above view secret (Some (show (HelpOf Drill))) before after old new status of same (inr row) = absurd of
above view secret (Some (show (HelpOf Fetch))) before after old new status of same (inr row) = absurd of
above view secret (Some (show (HelpOf Coverage))) before after old new status of same (inr row) = absurd of
above view secret (Some (init w)) before after old new status of same (inr row) = absurd of
above view secret (Some (talk w)) before after old new status of same (inr row) = absurd of
above view secret (Some (serve w)) before after old new status of same (inr row) = absurd of
above view secret (Some (drill w)) before after old new status of same (inr row) = absurd of
above view secret (Some (fetch w)) before after old new status of same (inr row) = absurd of
above view secret (Some (coverage w)) before after old new status of same (inr row) = absurd of

-- and the other way round
select_below : (w : SelectWords) (before after : Streams) (old new : StreamView) (status : ℕ) (ending : Result (Unit {0}) Stop) → SelectEnding w before after ending → status ≡ status_of_run ending → Tells old new (text_of_run ending)
    → IsRunOfSelect (Some (select w)) before after old new status
select_below w before after old new status ending row status_is text = inr (record {
  ending = row.outcome;
  row = row.row;
  ends = record {
    status_is = status_is ∙ ap status_of_run row.same ∙ sym (status_above row.outcome);
    text = text_by old new (text_of_run ending) (select_text_of_run row.outcome) (ap text_of_run row.same ∙ sym (text_as row.outcome)) text;
  };
})

help_below : (before after : Streams) (old new : StreamView) (status : ℕ) (ending : Result (Unit {0}) Stop) → ShowRow SELECT_HELP.now before after ending → status ≡ status_of_run ending → Tells old new (text_of_run ending)
    → IsRunOfSelect (Some (show (HelpOf Select))) before after old new status
help_below before after old new status ending (inl row) status_is text = inr (record {
  ending = Ok tt;
  row = row.1;
  ends = record { status_is = status_is ∙ ap status_of_run row.0; text = text_by old new (text_of_run ending) (select_text_of_run (Ok tt)) (ap text_of_run row.0) text };
})
help_below before after old new status ending (inr row) status_is text = inr (record {
  ending = Err stop.WriteFault;
  row = row.1;
  ends = record { status_is = status_is ∙ ap status_of_run row.0; text = text_by old new (text_of_run ending) (select_text_of_run (Err stop.WriteFault)) (ap text_of_run row.0) text };
})

pub below : {D : Type 0} (view : D → DiskView) (secret : Secret) (command : Option Command) (before after : World D) (old new : StreamView) (status : ℕ) → IsOfSelect command
    → IsRun view secret command before after old new status → IsRunOfSelect command before.streams after.streams old new status
below view secret command before after old new status of run = by command of run.ending run.row run.status_is run.text
  where
    by : (command : Option Command) → IsOfSelect command → (ending : Result (Unit {0}) Stop) → IsStarved before after ending ⊎ IsEnding view secret command before after ending → status ≡ status_of_run ending
        → Tells old new (text_of_run ending) → IsRunOfSelect command before.streams after.streams old new status
    by command of ending (inl starved) status_is text = inl (record {
      same = λ i. (starved.1 i).streams;
      ends = record { status_is = status_is ∙ ap status_of_run starved.0; text = text_by old new (text_of_run ending) (text_of_run (Err OutOfMemory)) (ap text_of_run starved.0) text };
    })
    by None of ending (inr row) status_is text =
        inr (record { same = λ i. (row.1 i).streams; status_is = status_is ∙ ap status_of_run row.0; text = text_by old new (text_of_run ending) unknown_text (ap text_of_run row.0) text })
    by (Some (select w)) of ending (inr row) status_is text = select_below w before.streams after.streams old new status ending row.0 status_is text
    by (Some (show (HelpOf Select))) of ending (inr row) status_is text = help_below before.streams after.streams old new status ending row.0 status_is text
    by (Some (show Help)) of ending (inr row) status_is text = absurd of
    by (Some (show Version)) of ending (inr row) status_is text = absurd of
    by (Some (show (HelpOf Init))) of ending (inr row) status_is text = absurd of
    by (Some (show (HelpOf Talk))) of ending (inr row) status_is text = absurd of
    by (Some (show (HelpOf Serve))) of ending (inr row) status_is text = absurd of
    by (Some (show (HelpOf Drill))) of ending (inr row) status_is text = absurd of
    by (Some (show (HelpOf Fetch))) of ending (inr row) status_is text = absurd of
    by (Some (show (HelpOf Coverage))) of ending (inr row) status_is text = absurd of
    by (Some (init w)) of ending (inr row) status_is text = absurd of
    by (Some (talk w)) of ending (inr row) status_is text = absurd of
    by (Some (serve w)) of ending (inr row) status_is text = absurd of
    by (Some (drill w)) of ending (inr row) status_is text = absurd of
    by (Some (fetch w)) of ending (inr row) status_is text = absurd of
    by (Some (coverage w)) of ending (inr row) status_is text = absurd of
