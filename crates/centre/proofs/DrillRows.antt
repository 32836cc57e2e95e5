-- The command `drill` as rows of the table.
use Rattle.std.proofs.Common.{◌≡◌, ◌⊎◌, ◌∙◌, inl, inr, ℕ, List, [], Option, Some, Result, Ok, Err, refl, sym, ap, arith}
use Rattle.disk_model.specs.View.{DiskView, WhereTold, file_of}
use Rattle.centre_drill.specs.Drill.{HoldsHistory}
use Rattle.centre_drill.specs.History.{made_history}
use Rattle.centre_drill.specs.declared.ending.DrillStop.{DrillStop}
use Rattle.centre_drill.specs.declared.ending.DrillStop.TheVariants as drilled
use Rattle.command_words.specs.Commands.{DrillWords, drill}
use Rattle.centre.specs.Drills.{DrillEnding, IsDrill, drill_text, stop_for_drill}
use Rattle.centre.specs.Ends.{ending_by}
use Rattle.centre.specs.Given.{World, Given, AreGiven}
use Rattle.centre.specs.Status.{status_of_run}
use Rattle.centre.specs.Table.{ToldFor}
use Rattle.centre.specs.declared.ending.Refusal.TheVariants.{NotEmpty}
use Rattle.centre.specs.declared.ending.Stop.{Stop}
use Rattle.centre.proofs.Answering.{Ended, ended_by, gives, refuses, six, seven, seventy}
use Rattle.centre.proofs.Files.{file_by, had_told, nothing_given, some_bytes, told_by as content_by}
use Rattle.centre.proofs.Says as says
use Rattle.centre.proofs.Says.{Says, says_by}
use Rattle.centre.proofs.MemoryTexts.{MayRunOut, told_by}

-- no text of a drill has numbers
starves : {D : Type 0} (view : D → DiskView) (w : DrillWords) (before after : World D) (stop : DrillStop) → MayRunOut (stop_for_drill stop) → IsDrill view w before after (Err stop) → IsDrill view w before after (Err drilled.OutOfMemory)
starves view w before after drilled.WriteFault may row = absurd may
starves view w before after drilled.DiskFault may row = absurd may
starves view w before after (drilled.NotEmpty length) may row = absurd may
starves view w before after drilled.OutOfMemory may row = absurd may

pub told_drill : {D : Type 0} (view : D → DiskView) (w : DrillWords) (before after : World D) (stop told : Stop) → DrillEnding view w before after (Err stop) → ToldFor stop told → DrillEnding view w before after (Err told)
told_drill view w before after stop told row e = told_by stop_for_drill (IsDrill view w before after) drilled.OutOfMemory refl (starves view w before after) stop told row e

-- what an ending says
module _ {D : Type 0} (view : D → DiskView) (w : DrillWords) (before after : World D) where
  by : (outcome : Result (Unit {0}) DrillStop) → IsDrill view w before after outcome → Says view (Some (drill w)) before after (status_of_run (ending_by stop_for_drill outcome))
  by (Ok done) row =
      says.done view (Some (drill w)) before after (record {
        given = nothing_given;
        body = drill_text w.records;
        had = had_told (view before.disk).content [] (λ told. (row.row.made.told told).empty);
        answer = inl (refl, refl);
        output = row.row.told;
      })
  by (Err drilled.WriteFault) row =
      says.cut_short view (Some (drill w)) before after (record {
        given = nothing_given;
        body = drill_text w.records;
        had = had_told (view before.disk).content [] (λ told. (row.row.made.told told).empty);
        answer = inl (refl, refl);
        rose = row.row.told.0;
        output = row.row.told.1;
      })
  by (Err drilled.DiskFault) row = says.disk_stopped view (Some (drill w)) before after row.row.silent (row.row.run.cause tt)
  by (Err (drilled.NotEmpty length)) row =
      says.refused view (Some (drill w)) before after NotEmpty row.row.silent
      (λ e told. let kept = (row.row.run.told told).kept in record { content = kept.content; images = kept.fewer }) (λ e. absurd (omega (arith, e)))
  by (Err drilled.OutOfMemory) row = says.starved view (Some (drill w)) before after row.row.silent

  pub drill_says : (ending : Result (Unit {0}) Stop) → DrillEnding view w before after ending → Says view (Some (drill w)) before after (status_of_run ending)
  drill_says ending row = says_by view (Some (drill w)) before after stop_for_drill (IsDrill view w before after) ending by row

  -- with status 0 or 6 the archive of made records is on the disk
  holds : (outcome : Result (Unit {0}) DrillStop) → IsDrill view w before after outcome → (status_of_run (ending_by stop_for_drill outcome) ≡ 0) ⊎ (status_of_run (ending_by stop_for_drill outcome) ≡ 6)
      → WhereTold (view before.disk) (HoldsHistory (view after.disk) (made_history w.records))
  holds (Ok done) row how told = (row.row.made.told told).holds
  holds (Err drilled.WriteFault) row how told = (row.row.made.told told).holds
  holds (Err drilled.DiskFault) row how told = absurd (elim how [ inl zero ↦ omega (arith, zero) | inr six ↦ omega (arith, six) ])
  holds (Err (drilled.NotEmpty length)) row how told = absurd (elim how [ inl zero ↦ omega (arith, zero) | inr six ↦ omega (arith, six) ])
  holds (Err drilled.OutOfMemory) row how told = absurd (elim how [ inl zero ↦ omega (arith, zero) | inr six ↦ omega (arith, six) ])

  pub drill_held : (ending : Result (Unit {0}) Stop) → DrillEnding view w before after ending → (status_of_run ending ≡ 0) ⊎ (status_of_run ending ≡ 6)
      → WhereTold (view before.disk) (HoldsHistory (view after.disk) (made_history w.records))
  drill_held ending row how =
      let same = sym (ap status_of_run row.same) in
      holds row.outcome row.row (elim how [ inl zero ↦ inl (same ∙ zero) | inr six ↦ inr (same ∙ six) ])

-- and the answer that it is
module _ {D : Type 0} (view : D → DiskView) (w : DrillWords) (given : Given) (before after : World D) (e : AreGiven view (Some (drill w)) before after given) where
  ends : (outcome : Result (Unit {0}) DrillStop) → IsDrill view w before after outcome → Ended (Some (drill w)) given (ending_by stop_for_drill outcome)
  ends (Ok done) row =
      let it = row.row.made.told (content_by e) in
      gives (Some (drill w)) given (drill_text w.records) (inl (sym (file_by e) ∙ it.empty, refl))
  ends (Err drilled.WriteFault) row = inl six
  ends (Err drilled.DiskFault) row = inl seven
  ends (Err (drilled.NotEmpty length)) row =
      let was = row.row.run.told (content_by e) in
      refuses (Some (drill w)) given NotEmpty (inr (λ none. some_bytes length (file_of (view before.disk)) was.len_is was.some (file_by e ∙ none), refl))
  ends (Err drilled.OutOfMemory) row = inl seventy

  pub drill_ended : (ending : Result (Unit {0}) Stop) → DrillEnding view w before after ending → Ended (Some (drill w)) given ending
  drill_ended ending row = ended_by (Some (drill w)) given stop_for_drill (IsDrill view w before after) ending ends row
