-- The rows in which a drill ends.
use Rattle.std.proofs.Common.{◌≡◌, ◌∙◌, ℕ, List, Result, Ok, Err, refl, sym, ap, subst}
use Rattle.std.proofs.lemmas.List.{append-nil}
use Rattle.disk_model.specs.View.{DiskView, IsHonest, WhereTold, DiskRun}
use Rattle.archive_entry.specs.declared.entry.Entry.{Entry}
use Rattle.archive_log.specs.Archive.{Stands}
use Rattle.archive_state.specs.History.{arrived_of}
use Rattle.archive_post.specs.Waiting.{committed}
use Rattle.archive_post.specs.declared.kept.Intake.{Intake}
use Rattle.streams.specs.View.{StreamView}
use Rattle.centre_drill.specs.Drill.{DrillRow, IsArchiveMade, TellsFigures}
use Rattle.centre_drill.specs.Figures.{figures_of, figures_with}
use Rattle.centre_drill.specs.History.{made_history}
use Rattle.centre_drill.specs.Making.{Begins, IsSilentStop, IsUnderWay}
use Rattle.centre_drill.specs.declared.ending.DrillStop.{DrillStop}
use Rattle.centre_drill.specs.declared.ending.DrillStop.TheVariants.{WriteFault, DiskFault, NotEmpty, OutOfMemory}
use Rattle.centre_drill.specs.declared.figures.Figures.{Figures}
use Rattle.centre_drill.proofs.AllHeld.{all_held}
use Rattle.centre_drill.proofs.Steps.{holds}

-- no archive was made
pub stopped_row : {T : Type 0} (count : ℕ) (sink : StreamView) (disk left : DiskView) (stop : DrillStop) → IsSilentStop stop → Begins {T = T} disk left (Err stop) → DrillRow count sink sink disk left (Err stop)
stopped_row count sink disk left DiskFault silent run = record { silent = refl; run = record { tells = run.tells; later = run.later; cause = λ failed. run.cause refl; told = λ told. tt } }
stopped_row count sink disk left (NotEmpty len) silent run = record {
  silent = refl;
  run = record {
    tells = run.tells;
    later = run.later;
    cause = λ failed. absurd failed;
    told = λ told. let begun = run.told told in record { len_is = begun.fault.0; some = begun.fault.1; kept = begun.kept len refl };
  };
}
stopped_row count sink disk left OutOfMemory silent run = record { silent = refl; run = record { tells = run.tells; later = run.later; cause = λ failed. absurd failed; told = λ told. tt } }
stopped_row count sink disk left WriteFault silent run = absurd silent

module _ {D T : Type 0} (view : D → DiskView) (count : ℕ) (before : DiskView) (intake : Intake D) (state : List Entry) (left : D) (made : T)
    (begins : Begins before (view intake.archive.disk) (Ok made)) (way : IsUnderWay view intake state) (state_is : state ≡ made_history count) (left_is : left ≡ intake.archive.disk)
    (honest : WhereTold (view intake.archive.disk) (IsHonest (view intake.archive.disk))) (stands : WhereTold (view intake.archive.disk) (Stands view intake.archive)) where
  history_is : WhereTold (view intake.archive.disk) (intake.archive.history ≡ made_history count)
  history_is told = way.stands.history told ∙ ap (committed state) way.nothing.0 ∙ append-nil state ∙ state_is

  made_run : DiskRun before (view intake.archive.disk) ⊥ (IsArchiveMade count before (view intake.archive.disk))
  made_run = record {
    tells = begins.tells;
    later = begins.later;
    cause = λ failed. absurd failed;
    told = λ told.
        let here = begins.tells ∙ told in
        record { empty = (begins.told told).empty; holds = holds view intake.archive (made_history count) (honest here) (stands here) way.running (history_is here) };
  }

  run : DiskRun before (view left) ⊥ (IsArchiveMade count before (view left))
  run = subst (λ (d : D). DiskRun before (view d) ⊥ (IsArchiveMade count before (view d))) (sym left_is) made_run

  figures_are : figures_with state (arrived_of state) ≡ figures_of (made_history count)
  figures_are = (λ i. figures_with (state_is i) (arrived_of (state_is i))) ∙ ap (figures_with (made_history count)) (sym (all_held count))

  pub made_row : (sink sunk : StreamView) (ending : Result (Unit {0}) DrillStop) → TellsFigures (figures_with state (arrived_of state)) sink sunk ending → DrillRow count sink sunk before (view left) ending
  made_row sink sunk (Ok done) told = record { made = run; told = subst (λ (f : Figures). TellsFigures f sink sunk (Ok done)) figures_are told }
  made_row sink sunk (Err WriteFault) told = record { made = run; told = subst (λ (f : Figures). TellsFigures f sink sunk (Err WriteFault)) figures_are told }
  made_row sink sunk (Err OutOfMemory) told = record { silent = told; run = record { tells = run.tells; later = run.later; cause = λ failed. absurd failed; told = λ t. tt } }
  made_row sink sunk (Err DiskFault) told = absurd told
  made_row sink sunk (Err (NotEmpty len)) told = absurd told
