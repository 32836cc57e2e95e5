-- The command `drill`: what the file determines of it, and its rows of the table.
use Rattle.std.specs.Prelude.{◌≡◌, ◌≢◌, ◌⊎◌, ℕ, List, [], Result, Ok, Err}
use Rattle.disk_model.specs.View.{DiskView}
use Rattle.centre_drill.specs.Drill.{DrillRow}
use Rattle.centre_drill.specs.Figures.{figures_of, figures_text}
use Rattle.centre_drill.specs.History.{made_history}
use Rattle.centre_drill.specs.declared.ending.DrillStop.{DrillStop}
use Rattle.centre_drill.specs.declared.ending.DrillStop.TheVariants as drill
use Rattle.command_words.specs.Commands.{DrillWords}
use Rattle.centre_select.specs.Table.{streams}
use Rattle.centre.specs.Ends.{EndsBy}
use Rattle.centre.specs.Given.{World}
use Rattle.centre.specs.declared.ending.Refusal.{Refusal}
use Rattle.centre.specs.declared.ending.Refusal.TheVariants.{NotEmpty}
use Rattle.centre.specs.declared.ending.Stop.{Stop}
use Rattle.centre.specs.declared.ending.Stop.TheVariants.{Refused, WriteFault, DiskFault, OutOfMemory}

-- what is told of the archive of so many made records
abbrev pub drill_text : ℕ → List ℕ
drill_text records = figures_text (figures_of (made_history records))

-- the archive of so many records is made in an empty file, and its figures are told
abbrev pub IsDrillAnswer : ℕ → List ℕ → Result (List ℕ) Refusal → Type 0
IsDrillAnswer records file answer =
    ((file ≡ []) × (answer ≡ Ok (drill_text records))) ⊎ ((file ≢ []) × (answer ≡ Err NotEmpty))

-- how a drill stops a run
abbrev pub stop_for_drill : DrillStop → Stop
stop_for_drill drill.WriteFault = WriteFault
stop_for_drill drill.DiskFault = DiskFault
stop_for_drill (drill.NotEmpty length) = Refused NotEmpty
stop_for_drill drill.OutOfMemory = OutOfMemory

-- What `drill` does, with this outcome: nothing but the disk and the sink is called.
pub record IsDrill {D : Type 0} (view : D → DiskView) (w : DrillWords) (before after : World D) (outcome : Result (Unit {0}) DrillStop) : Type 0 where
  pub others : after ≡ record before { streams = streams before.streams.source after.streams.sink; disk = after.disk }
  pub row : DrillRow w.records before.streams.sink after.streams.sink (view before.disk) (view after.disk) outcome

-- the rows of `drill`
abbrev pub DrillEnding : {D : Type 0} → (D → DiskView) → DrillWords → World D → World D → Result (Unit {0}) Stop → Type 0
DrillEnding view w before after ending = EndsBy stop_for_drill (IsDrill view w before after) ending
