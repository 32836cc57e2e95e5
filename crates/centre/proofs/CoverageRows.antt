-- The command `coverage` as rows of the table.
use Rattle.std.proofs.Common.{◌≡◌, inl, inr, ℕ, ℤ, List, Option, Some, Result, Ok, Err, refl, sym, ap, subst, arith}
use Rattle.disk_model.specs.View.{DiskView, WhereTold, file_of}
use Rattle.archive_log.specs.Opening.{OpensWith}
use Rattle.archive_log.specs.declared.fault.StartFault.TheVariants as start
use Rattle.centre_coverage.specs.Answers.{IsCoverageAnswer}
use Rattle.centre_coverage.specs.Table.{CoverageRow, RefusalRow}
use Rattle.centre_coverage.specs.Words.{IsAsked}
use Rattle.centre_coverage.specs.declared.ending.CoverageRefusal.{CoverageRefusal}
use Rattle.centre_coverage.specs.declared.ending.CoverageRefusal.TheVariants as refusal
use Rattle.centre_coverage.specs.declared.ending.CoverageStop.{CoverageStop}
use Rattle.centre_coverage.specs.declared.ending.CoverageStop.TheVariants as stop
use Rattle.centre_coverage.proofs.Decide.{words_decide}
use Rattle.centre_coverage.proofs.OneReport.{one_coverage, some_coverage}
use Rattle.centre_coverage.proofs.Rows.{lines_answer, refusal_answer, refusal_kept}
use Rattle.command_words.specs.Commands.{CoverageWords, coverage}
use Rattle.centre.specs.Coverages.{IsCoverage, IsCovering, CoverageEnding, refusal_for_coverage, stop_for_coverage}
use Rattle.centre.specs.Ends.{answer_by, ending_by}
use Rattle.centre.specs.Given.{World, Given, AreGiven}
use Rattle.centre.specs.Settled.{KeepsFile}
use Rattle.centre.specs.Status.{status_of_refusal, status_of_run}
use Rattle.centre.specs.Table.{ToldFor}
use Rattle.centre.specs.Talks.{OpensOrNot}
use Rattle.centre.specs.declared.ending.Refusal.{Refusal}
use Rattle.centre.specs.declared.ending.Stop.{Stop}
use Rattle.centre.proofs.Answering.{Ended, ended_by, gives, one_by, refuses, six, seven, seventy}
use Rattle.centre.proofs.Files.{file_by, not_opened, told_by as content_by}
use Rattle.centre.proofs.Says as says
use Rattle.centre.proofs.Says.{Says, says_by}
use Rattle.centre.proofs.MemoryTexts.{MayRunOut, told_by}

-- the same disk has the same file
pub keeps_same : {D : Type 0} (view : D → DiskView) (before after : D) → after ≡ before → WhereTold (view before) (KeepsFile (view before) (view after))
keeps_same view before after same =
    let P : _ → Type 0 = λ d. WhereTold (view before) (KeepsFile (view before) (view d)) in
    subst P (sym same) (λ told. record { content = refl; images = λ image left. left })

module _ {D : Type 0} (view : D → DiskView) (w : CoverageWords) (before after : World D) where
  -- want of memory, told in the stead of a refusal with numbers, leaves the sink and the file as they were
  starves_for : (why : CoverageRefusal) → MayRunOut (stop_for_coverage (stop.Refused why)) → RefusalRow view w before.streams.sink after.streams.sink before.disk after.disk why
      → CoverageRow view w before.streams.sink after.streams.sink before.disk after.disk (Err stop.OutOfMemory)
  starves_for (refusal.TooManyLines lines limit) may row = record { disk = row.over.disk; kept = row.puts.1 }
  starves_for (refusal.Damaged at) may row =
      record { disk = record { tells = row.disk.tells; later = row.disk.later; cause = λ bad. absurd bad; told = row.disk.told }; kept = row.kept }
  starves_for (refusal.Value word) may row = absurd may
  starves_for refusal.Order may row = absurd may
  starves_for refusal.NoData may row = absurd may
  starves_for refusal.NotAJournal may row = absurd may

  starves : (why : CoverageStop) → MayRunOut (stop_for_coverage why) → IsCoverage view w before after (Err why) → IsCoverage view w before after (Err stop.OutOfMemory)
  starves (stop.Refused why) may row = record { others = row.others; row = starves_for why may row.row }
  starves stop.WriteFault may row = absurd may
  starves stop.DiskFault may row = absurd may
  starves stop.OutOfMemory may row = absurd may

  pub told_coverage : (stopped told : Stop) → CoverageEnding view w before after (Err stopped) → ToldFor stopped told → CoverageEnding view w before after (Err told)
  told_coverage stopped told row e = told_by stop_for_coverage (IsCoverage view w before after) stop.OutOfMemory refl starves stopped told row e

  -- what an ending says
  untouched : (why : CoverageRefusal) → RefusalRow view w before.streams.sink after.streams.sink before.disk after.disk why → WhereTold (view before.disk) (KeepsFile (view before.disk) (view after.disk))
  untouched (refusal.Value word) row = keeps_same view before.disk after.disk row.disk_same
  untouched refusal.Order row = keeps_same view before.disk after.disk row.disk_same
  untouched refusal.NoData row = not_opened (view before.disk) (view after.disk) ⊥ row.over.disk
  untouched (refusal.TooManyLines lines limit) row = not_opened (view before.disk) (view after.disk) ⊥ row.over.disk
  untouched refusal.NotAJournal row = not_opened (view before.disk) (view after.disk) (start.NotAJournal ≡ start.DiskFault) row.disk
  untouched (refusal.Damaged at) row = not_opened (view before.disk) (view after.disk) (start.Damaged at ≡ start.DiskFault) row.disk

  not_unknown : (why : CoverageRefusal) → status_of_refusal (refusal_for_coverage why) ≡ 1 → ⊥
  not_unknown (refusal.Value word) e = omega (arith, e)
  not_unknown refusal.Order e = omega (arith, e)
  not_unknown refusal.NoData e = omega (arith, e)
  not_unknown (refusal.TooManyLines lines limit) e = omega (arith, e)
  not_unknown refusal.NotAJournal e = omega (arith, e)
  not_unknown (refusal.Damaged at) e = omega (arith, e)

  by : (outcome : Result (Unit {0}) CoverageStop) → IsCoverage view w before after outcome → Says view (Some (coverage w)) before after (status_of_run (ending_by stop_for_coverage outcome))
  by (Ok done) it = says.done view (Some (coverage w)) before after it.row
  by (Err (stop.Refused why)) it =
      says.refused view (Some (coverage w)) before after (refusal_for_coverage why) (refusal_kept view w before.streams.sink after.streams.sink before.disk after.disk why it.row)
      (λ nine. untouched why it.row) (λ one. absurd (not_unknown why one))
  by (Err stop.WriteFault) it = says.cut_short view (Some (coverage w)) before after it.row
  by (Err stop.DiskFault) it = says.disk_stopped view (Some (coverage w)) before after it.row.kept (it.row.disk.cause refl)
  by (Err stop.OutOfMemory) it = says.starved view (Some (coverage w)) before after it.row.kept

  pub coverage_says : (ending : Result (Unit {0}) Stop) → CoverageEnding view w before after ending → Says view (Some (coverage w)) before after (status_of_run ending)
  coverage_says ending row = says_by view (Some (coverage w)) before after stop_for_coverage (IsCoverage view w before after) ending by row

  -- however it ends, the file reads as before
  keeps : (outcome : Result (Unit {0}) CoverageStop) → IsCoverage view w before after outcome → WhereTold (view before.disk) (KeepsFile (view before.disk) (view after.disk))
  keeps (Ok done) it = not_opened (view before.disk) (view after.disk) ⊥ it.row.over.disk
  keeps (Err (stop.Refused why)) it = untouched why it.row
  keeps (Err stop.WriteFault) it = not_opened (view before.disk) (view after.disk) ⊥ it.row.over.disk
  keeps (Err stop.DiskFault) it = not_opened (view before.disk) (view after.disk) (start.DiskFault ≡ start.DiskFault) it.row.disk
  keeps (Err stop.OutOfMemory) it = not_opened (view before.disk) (view after.disk) ⊥ it.row.disk

  pub coverage_keeps : (ending : Result (Unit {0}) Stop) → CoverageEnding view w before after ending → WhereTold (view before.disk) (KeepsFile (view before.disk) (view after.disk))
  coverage_keeps ending row = keeps row.outcome row.row

-- and the answer that it is
module _ {D : Type 0} (view : D → DiskView) (w : CoverageWords) (given : Given) (before after : World D) (e : AreGiven view (Some (coverage w)) before after given) where
  ends : (outcome : Result (Unit {0}) CoverageStop) → IsCoverage view w before after outcome → Ended (Some (coverage w)) given (ending_by stop_for_coverage outcome)
  ends (Ok done) it =
      let row = it.row in
      let P : List ℕ → Type 0 = λ file. OpensWith file row.over.history in
      let opens : P given.file = subst P (file_by e) (row.over.opens (content_by e)) in
      gives (Some (coverage w)) given row.puts.0
      (record { own = Ok row.puts.0; is = lines_answer view w before.streams.sink after.streams.sink before.disk after.disk row given.file opens; same = refl })
  ends (Err (stop.Refused why)) it =
      let P : List ℕ → Type 0 = λ file. IsCoverageAnswer w file (Err why) in
      let is : P given.file = subst P (file_by e) (refusal_answer view w before.streams.sink after.streams.sink before.disk after.disk why it.row (content_by e)) in
      refuses (Some (coverage w)) given (refusal_for_coverage why) (record { own = Err why; is = is; same = refl })
  ends (Err stop.WriteFault) it = inl six
  ends (Err stop.DiskFault) it = inl seven
  ends (Err stop.OutOfMemory) it = inl seventy

  pub coverage_ended : (ending : Result (Unit {0}) Stop) → CoverageEnding view w before after ending → Ended (Some (coverage w)) given ending
  coverage_ended ending row = ended_by (Some (coverage w)) given stop_for_coverage (IsCoverage view w before after) ending ends row

-- there is one answer, and no other
pub one_covering : (w : CoverageWords) (file : List ℕ) (a b : Result (List ℕ) Refusal) → IsCovering w file a → IsCovering w file b → a ≡ b
one_covering w file a b p q = one_by refusal_for_coverage (IsCoverageAnswer w file) (one_coverage w file) a b p q

pub some_covering : (w : CoverageWords) (file : List ℕ) → ((first : ℤ) (days : ℕ) → IsAsked w first days → OpensOrNot file) → (answer : Result (List ℕ) Refusal) × IsCovering w file answer
some_covering w file opens = elim (words_decide w) [
  | inl refused ↦ (Err (refusal_for_coverage refused.0), record { own = Err refused.0; is = inl refused.1; same = refl })
  | inr asked ↦
      let some = some_coverage w file asked.0 asked.1 asked.2 (opens asked.0 asked.1 asked.2) in
      (answer_by refusal_for_coverage some.0, record { own = some.0; is = some.1; same = refl })
]
