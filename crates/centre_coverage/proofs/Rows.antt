-- How a run of `coverage` comes to its row, and that the row is the answer of the words and the file.
use Rattle.std.proofs.Common.{◌≡◌, inl, inr, ℕ, ℤ, List, Result, Ok, Err, refl, sym, subst}
use Rattle.disk_model.specs.View.{DiskView, WhereTold, file_of}
use Rattle.streams.specs.View.{StreamView}
use Rattle.mseed_header.specs.declared.row.Row.{Row}
use Rattle.exact_time.specs.declared.error.TextRefusal.{TextRefusal}
use Rattle.exact_time.specs.declared.error.TextRefusal.TheVariants as text
use Rattle.archive_log.specs.Opening.{OpensWith}
use Rattle.archive_log.specs.declared.fault.StartFault.{StartFault}
use Rattle.archive_log.specs.declared.fault.StartFault.TheVariants as start
use Rattle.command_words.specs.Commands.{CoverageWords}
use Rattle.coverage_report.specs.Answers.{report, RefusesAs}
use Rattle.centre_coverage.specs.Answers.{ComesOf, IsFileAnswer, IsCoverageAnswer}
use Rattle.centre_coverage.specs.Table.{CoverageRow, IsNotOpened, IsOpened, IsReporting, PutsReport, RefusalRow, stop_for_start, stop_for_text}
use Rattle.centre_coverage.specs.Words.{RefusesCoverageWords}
use Rattle.centre_coverage.specs.declared.ending.CoverageRefusal.{CoverageRefusal}
use Rattle.centre_coverage.specs.declared.ending.CoverageRefusal.TheVariants.{Value, Order, NoData, TooManyLines, NotAJournal, Damaged}
use Rattle.centre_coverage.specs.declared.ending.CoverageStop.{CoverageStop}
use Rattle.centre_coverage.specs.declared.ending.CoverageStop.TheVariants.{Refused, WriteFault, DiskFault, OutOfMemory}

-- a refusal of the report puts nothing
by_refusal : (rows : List Row) (first : ℤ) (days most : ℕ) (old : StreamView) (refusal : TextRefusal) → RefusesAs (report rows first days most) refusal
    → PutsReport rows first days most old old (Err (stop_for_text most refusal))
by_refusal rows first days most old text.Empty h = (h, refl)
by_refusal rows first days most old (text.TooLarge lines) h = ((h, refl), refl)
by_refusal rows first days most old text.OutOfMemory h = refl

pub refused_puts : (rows : List Row) (first : ℤ) (days most : ℕ) (old : StreamView) (refusal : TextRefusal) (stop : CoverageStop) → stop ≡ stop_for_text most refusal → RefusesAs (report rows first days most) refusal
    → PutsReport rows first days most old old (Err stop)
refused_puts rows first days most old refusal stop is h =
    subst (λ (s : CoverageStop). PutsReport rows first days most old old (Err s)) (sym is) (by_refusal rows first days most old refusal h)

module _ {D : Type 0} (view : D → DiskView) (w : CoverageWords) (old : StreamView) (before : D) where
  -- words that are refused
  pub words_row : (refusal : CoverageRefusal) → RefusesCoverageWords w refusal → CoverageRow view w old old before before (Err (Refused refusal))
  words_row (Value word) h = record { why = h; sink_same = refl; disk_same = refl }
  words_row Order h = record { why = h; sink_same = refl; disk_same = refl }
  words_row NoData h = absurd h
  words_row (TooManyLines lines limit) h = absurd h
  words_row NotAJournal h = absurd h
  words_row (Damaged at) h = absurd h

  -- an archive that wasn't opened
  by_fault : (after : D) (fault : StartFault) → IsNotOpened view w old old before after fault → CoverageRow view w old old before after (Err (stop_for_start fault))
  by_fault after start.DiskFault h = h
  by_fault after start.NotAJournal h = h
  by_fault after (start.Damaged at) h = h
  by_fault after start.OutOfMemory h =
      record { disk = record { tells = h.disk.tells; later = h.disk.later; cause = λ bad. absurd bad; told = h.disk.told }; kept = h.kept }

  pub fault_row : (after : D) (fault : StartFault) (stop : CoverageStop) → stop ≡ stop_for_start fault → IsNotOpened view w old old before after fault → CoverageRow view w old old before after (Err stop)
  fault_row after fault stop is h = subst (λ (s : CoverageStop). CoverageRow view w old old before after (Err s)) (sym is) (by_fault after fault h)

  -- an archive that was opened
  pub opened_row : (new : StreamView) (after : D) (ending : Result (Unit {0}) CoverageStop) → IsReporting view w old new before after ending → CoverageRow view w old new before after ending
  opened_row new after (Ok done) h = h
  opened_row new after (Err (Refused NoData)) h = h
  opened_row new after (Err (Refused (TooManyLines lines limit))) h = h
  opened_row new after (Err (Refused (Value word))) h = absurd h.puts.0
  opened_row new after (Err (Refused Order)) h = absurd h.puts.0
  opened_row new after (Err (Refused NotAJournal)) h = absurd h.puts.0
  opened_row new after (Err (Refused (Damaged at))) h = absurd h.puts.0
  opened_row new after (Err WriteFault) h = h
  opened_row new after (Err DiskFault) h = absurd h.puts
  opened_row new after (Err OutOfMemory) h = record { disk = h.over.disk; kept = h.puts }

-- ---- the row is the answer

module _ {D : Type 0} (view : D → DiskView) (w : CoverageWords) (old new : StreamView) (before after : D) where
  reported : (over : IsOpened view w before after) (answer : Result (List ℕ) CoverageRefusal) (file : List ℕ) → ComesOf w over.first over.days file answer → IsFileAnswer w file answer
  reported over answer file comes = record { first = over.first; days = over.days; asked = over.asked; comes = comes }

  pub lines_answer : (h : IsReporting view w old new before after (Ok tt)) (file : List ℕ) → OpensWith file h.over.history → IsCoverageAnswer w file (Ok h.puts.0)
  lines_answer h file opens = reported h.over (Ok h.puts.0) file (h.over.history, opens, h.puts.1)

  pub part_answer : (h : IsReporting view w old new before after (Err WriteFault)) (file : List ℕ) → OpensWith file h.over.history → IsCoverageAnswer w file (Ok h.puts.lines)
  part_answer h file opens = reported h.over (Ok h.puts.lines) file (h.over.history, opens, h.puts.report_is)

  -- where the file is told
  pub refusal_answer : (refusal : CoverageRefusal) → RefusalRow view w old new before after refusal → WhereTold (view before) (IsCoverageAnswer w (file_of (view before)) (Err refusal))
  refusal_answer (Value word) h told = inl h.why
  refusal_answer Order h told = inl h.why
  refusal_answer NoData h told = inr (reported h.over (Err NoData) (file_of (view before)) (h.over.history, h.over.opens told, h.puts.0))
  refusal_answer (TooManyLines lines limit) h told =
      inr (reported h.over (Err (TooManyLines lines limit)) (file_of (view before)) (h.over.history, h.over.opens told, h.puts.0.0, h.puts.0.1))
  refusal_answer NotAJournal h told = inr (record { first = h.first; days = h.days; asked = h.asked; comes = h.why told })
  refusal_answer (Damaged at) h told = inr (record { first = h.first; days = h.days; asked = h.asked; comes = h.why told })

  -- a refusal leaves the sink as it was, and the file too
  pub refusal_kept : (refusal : CoverageRefusal) → RefusalRow view w old new before after refusal → new ≡ old
  refusal_kept (Value word) h = h.sink_same
  refusal_kept Order h = h.sink_same
  refusal_kept NoData h = h.puts.1
  refusal_kept (TooManyLines lines limit) h = h.puts.1
  refusal_kept NotAJournal h = h.kept
  refusal_kept (Damaged at) h = h.kept
