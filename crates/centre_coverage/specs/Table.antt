-- The rows of `coverage`: how it ends, why, and what it leaves.
use Rattle.std.specs.Prelude.{◌≡◌, ℕ, ℤ, List, Result, Ok, Err}
use Rattle.exact_time.specs.Causes.{Rose}
use Rattle.exact_time.specs.declared.error.TextRefusal.{TextRefusal}
use Rattle.exact_time.specs.declared.error.TextRefusal.TheVariants as text
use Rattle.disk_model.specs.Effects.{WritesNothing}
use Rattle.disk_model.specs.View.{DiskView, WhereTold, file_of}
use Rattle.streams.specs.Effects.{Grew, WritesPart}
use Rattle.streams.specs.View.{StreamView}
use Rattle.mseed_header.specs.declared.row.Row.{Row}
use Rattle.archive_entry.specs.declared.entry.Entry.{Entry}
use Rattle.archive_log.specs.Opening.{OpensWith, ExplainsStart}
use Rattle.archive_log.specs.declared.fault.StartFault.{StartFault}
use Rattle.archive_log.specs.declared.fault.StartFault.TheVariants as start
use Rattle.archive_state.specs.History.{held_of}
use Rattle.command_words.specs.Commands.{CoverageWords}
use Rattle.coverage_report.specs.Answers.{report}
use Rattle.centre_coverage.specs.Words.{IsAsked, RefusesCoverageWords}
use Rattle.centre_coverage.specs.declared.ending.CoverageRefusal.{CoverageRefusal}
use Rattle.centre_coverage.specs.declared.ending.CoverageRefusal.TheVariants.{Value, Order, NoData, TooManyLines, NotAJournal, Damaged}
use Rattle.centre_coverage.specs.declared.ending.CoverageStop.{CoverageStop}
use Rattle.centre_coverage.specs.declared.ending.CoverageStop.TheVariants.{Refused, WriteFault, DiskFault, OutOfMemory}

-- how a refusal of the report stops the command
abbrev pub stop_for_text : ℕ → TextRefusal → CoverageStop
stop_for_text limit text.Empty = Refused NoData
stop_for_text limit (text.TooLarge lines) = Refused (TooManyLines lines limit)
stop_for_text limit text.OutOfMemory = OutOfMemory

-- how a fault of opening stops it
abbrev pub stop_for_start : StartFault → CoverageStop
stop_for_start start.DiskFault = DiskFault
stop_for_start start.NotAJournal = Refused NotAJournal
stop_for_start (start.Damaged at) = Refused (Damaged at)
stop_for_start start.OutOfMemory = OutOfMemory

-- why rows have no report
abbrev pub ReportRefuses : List Row → ℤ → ℕ → ℕ → CoverageRefusal → Type 0
ReportRefuses rows first days most NoData = report rows first days most ≡ Err text.Empty
ReportRefuses rows first days most (TooManyLines lines limit) = (report rows first days most ≡ Err (text.TooLarge lines)) × (limit ≡ most)
ReportRefuses rows first days most _ = ⊥

-- the sink failed, after a first part of the report
pub record IsCutShort (rows : List Row) (first : ℤ) (days most : ℕ) (old new : StreamView) : Type 0 where
  pub lines : List ℕ
  pub report_is : report rows first days most ≡ Ok lines
  pub rose : Rose old.faults new.faults
  pub output : WritesPart old.written new.written lines

-- the report of rows is put on the sink, or why it isn't
abbrev pub PutsReport : List Row → ℤ → ℕ → ℕ → StreamView → StreamView → Result (Unit {0}) CoverageStop → Type 0
PutsReport rows first days most old new (Ok done) = (lines : List ℕ) × (report rows first days most ≡ Ok lines) × Grew old.written new.written lines
PutsReport rows first days most old new (Err (Refused refusal)) = ReportRefuses rows first days most refusal × (new ≡ old)
PutsReport rows first days most old new (Err WriteFault) = IsCutShort rows first days most old new
PutsReport rows first days most old new (Err DiskFault) = ⊥
PutsReport rows first days most old new (Err OutOfMemory) = new ≡ old

-- The words ask for days, and the archive was opened: the history is the one that the file's bytes spell. The disk was given no
-- write, so the file reads as before.
pub record IsOpened {D : Type 0} (view : D → DiskView) (w : CoverageWords) (before after : D) : Type 0 where
  pub first : ℤ
  pub days : ℕ
  pub asked : IsAsked w first days
  pub history : List Entry
  pub opens : WhereTold (view before) (OpensWith (file_of (view before)) history)
  pub disk : WritesNothing (view before) (view after) ⊥

-- the archive was opened, and its report put on the sink, with this ending
pub record IsReporting {D : Type 0} (view : D → DiskView) (w : CoverageWords) (old new : StreamView) (before after : D) (ending : Result (Unit {0}) CoverageStop) : Type 0 where
  pub over : IsOpened view w before after
  pub puts : PutsReport (held_of over.history) over.first over.days w.max_lines old new ending

-- the words are refused: the disk isn't called, and nothing is written
pub record IsRefusedByWords {D : Type 0} (w : CoverageWords) (old new : StreamView) (before after : D) (refusal : CoverageRefusal) : Type 0 where
  pub why : RefusesCoverageWords w refusal
  pub sink_same : new ≡ old
  pub disk_same : after ≡ before

-- the words ask for days, and the archive wasn't opened, for this fault: the disk was given no write, and nothing is written
pub record IsNotOpened {D : Type 0} (view : D → DiskView) (w : CoverageWords) (old new : StreamView) (before after : D) (fault : StartFault) : Type 0 where
  pub first : ℤ
  pub days : ℕ
  pub asked : IsAsked w first days
  pub why : WhereTold (view before) (ExplainsStart (file_of (view before)) fault)
  pub disk : WritesNothing (view before) (view after) (fault ≡ start.DiskFault)
  pub kept : new ≡ old

-- memory ran out: the disk was given no write, and nothing is written
pub record IsStarved {D : Type 0} (view : D → DiskView) (old new : StreamView) (before after : D) : Type 0 where
  pub disk : WritesNothing (view before) (view after) ⊥
  pub kept : new ≡ old

-- why nothing is reported: the words, the file, or what the history holds
abbrev pub RefusalRow : {D : Type 0} → (D → DiskView) → CoverageWords → StreamView → StreamView → D → D → CoverageRefusal → Type 0
RefusalRow view w old new before after (Value word) = IsRefusedByWords w old new before after (Value word)
RefusalRow view w old new before after Order = IsRefusedByWords w old new before after Order
RefusalRow view w old new before after NoData = IsReporting view w old new before after (Err (Refused NoData))
RefusalRow view w old new before after (TooManyLines lines limit) = IsReporting view w old new before after (Err (Refused (TooManyLines lines limit)))
RefusalRow view w old new before after NotAJournal = IsNotOpened view w old new before after start.NotAJournal
RefusalRow view w old new before after (Damaged at) = IsNotOpened view w old new before after (start.Damaged at)

-- the rows of `coverage`; want of memory is free, and leaves the sink and the file as they were
abbrev pub CoverageRow : {D : Type 0} → (D → DiskView) → CoverageWords → StreamView → StreamView → D → D → Result (Unit {0}) CoverageStop → Type 0
CoverageRow view w old new before after (Ok done) = IsReporting view w old new before after (Ok done)
CoverageRow view w old new before after (Err (Refused refusal)) = RefusalRow view w old new before after refusal
CoverageRow view w old new before after (Err WriteFault) = IsReporting view w old new before after (Err WriteFault)
CoverageRow view w old new before after (Err DiskFault) = IsNotOpened view w old new before after start.DiskFault
CoverageRow view w old new before after (Err OutOfMemory) = IsStarved view old new before after
