-- What the words of `coverage` and the bytes of the file determine: the report, or why there is none.
use Rattle.std.specs.Prelude.{◌≡◌, ◌⊎◌, ℕ, ℤ, List, Result, Ok, Err}
use Rattle.exact_time.specs.declared.error.TextRefusal.TheVariants as text
use Rattle.archive_entry.specs.declared.entry.Entry.{Entry}
use Rattle.archive_log.specs.Opening.{OpensWith, IsStartFault}
use Rattle.archive_log.specs.declared.fault.StartFault.{StartFault}
use Rattle.archive_log.specs.declared.fault.StartFault.TheVariants as start
use Rattle.archive_state.specs.History.{held_of}
use Rattle.command_words.specs.Commands.{CoverageWords}
use Rattle.coverage_report.specs.Answers.{report}
use Rattle.centre_coverage.specs.Words.{IsAsked, RefusesCoverageWords}
use Rattle.centre_coverage.specs.declared.ending.CoverageRefusal.{CoverageRefusal}
use Rattle.centre_coverage.specs.declared.ending.CoverageRefusal.TheVariants.{Value, Order, NoData, TooManyLines, NotAJournal, Damaged}

-- The file opens with a history, and this is the report of the rows that it holds, for the days; or there is no line, or there are
-- more than the limit. Or the file is no archive, for this fault.
abbrev pub ComesOf : CoverageWords → ℤ → ℕ → List ℕ → Result (List ℕ) CoverageRefusal → Type 0
ComesOf w first days file (Ok lines) = (h : List Entry) × OpensWith file h × (report (held_of h) first days w.max_lines ≡ Ok lines)
ComesOf w first days file (Err NoData) = (h : List Entry) × OpensWith file h × (report (held_of h) first days w.max_lines ≡ Err text.Empty)
ComesOf w first days file (Err (TooManyLines lines limit)) =
    (h : List Entry) × OpensWith file h × (report (held_of h) first days w.max_lines ≡ Err (text.TooLarge lines)) × (limit ≡ w.max_lines)
ComesOf w first days file (Err NotAJournal) = IsStartFault file start.NotAJournal
ComesOf w first days file (Err (Damaged at)) = IsStartFault file (start.Damaged at)
ComesOf w first days file (Err (Value word)) = ⊥
ComesOf w first days file (Err Order) = ⊥

-- the words ask for days, and this comes of the file
pub record IsFileAnswer (w : CoverageWords) (file : List ℕ) (answer : Result (List ℕ) CoverageRefusal) : Type 0 where
  pub first : ℤ
  pub days : ℕ
  pub asked : IsAsked w first days
  pub comes : ComesOf w first days file answer

-- the words of `coverage` and the file give this report, or are refused: the words before the file
abbrev pub IsCoverageAnswer : CoverageWords → List ℕ → Result (List ℕ) CoverageRefusal → Type 0
IsCoverageAnswer w file (Ok lines) = IsFileAnswer w file (Ok lines)
IsCoverageAnswer w file (Err refusal) = RefusesCoverageWords w refusal ⊎ IsFileAnswer w file (Err refusal)

-- the file opens with a history, or has a fault
abbrev pub OpensOrNot : List ℕ → Type 0
OpensOrNot file = ((h : List Entry) × OpensWith file h) ⊎ ((fault : StartFault) × IsStartFault file fault)
