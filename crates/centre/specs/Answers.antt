-- What the words and what they make the program read determine: the body that is written, or why there is none.
use Rattle.std.specs.Prelude.{◌≡◌, ◌≢◌, ◌⊎◌, ℕ, ℤ, List, [], Option, Some, None, Result, Ok, Err, ⊤}
use Rattle.command_words.specs.Commands.{Command, select, init, talk, serve, drill, fetch, coverage, show}
use Rattle.centre_coverage.specs.Words.{IsAsked as AskForDays}
use Rattle.centre_fetch.specs.Answers.{IsHeardOut}
use Rattle.centre_fetch.specs.Words.{IsAsked}
use Rattle.split_fetch.specs.declared.window.Window.{Window}
use Rattle.centre.specs.Coverages.{IsCovering}
use Rattle.centre.specs.Drills.{IsDrillAnswer}
use Rattle.centre.specs.Fetches.{IsFetching}
use Rattle.centre.specs.Given.{Given}
use Rattle.centre.specs.Selects.{IsSelection}
use Rattle.centre.specs.Serves.{IsServeAnswer}
use Rattle.centre.specs.Shown.{text_shown}
use Rattle.centre.specs.Talks.{IsTalkAnswer, OpensOrNot}
use Rattle.centre.specs.declared.ending.Refusal.{Refusal}
use Rattle.centre.specs.declared.ending.Refusal.TheVariants.{UnknownCommand, NotEmpty}

-- an archive is made in an empty file, and nothing is written on the sink
abbrev pub IsInitAnswer : List ℕ → Result (List ℕ) Refusal → Type 0
IsInitAnswer file answer = ((file ≡ []) × (answer ≡ Ok [])) ⊎ ((file ≢ []) × (answer ≡ Err NotEmpty))

-- What the words and what is read determine, by cases on the command: what the sink gets, or why it gets nothing. What
-- `talk` writes isn't determined by them alone; a session that is served to its end counts as nothing.
abbrev pub IsAnswer : Option Command → Given → Result (List ℕ) Refusal → Type 0
IsAnswer None given answer = answer ≡ Err UnknownCommand
IsAnswer (Some (show shown)) given answer = answer ≡ Ok (text_shown shown)
IsAnswer (Some (select w)) given answer = IsSelection w given.input answer
IsAnswer (Some (init w)) given answer = IsInitAnswer given.file answer
IsAnswer (Some (talk w)) given answer = IsTalkAnswer given.file given.input answer
IsAnswer (Some (serve w)) given answer = IsServeAnswer given.file answer
IsAnswer (Some (drill w)) given answer = IsDrillAnswer w.records given.file answer
IsAnswer (Some (fetch w)) given answer = IsFetching w given.heard answer
IsAnswer (Some (coverage w)) given answer = IsCovering w given.file answer

-- The file of `talk` and of `serve` opens with a history or has its fault, and so does that of `coverage` where it has days to ask
-- for; where `fetch` has a window to ask for, what it heard leads to an end. The other commands read whatever there is.
abbrev pub HasOpening : Option Command → Given → Type 0
HasOpening (Some (serve w)) given = OpensOrNot given.file
HasOpening (Some (talk w)) given = OpensOrNot given.file
HasOpening (Some (fetch w)) given = (window : Window) → IsAsked w window → IsHeardOut w given.heard
HasOpening (Some (coverage w)) given = (first : ℤ) (days : ℕ) → AskForDays w first days → OpensOrNot given.file
HasOpening _ given = ⊤
