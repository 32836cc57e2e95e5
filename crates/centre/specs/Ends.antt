-- How a command of another crate ends a run: each of its own stops is one of the run.
use Rattle.std.specs.Prelude.{◌≡◌, ℕ, List, Result, Ok, Err}
use Rattle.centre.specs.declared.ending.Refusal.{Refusal}
use Rattle.centre.specs.declared.ending.Stop.{Stop}

-- the ending of a run for an outcome of a command
abbrev pub ending_by : {E : Type 0} → (E → Stop) → Result (Unit {0}) E → Result (Unit {0}) Stop
ending_by stop_for (Ok done) = Ok done
ending_by stop_for (Err why) = Err (stop_for why)

-- the run ended for an outcome that has its row
pub record EndsBy {E : Type 0} (stop_for : E → Stop) (Row : Result (Unit {0}) E → Type 0) (ending : Result (Unit {0}) Stop) : Type 0 where
  pub outcome : Result (Unit {0}) E
  pub row : Row outcome
  pub same : ending ≡ ending_by stop_for outcome

-- the answer of a run for one of a command
abbrev pub answer_by : {E : Type 0} → (E → Refusal) → Result (List ℕ) E → Result (List ℕ) Refusal
answer_by refusal_for (Ok body) = Ok body
answer_by refusal_for (Err why) = Err (refusal_for why)

-- what is answered is what a command answers
pub record AnswersBy {E : Type 0} (refusal_for : E → Refusal) (Is : Result (List ℕ) E → Type 0) (answer : Result (List ℕ) Refusal) : Type 0 where
  pub own : Result (List ℕ) E
  pub is : Is own
  pub same : answer ≡ answer_by refusal_for own
