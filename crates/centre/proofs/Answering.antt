-- How a run ended by an answer, and that a command's one answer is one of the run.
use Rattle.std.proofs.Common.{◌≡◌, ◌⊎◌, ◌∙◌, inl, inr, ℕ, List, Option, Result, Ok, Err, refl, sym, ap, subst}
use Rattle.centre.specs.Answers.{IsAnswer}
use Rattle.centre.specs.Ends.{AnswersBy, EndsBy, answer_by, ending_by}
use Rattle.centre.specs.Given.{Given}
use Rattle.centre.specs.Settled.{IsFree, status_of_answer, text_of_answer}
use Rattle.centre.specs.Status.{status_of_run, text_of_run}
use Rattle.centre.specs.declared.ending.Refusal.{Refusal}
use Rattle.centre.specs.declared.ending.Stop.{Stop}
use Rattle.centre.specs.declared.ending.Stop.TheVariants.{Refused}
use Rattle.command_words.specs.Commands.{Command}

-- a run that ended otherwise than by a fault or for want of links or memory ended as an answer says
pub record EndsByAnswer (command : Option Command) (given : Given) (ending : Result (Unit {0}) Stop) : Type 0 where
  pub answer : Result (List ℕ) Refusal
  pub is : IsAnswer command given answer
  pub status_is : status_of_run ending ≡ status_of_answer answer
  pub text_is : text_of_run ending ≡ text_of_answer answer

abbrev pub Ended : Option Command → Given → Result (Unit {0}) Stop → Type 0
Ended command given ending = IsFree (status_of_run ending) ⊎ EndsByAnswer command given ending

abbrev pub five : IsFree 5
five = inl refl

abbrev pub six : IsFree 6
six = inr (inl refl)

abbrev pub seven : IsFree 7
seven = inr (inr (inl refl))

abbrev pub eight : IsFree 8
eight = inr (inr (inr (inl refl)))

abbrev pub seventeen : IsFree 17
seventeen = inr (inr (inr (inr (inl refl))))

abbrev pub seventy : IsFree 70
seventy = inr (inr (inr (inr (inr refl))))

module _ (command : Option Command) (given : Given) where
  pub gives : (body : List ℕ) → IsAnswer command given (Ok body) → Ended command given (Ok tt)
  gives body is = inr (record { answer = Ok body; is = is; status_is = refl; text_is = refl })

  pub refuses : (refusal : Refusal) → IsAnswer command given (Err refusal) → Ended command given (Err (Refused refusal))
  refuses refusal is = inr (record { answer = Err refusal; is = is; status_is = refl; text_is = refl })

  pub ended_same : (ending other : Result (Unit {0}) Stop) → ending ≡ other → Ended command given other → Ended command given ending
  ended_same ending other same is =
      let P : Result (Unit {0}) Stop → Type 0 = λ e. Ended command given e in
      subst P (sym same) is

  -- as the outcomes of a command end, its endings do
  pub ended_by : {E : Type 0} (stop_for : E → Stop) (Row : Result (Unit {0}) E → Type 0) (ending : Result (Unit {0}) Stop)
      → ((outcome : Result (Unit {0}) E) → Row outcome → Ended command given (ending_by stop_for outcome)) → EndsBy stop_for Row ending → Ended command given ending
  ended_by stop_for Row ending by row = ended_same ending (ending_by stop_for row.outcome) row.same (by row.outcome row.row)

-- a command that has one answer at most gives a run one at most
pub one_by : {E : Type 0} (refusal_for : E → Refusal) (Is : Result (List ℕ) E → Type 0) → ((a b : Result (List ℕ) E) → Is a → Is b → a ≡ b)
    → (a b : Result (List ℕ) Refusal) → AnswersBy refusal_for Is a → AnswersBy refusal_for Is b → a ≡ b
one_by refusal_for Is one a b p q = p.same ∙ ap (answer_by refusal_for) (one p.own q.own p.is q.is) ∙ sym q.same
