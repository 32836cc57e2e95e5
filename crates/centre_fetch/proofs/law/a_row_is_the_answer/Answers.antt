use Rattle.centre_fetch.proofs.Rows.{refused_answer}
use Rattle.centre_fetch.proofs.law.a_row_is_the_answer.Goals as goal

pub returns-clause-done : goal.returns-clause-done
returns-clause-done c = λ w old new before after done h. (h.heard, h.body, h.given, h.answer, h.output)

pub returns-clause-refused : goal.returns-clause-refused
returns-clause-refused c = λ w old new before after refusal h heard given only. refused_answer w old new before after refusal h heard only
