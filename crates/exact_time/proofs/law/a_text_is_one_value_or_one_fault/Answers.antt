use Rattle.exact_time.proofs.DecimalTexts.{number_or_fault}
use Rattle.exact_time.proofs.MomentFound.{moment_or_fault}
use Rattle.exact_time.proofs.law.a_text_is_one_value_or_one_fault.Goals as goal

pub returns-clause-moments : goal.returns-clause-moments
returns-clause-moments c = moment_or_fault

pub returns-clause-numbers : goal.returns-clause-numbers
returns-clause-numbers c = number_or_fault
