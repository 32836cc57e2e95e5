use Rattle.centre_coverage.proofs.OneReport.{some_coverage, some_words}
use Rattle.centre_coverage.proofs.law.some_coverage_answer.Goals as goal

pub returns-clause-words : goal.returns-clause-words
returns-clause-words c = λ w file answer h. some_words w file answer h

pub returns-clause-opened : goal.returns-clause-opened
returns-clause-opened c = λ w file first days asked opens. some_coverage w file first days asked opens
