use Rattle.access_digest.proofs.Decided.{may_decides, touched_decides, withdrawn_decides}
use Rattle.access_digest.proofs.Spared.{spared_decides}
use Rattle.access_digest.proofs.law.may_have_in_the_subjects_words.Goals as goal

pub returns-clause-touched : goal.returns-clause-touched
returns-clause-touched c = λ lines row. touched_decides lines row

pub returns-clause-may : goal.returns-clause-may
returns-clause-may c = λ lines user row. may_decides lines user row

pub returns-clause-withdrawn : goal.returns-clause-withdrawn
returns-clause-withdrawn c = λ lines row. withdrawn_decides lines row

pub returns-clause-spared : goal.returns-clause-spared
returns-clause-spared c = λ lines row. spared_decides lines row
