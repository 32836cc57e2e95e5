use Rattle.coverage_report.proofs.Words.{covered_most, members_decide, still_covers}
use Rattle.coverage_report.proofs.law.covered_in_the_subjects_words.Goals as goal

pub returns-clause-bound : goal.returns-clause-bound
returns-clause-bound c = covered_most

pub returns-clause-members : goal.returns-clause-members
returns-clause-members c = members_decide

pub returns-clause-still : goal.returns-clause-still
returns-clause-still c = still_covers
