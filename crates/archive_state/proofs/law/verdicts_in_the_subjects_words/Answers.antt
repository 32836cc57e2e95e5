use Rattle.archive_state.proofs.OneSaying.{only_one}
use Rattle.archive_state.proofs.Sayings.{says}
use Rattle.archive_state.proofs.law.verdicts_in_the_subjects_words.Goals as goal

pub returns-clause-says : goal.returns-clause-says
returns-clause-says c = says

pub returns-clause-only : goal.returns-clause-only
returns-clause-only c = λ h limits command octets. only_one h limits command octets
