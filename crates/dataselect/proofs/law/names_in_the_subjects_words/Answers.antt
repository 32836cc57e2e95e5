use Rattle.dataselect.proofs.NamesHeld.{names_sorted, names_are}
use Rattle.dataselect.proofs.law.names_in_the_subjects_words.Goals as goal

pub returns-clause-ordered : goal.returns-clause-ordered
returns-clause-ordered c = names_sorted

pub returns-clause-members : goal.returns-clause-members
returns-clause-members c = names_are
