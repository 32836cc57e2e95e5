use Rattle.archive_state.proofs.HeldRows.{held_decides}
use Rattle.archive_state.proofs.law.held_in_the_subjects_words.Goals as goal

pub returns : goal.returns
returns c = λ h lines row are. held_decides h lines row are
