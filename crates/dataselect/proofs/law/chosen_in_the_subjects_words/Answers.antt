use Rattle.dataselect.proofs.Members.{are_chosen}
use Rattle.dataselect.proofs.law.chosen_in_the_subjects_words.Goals as goal

pub returns : goal.returns
returns c = λ seen query rows. are_chosen seen query rows
