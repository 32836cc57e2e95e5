use Rattle.dataselect.specs.Chosen.{chosen_places}
use Rattle.dataselect.proofs.Kept.{are_picked}
use Rattle.dataselect.proofs.Wholes.{picked_are_chosen}
use Rattle.dataselect.proofs.law.picked_in_the_subjects_words.Goals as goal

pub returns-clause-picked : goal.returns-clause-picked
returns-clause-picked c = λ seen query rows. are_picked query rows (chosen_places seen query rows)

pub returns-clause-all : goal.returns-clause-all
returns-clause-all c = λ seen query rows none any. picked_are_chosen seen query rows none any
