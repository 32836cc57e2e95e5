use Rattle.epoch_rules.proofs.LiveByKey.{live_sorted}
use Rattle.epoch_catalog.proofs.LiveMembers.{live_members}
use Rattle.epoch_catalog.proofs.law.live_lines_in_the_subjects_words.Goals as goal

pub returns-clause-rises : goal.returns-clause-rises
returns-clause-rises c = live_sorted

pub returns-clause-members : goal.returns-clause-members
returns-clause-members c = live_members
