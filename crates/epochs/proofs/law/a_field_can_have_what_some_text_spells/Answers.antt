use Rattle.epochs.proofs.SpelledValues.{spelled_is_value, line_is_spellable}
use Rattle.epochs.proofs.TextsOfValues.{text_of_value}
use Rattle.epochs.proofs.law.a_field_can_have_what_some_text_spells.Goals as goal

pub returns-clause-spelled : goal.returns-clause-spelled
returns-clause-spelled c = spelled_is_value

pub returns-clause-spells : goal.returns-clause-spells
returns-clause-spells c = text_of_value

pub returns-clause-lines : goal.returns-clause-lines
returns-clause-lines c = line_is_spellable
