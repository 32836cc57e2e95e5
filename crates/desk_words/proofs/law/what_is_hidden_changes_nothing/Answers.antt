use Rattle.desk_words.proofs.Isolated.{isolated}
use Rattle.desk_words.proofs.law.what_is_hidden_changes_nothing.Goals as goal

pub returns : goal.returns
returns c h g q s other long asker same = isolated h g q s other long asker same
