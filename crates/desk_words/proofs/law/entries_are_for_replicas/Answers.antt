use Rattle.desk_words.proofs.Isolated.{entries_given, entries_refused}
use Rattle.desk_words.proofs.law.entries_are_for_replicas.Goals as goal

pub returns-clause-given : goal.returns-clause-given
returns-clause-given c h q s user from wanted enough asker may = entries_given h q s user from wanted enough asker may

pub returns-clause-refused : goal.returns-clause-refused
returns-clause-refused c h q s user from wanted enough asker may = entries_refused h q s user from wanted enough asker may
