use Rattle.archive_state.proofs.Numbers.{begun}
use Rattle.archive_state.proofs.authors.begin.Goals as goal

pub returns-in-Ok-clause-same : goal.returns-in-Ok-clause-same
returns-in-Ok-clause-same c =
    begun c.args.authors.now c.insert.new.self c.in_ok-name.name c.in_ok-numbers.numbers c.args.author.now c.in_ok-name.ensures c.in_ok-numbers.ensures.none c.requires c.in-Ok.ensures.entries
