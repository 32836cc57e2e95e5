use Rattle.channel_globs.proofs.Names.{exact_names}
use Rattle.channel_globs.proofs.law.names_are_in_order_of_their_fields.Goals as goal

pub returns-clause-equal : goal.returns-clause-equal
returns-clause-equal c = exact_names
