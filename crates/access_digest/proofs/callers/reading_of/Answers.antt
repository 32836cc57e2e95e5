use Rattle.access_digest.proofs.WhoFound.{reading_is}
use Rattle.access_digest.proofs.callers.reading_of.Goals as goal

pub returns : goal.returns
returns c = reading_is c.args.header.now c.read_authorization.result c.read_authorization.ensures.parts c.read_authorization.ensures.refused
