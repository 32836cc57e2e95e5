use Rattle.std.proofs.Common.{sym}
use Rattle.mseed_header.proofs.cut.cut_body.Goals as goal

pub returns-clause-exact : goal.returns-clause-exact
returns-clause-exact c = rw (sym c.as_slice.ensures) c.cut_from.ensures.exact
