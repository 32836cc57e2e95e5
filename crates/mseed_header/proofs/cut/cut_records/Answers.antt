use Rattle.std.proofs.Common.{sym}
use Rattle.mseed_header.proofs.cut.cut_records.Goals as goal

pub returns-clause-exact : goal.returns-clause-exact
returns-clause-exact c = rw (sym c.in-Ok.ensures) c.cut_body.ensures.exact
