use Rattle.http_digest.proofs.HeaderLaw.{ok_found, fault_told}
use Rattle.http_digest.proofs.reading.read_authorization.Goals as goal

pub returns-clause-parts : goal.returns-clause-parts
returns-clause-parts c = ok_found c.args.header.now c.authorization_in.result c.authorization_in.ensures

pub returns-clause-refused : goal.returns-clause-refused
returns-clause-refused c = fault_told c.args.header.now c.authorization_in.result c.authorization_in.ensures
