use Rattle.mseed_header.proofs.Headers.{only_header, each_fault}
use Rattle.mseed_header.proofs.read.read_header.Goals as goal

pub returns-clause-refused : goal.returns-clause-refused
returns-clause-refused c = each_fault c.args.bytes.now c.header_in.result c.header_in.ensures

pub returns-clause-exact : goal.returns-clause-exact
returns-clause-exact c = only_header c.args.bytes.now c.header_in.result c.header_in.ensures
