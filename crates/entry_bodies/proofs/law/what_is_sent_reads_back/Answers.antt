use Rattle.entry_bodies.proofs.Written.{reads_back}
use Rattle.entry_bodies.proofs.law.what_is_sent_reads_back.Goals as goal

pub returns : goal.returns
returns c h from most bytes all is = reads_back h from most bytes all is
