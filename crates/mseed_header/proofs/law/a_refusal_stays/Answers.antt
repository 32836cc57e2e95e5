use Rattle.mseed_header.proofs.Stays.{refusal_stays}
use Rattle.mseed_header.proofs.law.a_refusal_stays.Goals as goal

pub returns : goal.returns
returns c = refusal_stays
