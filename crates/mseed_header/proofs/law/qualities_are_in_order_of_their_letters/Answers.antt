use Rattle.mseed_header.proofs.Qualities.{quality_same, equal_qualities}
use Rattle.mseed_header.proofs.law.qualities_are_in_order_of_their_letters.Goals as goal

pub returns-clause-order : goal.returns-clause-order
returns-clause-order c = quality_same

pub returns-clause-equal : goal.returns-clause-equal
returns-clause-equal c = equal_qualities
