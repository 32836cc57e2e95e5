use Rattle.http_wire.proofs.HoweverCut.{same_request, same_end, no_end_for_a_request, no_cut_for_a_request, no_cut_for_an_end}
use Rattle.http_wire.proofs.law.pieces_do_not_matter.Goals as goal

pub returns-clause-request : goal.returns-clause-request
returns-clause-request c = same_request

pub returns-clause-end : goal.returns-clause-end
returns-clause-end c = same_end

pub returns-clause-no_end : goal.returns-clause-no_end
returns-clause-no_end c = no_end_for_a_request

pub returns-clause-no_cut : goal.returns-clause-no_cut
returns-clause-no_cut c = no_cut_for_a_request

pub returns-clause-cut_or_end : goal.returns-clause-cut_or_end
returns-clause-cut_or_end c = no_cut_for_an_end
