use Rattle.split_fetch.proofs.AskedOnce.{in_a_row}
use Rattle.split_fetch.proofs.law.windows_are_asked_in_order.Goals as goal

pub returns : goal.returns
returns c = λ whole heard next s w todo forward is first. in_a_row whole forward heard s w todo next is first
