use Rattle.std.proofs.Common.{sym, subst, List, []}
use Rattle.epoch_catalog.specs.Withdrawals.{IsWithdrawalIndex}
use Rattle.epoch_catalog.specs.declared.withdrawals.Mark.{Mark}
use Rattle.epoch_catalog.specs.declared.withdrawals.NameMark.{NameMark}
use Rattle.epoch_catalog.proofs.WithdrawalsFound.{no_index}
use Rattle.epoch_catalog.proofs.withdrawals.no_withdrawals.Goals as goal

pub returns : goal.returns
returns c = subst (λ (p : List NameMark × List Mark). IsWithdrawalIndex p.0 p.1 []) (λ i. (sym c.new.ensures.items i, sym c.new-2.ensures.items i)) no_index
