use Rattle.std.proofs.Common.{rules, of_calls}
use Rattle.std.specs.Ordering.{is_lt}
use Rattle.std.proofs.lemmas.Fn.{always_returns_same}
use Rattle.std.proofs.lemmas.List.Sorted.{ranks_by}
use Rattle.epoch_catalog.specs.Withdrawals.{head_cmp}
use Rattle.epoch_catalog.specs.declared.withdrawals.Head.{Head}
use Rattle.epoch_catalog.proofs.MarkedHeads.{heads_total}
use Rattle.epoch_catalog.proofs.withdrawals.sort_heads.Goals as goal

pub returns-clause-sorted : goal.returns-clause-sorted
returns-clause-sorted c =
    c.sort_unstable_by.ensures.sorted (λ a b. is_lt (head_cmp a b)) (ranks_by heads_total (λ (h : Head). h)) (always_returns_same _ _ _ (λ a r g k. search (rules, of_calls)))
