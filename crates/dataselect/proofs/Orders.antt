-- The derived order of ranks is the order of the definitions.
use Rattle.std.proofs.Common.{◌≡◌}
use Rattle.std.specs.Ordering.{nat_cmp, int_cmp, ordering_then}
use Rattle.channel_globs.specs.Names.{name_cmp}
use Rattle.mseed_header.proofs.Qualities.{quality_same}
use Rattle.dataselect.specs.contracts.order.RankOrd.TheImpl.{cmp-value as by_rank}
use Rattle.dataselect.specs.Order.{rank_cmp}

pub rank_same : by_rank.it ≡ rank_cmp
rank_same = λ i a b.
    ordering_then (name_cmp a.name b.name)
    (ordering_then (quality_same a.quality b.quality i)
    (ordering_then (int_cmp a.start.micros b.start.micros)
    (ordering_then (nat_cmp a.entry b.entry)
    (ordering_then (nat_cmp a.place b.place) (nat_cmp a.index b.index)))))
