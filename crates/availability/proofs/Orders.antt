-- The derived orders are those of the definitions.
use Rattle.std.proofs.Common.{◌≡◌, nat_cmp}
use Rattle.std.specs.Ordering.{int_cmp, bool_cmp, ordering_then}
use Rattle.std.specs.Option.{option_cmp}
use Rattle.exact_time.specs.RateOrder.{rate_cmp}
use Rattle.channel_globs.specs.Names.{name_cmp}
use Rattle.mseed_header.proofs.Qualities.{quality_same}
use Rattle.availability.specs.contracts.line.LineOrd.TheImpl.{cmp-value as by_line}
use Rattle.availability.specs.contracts.span.GroupOrd.TheImpl.{cmp-value as by_group}
use Rattle.availability.specs.Lines.{line_cmp}
use Rattle.availability.specs.Windows.{group_cmp}

pub group_same : by_group.it ≡ group_cmp
group_same = λ i a b.
    ordering_then (name_cmp a.name b.name)
    (ordering_then (option_cmp (λ u v. quality_same u v i) a.quality b.quality) (option_cmp rate_cmp a.rate b.rate))

pub line_same : by_line.it ≡ line_cmp
line_same = λ i a b.
    ordering_then (int_cmp a.first b.first)
    (ordering_then (name_cmp a.name b.name)
    (ordering_then (int_cmp a.earliest.micros b.earliest.micros)
    (ordering_then (option_cmp (λ u v. quality_same u v i) a.quality b.quality)
    (ordering_then (option_cmp rate_cmp a.rate b.rate)
    (ordering_then (int_cmp a.latest.micros b.latest.micros)
    (ordering_then (int_cmp a.updated.micros b.updated.micros)
    (ordering_then (nat_cmp a.spans b.spans) (bool_cmp a.restricted b.restricted))))))))
