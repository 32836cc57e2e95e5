-- Two rows are of one group exactly where what their spans have in common is the same.
use Rattle.std.proofs.Common.{◌≡◌, Bool, true, false, Some, None, not, refl, cond, Ordering}
use Rattle.std.specs.Option.{option_cmp}
use Rattle.std.specs.Ordering.{ordering_then, is_eq, is_ne}
use Rattle.std.specs.declared.cmp.Ordering.TheVariants.{Less, Equal, Greater}
use Rattle.exact_time.specs.RateOrder.{rate_cmp}
use Rattle.channel_globs.specs.Names.{name_cmp}
use Rattle.mseed_header.specs.Quality.{quality_cmp}
use Rattle.mseed_header.specs.declared.header.Header.{Header}
use Rattle.dataselect.specs.Spans as rows
use Rattle.query_words.specs.declared.avail.AvailQuery.{AvailQuery}
use Rattle.availability.specs.Spans.{merging_of, group_of}
use Rattle.availability.specs.Windows.{group_cmp}

part_alike : {X : Type 0} (cmp : X → X → Ordering) (merged : Bool) (u v : X) → option_cmp cmp (cond merged None (Some u)) (cond merged None (Some v)) ≡ cond merged Equal (cmp u v)
part_alike cmp true u v = refl
part_alike cmp false u v = refl

pub groups_alike : (q : AvailQuery) (a b : Header) → group_cmp (group_of q a) (group_of q b) ≡ rows.group_cmp (merging_of q) a b
groups_alike q a b = λ i.
    ordering_then (name_cmp a.name b.name)
    (ordering_then (part_alike quality_cmp q.merge_quality a.quality b.quality i) (part_alike rate_cmp q.merge_rate a.rate b.rate i))

pub unequal : (o : Ordering) → is_ne o ≡ not (is_eq o)
unequal Less = refl
unequal Equal = refl
unequal Greater = refl
