-- The order of ranks is total, and equal ranks are the same.
use Rattle.std.proofs.Common.{ℕ, ℤ, ap, nat_cmp}
use Rattle.std.specs.Ordering.{int_cmp}
use Rattle.std.specs.Cmp.{IsTotalOrder}
use Rattle.std.proofs.lemmas.Cmp.{nat_cmp_total, int_cmp_total, on_total, then_total}
use Rattle.std.proofs.lemmas.Map.Lookups.{CmpEqualImpliesEq, exact_pairs, exact_unsigned, exact_signed}
use Rattle.exact_time.specs.declared.moment.Moment.{Moment}
use Rattle.channel_globs.specs.declared.nslc.Nslc.{Nslc}
use Rattle.channel_globs.specs.Names.{name_cmp}
use Rattle.channel_globs.proofs.Names.{names_total, exact_names}
use Rattle.mseed_header.specs.Quality.{quality_cmp}
use Rattle.mseed_header.proofs.Qualities.{qualities_total, exact_qualities}
use Rattle.mseed_header.specs.declared.quality.Quality.{Quality}
use Rattle.dataselect.specs.declared.order.Rank.{Rank}
use Rattle.dataselect.specs.Order.{rank_cmp}

pub ranks_total : IsTotalOrder rank_cmp
ranks_total =
    then_total (on_total (λ (r : Rank). r.name) names_total)
    (then_total (on_total (λ (r : Rank). r.quality) qualities_total)
    (then_total (on_total (λ (r : Rank). r.start.micros) int_cmp_total)
    (then_total (on_total (λ (r : Rank). r.entry) nat_cmp_total)
    (then_total (on_total (λ (r : Rank). r.place) nat_cmp_total) (on_total (λ (r : Rank). r.index) nat_cmp_total)))))

pub exact_moments : CmpEqualImpliesEq (λ (a b : Moment). int_cmp a.micros b.micros)
exact_moments a b h = ap (λ (z : ℤ). record { micros = z }) (exact_signed a.micros b.micros h)

pub exact_ranks : CmpEqualImpliesEq rank_cmp
exact_ranks a b h =
    ap (λ (p : Nslc × (Quality × (Moment × (ℕ × (ℕ × ℕ))))). record { name = p.0; quality = p.1.0; start = p.1.1.0; entry = p.1.1.1.0; place = p.1.1.1.1.0; index = p.1.1.1.1.1 })
    (exact_pairs name_cmp _ exact_names
    (exact_pairs quality_cmp _ exact_qualities
    (exact_pairs (λ (u v : Moment). int_cmp u.micros v.micros) _ exact_moments
    (exact_pairs nat_cmp _ exact_unsigned
    (exact_pairs nat_cmp nat_cmp exact_unsigned exact_unsigned))))
    (a.name, (a.quality, (a.start, (a.entry, (a.place, a.index))))) (b.name, (b.quality, (b.start, (b.entry, (b.place, b.index))))) h)
