-- The order of ranks is total, and equal ranks are the same.
use Rattle.std.proofs.Common.{ℕ, Option, ap, nat_cmp}
use Rattle.std.specs.Cmp.{IsTotalOrder}
use Rattle.std.specs.Cmp.Lexicographic.{options_total}
use Rattle.std.specs.Option.{option_cmp}
use Rattle.std.specs.Ordering.{int_cmp}
use Rattle.std.proofs.lemmas.Cmp.{nat_cmp_total, int_cmp_total, on_total, then_total}
use Rattle.std.proofs.lemmas.Map.Lookups.{CmpEqualImpliesEq, exact_pairs, exact_unsigned}
use Rattle.exact_time.proofs.Rates.{exact_rates}
use Rattle.exact_time.specs.RateOrder.{rate_cmp, rates_total}
use Rattle.exact_time.specs.declared.moment.Moment.{Moment}
use Rattle.exact_time.specs.declared.ratio.Ratio.{Ratio}
use Rattle.channel_globs.proofs.Names.{names_total, exact_names}
use Rattle.channel_globs.specs.Names.{name_cmp}
use Rattle.channel_globs.specs.declared.nslc.Nslc.{Nslc}
use Rattle.mseed_header.proofs.Qualities.{qualities_total, exact_qualities}
use Rattle.mseed_header.specs.Quality.{quality_cmp}
use Rattle.mseed_header.specs.declared.quality.Quality.{Quality}
use Rattle.dataselect.proofs.Ranks.{exact_moments}
use Rattle.availability.specs.declared.rank.Rank.{Rank}
use Rattle.availability.specs.declared.span.Group.{Group}
use Rattle.availability.specs.Ranks.{rank_cmp}
use Rattle.availability.specs.Windows.{group_cmp}
use Rattle.availability.proofs.LineOrder.{exact_options}

groups_total : IsTotalOrder group_cmp
groups_total =
    then_total (on_total (λ (g : Group). g.name) names_total)
    (then_total (on_total (λ (g : Group). g.quality) (options_total qualities_total)) (on_total (λ (g : Group). g.rate) (options_total rates_total)))

pub ranks_total : IsTotalOrder rank_cmp
ranks_total =
    then_total (on_total (λ (r : Rank). r.group) groups_total)
    (then_total (on_total (λ (r : Rank). r.start.micros) int_cmp_total)
    (then_total (on_total (λ (r : Rank). r.entry) nat_cmp_total)
    (then_total (on_total (λ (r : Rank). r.place) nat_cmp_total) (on_total (λ (r : Rank). r.index) nat_cmp_total))))

exact_groups : CmpEqualImpliesEq group_cmp
exact_groups a b h =
    ap (λ (p : Nslc × (Option Quality × Option Ratio)). record { name = p.0; quality = p.1.0; rate = p.1.1 })
    (exact_pairs name_cmp _ exact_names
    (exact_pairs (option_cmp quality_cmp) (option_cmp rate_cmp) (exact_options quality_cmp exact_qualities) (exact_options rate_cmp exact_rates))
    (a.name, (a.quality, a.rate)) (b.name, (b.quality, b.rate)) h)

pub exact_ranks : CmpEqualImpliesEq rank_cmp
exact_ranks a b h =
    ap (λ (p : Group × (Moment × (ℕ × (ℕ × ℕ)))). record { group = p.0; start = p.1.0; entry = p.1.1.0; place = p.1.1.1.0; index = p.1.1.1.1 })
    (exact_pairs group_cmp _ exact_groups
    (exact_pairs (λ (u v : Moment). int_cmp u.micros v.micros) _ exact_moments
    (exact_pairs nat_cmp _ exact_unsigned (exact_pairs nat_cmp nat_cmp exact_unsigned exact_unsigned)))
    (a.group, (a.start, (a.entry, (a.place, a.index)))) (b.group, (b.start, (b.entry, (b.place, b.index)))) h)
