-- The order of lines is total, and lines that it leaves equal are the same.
use Rattle.std.proofs.Common.{◌≡◌, ℕ, ℤ, Bool, true, false, List, Option, Some, None, refl, ap, nat_cmp}
use Rattle.std.specs.Cmp.{IsTotalOrder, bool_cmp_total}
use Rattle.std.specs.Cmp.Lexicographic.{options_total}
use Rattle.std.specs.List.Sorted.{IsStrictlySortedBy}
use Rattle.std.specs.Ordering.{int_cmp, bool_cmp}
use Rattle.std.specs.Option.{option_cmp}
use Rattle.std.specs.declared.cmp.Ordering.{Ordering}
use Rattle.std.specs.declared.cmp.Ordering.TheVariants.{Equal, Less, Greater}
use Rattle.std.proofs.lemmas.Cmp.{nat_cmp_total, int_cmp_total, on_total, then_total}
use Rattle.std.proofs.lemmas.Map.Lookups.{CmpEqualImpliesEq, exact_pairs, exact_unsigned, exact_signed}
use Rattle.list_laws.proofs.Keys.{sorted_in_order}
use Rattle.exact_time.proofs.Rates.{exact_rates}
use Rattle.exact_time.specs.RateOrder.{rate_cmp, rates_total}
use Rattle.exact_time.specs.declared.moment.Moment.{Moment}
use Rattle.exact_time.specs.declared.ratio.Ratio.{Ratio}
use Rattle.channel_globs.proofs.Names.{names_total, exact_names}
use Rattle.channel_globs.specs.Names.{name_cmp}
use Rattle.channel_globs.specs.declared.nslc.Nslc.{Nslc}
use Rattle.mseed_header.proofs.Qualities.{qualities_total, exact_qualities}
use Rattle.mseed_header.specs.Quality.{quality_cmp}
use Rattle.mseed_header.specs.declared.quality.Quality.{Quality}
use Rattle.dataselect.proofs.Ranks.{exact_moments}
use Rattle.query_words.specs.declared.avail.AvailMethod.{AvailMethod}
use Rattle.query_words.specs.declared.avail.AvailQuery.{AvailQuery}
use Rattle.availability.specs.declared.line.Line.{Line}
use Rattle.availability.specs.declared.span.TimeSpan.{TimeSpan}
use Rattle.availability.specs.Lines.{line_cmp, lines_from, lines_of}

pub lines_total : IsTotalOrder line_cmp
lines_total =
    then_total (on_total (λ (l : Line). l.first) int_cmp_total)
    (then_total (on_total (λ (l : Line). l.name) names_total)
    (then_total (on_total (λ (l : Line). l.earliest.micros) int_cmp_total)
    (then_total (on_total (λ (l : Line). l.quality) (options_total qualities_total))
    (then_total (on_total (λ (l : Line). l.rate) (options_total rates_total))
    (then_total (on_total (λ (l : Line). l.latest.micros) int_cmp_total)
    (then_total (on_total (λ (l : Line). l.updated.micros) int_cmp_total)
    (then_total (on_total (λ (l : Line). l.spans) nat_cmp_total) (on_total (λ (l : Line). l.restricted) bool_cmp_total))))))))

pub exact_options : {K : Type 0} (cmp : K → K → Ordering) → CmpEqualImpliesEq cmp → CmpEqualImpliesEq (option_cmp cmp)
exact_options cmp exact None None h = refl
exact_options cmp exact None (Some y) h = let e : Less ≡ Equal = h in cc
exact_options cmp exact (Some x) None h = let e : Greater ≡ Equal = h in cc
exact_options cmp exact (Some x) (Some y) h = ap Some (exact x y h)

exact_bools : CmpEqualImpliesEq bool_cmp
exact_bools false false h = refl
exact_bools false true h = let e : Less ≡ Equal = h in cc
exact_bools true false h = let e : Greater ≡ Equal = h in cc
exact_bools true true h = refl

pub exact_lines : CmpEqualImpliesEq line_cmp
exact_lines a b h =
    ap (λ (p : ℤ × (Nslc × (Moment × (Option Quality × (Option Ratio × (Moment × (Moment × (ℕ × Bool)))))))).
    record { first = p.0; name = p.1.0; earliest = p.1.1.0; quality = p.1.1.1.0; rate = p.1.1.1.1.0; latest = p.1.1.1.1.1.0; updated = p.1.1.1.1.1.1.0; spans = p.1.1.1.1.1.1.1.0; restricted = p.1.1.1.1.1.1.1.1 })
    (exact_pairs int_cmp _ exact_signed
    (exact_pairs name_cmp _ exact_names
    (exact_pairs (λ (u v : Moment). int_cmp u.micros v.micros) _ exact_moments
    (exact_pairs (option_cmp quality_cmp) _ (exact_options quality_cmp exact_qualities)
    (exact_pairs (option_cmp rate_cmp) _ (exact_options rate_cmp exact_rates)
    (exact_pairs (λ (u v : Moment). int_cmp u.micros v.micros) _ exact_moments
    (exact_pairs (λ (u v : Moment). int_cmp u.micros v.micros) _ exact_moments
    (exact_pairs nat_cmp bool_cmp exact_unsigned exact_bools)))))))
    (a.first, (a.name, (a.earliest, (a.quality, (a.rate, (a.latest, (a.updated, (a.spans, a.restricted))))))))
    (b.first, (b.name, (b.earliest, (b.quality, (b.rate, (b.latest, (b.updated, (b.spans, b.restricted))))))))
    h)

pub lines_sorted : (method : AvailMethod) (query : AvailQuery) (spans : List TimeSpan) → IsStrictlySortedBy line_cmp (lines_of method query spans)
lines_sorted method query spans = sorted_in_order lines_total (lines_from method query.order spans query.selections)
