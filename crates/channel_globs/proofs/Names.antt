-- The order of names is total, and equal names are the same.
use Rattle.std.proofs.Common.{ℕ, List, ap, nat_cmp}
use Rattle.std.specs.Cmp.{IsTotalOrder}
use Rattle.std.specs.Cmp.Lexicographic.{slice_cmp, nat_list_cmp_total}
use Rattle.std.proofs.lemmas.Cmp.{on_total, then_total}
use Rattle.std.proofs.lemmas.Map.Lookups.{CmpEqualImpliesEq, exact_pairs, exact_bytes}
use Rattle.channel_globs.specs.declared.nslc.Nslc.{Nslc}
use Rattle.channel_globs.specs.Names.{name_cmp}

pub names_total : IsTotalOrder name_cmp
names_total =
    then_total (on_total (λ (n : Nslc). n.network) nat_list_cmp_total)
    (then_total (on_total (λ (n : Nslc). n.station) nat_list_cmp_total)
    (then_total (on_total (λ (n : Nslc). n.location) nat_list_cmp_total) (on_total (λ (n : Nslc). n.channel) nat_list_cmp_total)))

pub exact_names : CmpEqualImpliesEq name_cmp
exact_names a b h =
    ap (λ (p : List ℕ × (List ℕ × (List ℕ × List ℕ))). record { network = p.0; station = p.1.0; location = p.1.1.0; channel = p.1.1.1 })
    (exact_pairs (slice_cmp nat_cmp) _ exact_bytes
    (exact_pairs (slice_cmp nat_cmp) _ exact_bytes
    (exact_pairs (slice_cmp nat_cmp) (slice_cmp nat_cmp) exact_bytes exact_bytes))
    (a.network, (a.station, (a.location, a.channel))) (b.network, (b.station, (b.location, b.channel))) h)
