-- Keys of one place in the order are one key.
use Rattle.std.proofs.Common.{ℕ, ℤ, ap}
use Rattle.std.specs.Ordering.{nat_cmp, int_cmp}
use Rattle.std.specs.Cmp.Lexicographic.{slice_cmp}
use Rattle.std.proofs.lemmas.Map.Lookups.{CmpEqualImpliesEq, exact_pairs, exact_unsigned, exact_signed, exact_bytes}
use Rattle.epochs.specs.Kinds.{Text}
use Rattle.epoch_rules.specs.KeyOrder.{parts_cmp}

pub exact_parts : CmpEqualImpliesEq parts_cmp
exact_parts a b h =
    ap (λ (p : ℕ × (Text × (Text × (Text × (Text × (Text × ℤ)))))). record { rank = p.0; first = p.1.0; second = p.1.1.0; third = p.1.1.1.0; fourth = p.1.1.1.1.0; fifth = p.1.1.1.1.1.0; start = p.1.1.1.1.1.1 })
    (exact_pairs nat_cmp _ exact_unsigned
    (exact_pairs (slice_cmp nat_cmp) _ exact_bytes
    (exact_pairs (slice_cmp nat_cmp) _ exact_bytes
    (exact_pairs (slice_cmp nat_cmp) _ exact_bytes
    (exact_pairs (slice_cmp nat_cmp) _ exact_bytes
    (exact_pairs (slice_cmp nat_cmp) int_cmp exact_bytes exact_signed)))))
    (a.rank, (a.first, (a.second, (a.third, (a.fourth, (a.fifth, a.start)))))) (b.rank, (b.first, (b.second, (b.third, (b.fourth, (b.fifth, b.start)))))) h)
