-- Ends are in a total order, in which each has its place.
use Rattle.std.proofs.Common.{◌≡◌, ℕ, ℤ, Bool, true, false, refl, ap}
use Rattle.std.specs.Ordering.{nat_cmp, int_cmp, bool_cmp, ordering_reverse}
use Rattle.std.specs.declared.cmp.Ordering.TheVariants.{Less, Equal}
use Rattle.std.specs.Cmp.{IsTotalOrder}
use Rattle.std.specs.Cmp.Lexicographic.{slice_cmp, nat_list_cmp_total}
use Rattle.std.proofs.lemmas.Cmp.{then_total, int_cmp_total, nat_cmp_total}
use Rattle.std.proofs.lemmas.Map.Lookups.{CmpEqualImpliesEq, exact_pairs, exact_unsigned, exact_signed, exact_bytes}
use Rattle.epochs.specs.Kinds.{Text}
use Rattle.epoch_rules.specs.KeyOrder.{KeyParts, parts_cmp}
use Rattle.epoch_rules.specs.Endings.{EndingParts, ending_cmp}
use Rattle.epoch_rules.proofs.Exact.{exact_parts}
use Rattle.epoch_rules.proofs.Orders.{total_on, parts_total}

bools_total : IsTotalOrder bool_cmp
bools_total = record { antisymm = turned; trans = up; congr = same }
  where
    turned : (a b : Bool) → bool_cmp a b ≡ ordering_reverse (bool_cmp b a)
    turned true true = refl
    turned true false = refl
    turned false true = refl
    turned false false = refl

    up : (a b c : Bool) → bool_cmp a b ≡ Less → bool_cmp b c ≡ Less → bool_cmp a c ≡ Less
    up true true c h k = cc
    up true false c h k = cc
    up false true true h k = cc
    up false true false h k = cc
    up false false c h k = cc

    same : (a b c : Bool) → bool_cmp a b ≡ Equal → bool_cmp a c ≡ bool_cmp b c
    same true true c h = refl
    same true false c h = cc
    same false true c h = cc
    same false false c h = refl

exact_bools : CmpEqualImpliesEq bool_cmp
exact_bools true true h = refl
exact_bools true false h = cc
exact_bools false true h = cc
exact_bools false false h = refl

pub endings_total : IsTotalOrder ending_cmp
endings_total =
    then_total (total_on (λ (e : EndingParts). e.rank) nat_cmp_total)
    (then_total (total_on (λ (e : EndingParts). e.first) nat_list_cmp_total)
    (then_total (total_on (λ (e : EndingParts). e.second) nat_list_cmp_total)
    (then_total (total_on (λ (e : EndingParts). e.forever) bools_total)
    (then_total (total_on (λ (e : EndingParts). e.micros) int_cmp_total) (total_on (λ (e : EndingParts). e.key) parts_total)))))

pub exact_endings : CmpEqualImpliesEq ending_cmp
exact_endings a b h =
    ap (λ (p : ℕ × (Text × (Text × (Bool × (ℤ × KeyParts))))). record { rank = p.0; first = p.1.0; second = p.1.1.0; forever = p.1.1.1.0; micros = p.1.1.1.1.0; key = p.1.1.1.1.1 })
    (exact_pairs nat_cmp _ exact_unsigned
    (exact_pairs (slice_cmp nat_cmp) _ exact_bytes
    (exact_pairs (slice_cmp nat_cmp) _ exact_bytes
    (exact_pairs bool_cmp _ exact_bools
    (exact_pairs int_cmp parts_cmp exact_signed exact_parts))))
    (a.rank, (a.first, (a.second, (a.forever, (a.micros, a.key))))) (b.rank, (b.first, (b.second, (b.forever, (b.micros, b.key))))) h)
