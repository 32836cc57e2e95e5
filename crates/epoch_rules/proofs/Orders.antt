-- Keys are in a total order.
use Rattle.std.proofs.Common.{◌≡◌, refl}
use Rattle.std.specs.declared.cmp.Ordering.{Ordering}
use Rattle.std.specs.declared.cmp.Ordering.TheVariants.{Less, Equal, Greater}
use Rattle.std.specs.Ordering.{ordering_then}
use Rattle.std.specs.Cmp.{IsTotalOrder}
use Rattle.std.specs.Cmp.Lexicographic.{nat_list_cmp_total}
use Rattle.std.proofs.lemmas.Cmp.{then_total, int_cmp_total, nat_cmp_total}
use Rattle.epoch_rules.specs.KeyOrder.{key_parts_of, family_cmp, parts_cmp, line_cmp}

pub then_assoc : (a b c : Ordering) → ordering_then (ordering_then a b) c ≡ ordering_then a (ordering_then b c)
then_assoc Less b c = refl
then_assoc Equal b c = refl
then_assoc Greater b c = refl

-- an order of what a function gives orders its arguments
pub total_on : {A B : Type 0} {R : B → B → Ordering} (f : A → B) → IsTotalOrder R → IsTotalOrder (λ x y. R (f x) (f y))
total_on f o = record {
  antisymm = λ x y. o.antisymm (f x) (f y);
  trans = λ x y z. o.trans (f x) (f y) (f z);
  congr = λ x y z. o.congr (f x) (f y) (f z);
}

pub family_total : IsTotalOrder family_cmp
family_total =
    then_total (total_on (λ p. p.rank) nat_cmp_total)
    (then_total (total_on (λ p. p.first) nat_list_cmp_total)
    (then_total (total_on (λ p. p.second) nat_list_cmp_total)
    (then_total (total_on (λ p. p.third) nat_list_cmp_total)
    (then_total (total_on (λ p. p.fourth) nat_list_cmp_total) (total_on (λ p. p.fifth) nat_list_cmp_total)))))

pub parts_total : IsTotalOrder parts_cmp
parts_total =
    then_total (total_on (λ p. p.rank) nat_cmp_total)
    (then_total (total_on (λ p. p.first) nat_list_cmp_total)
    (then_total (total_on (λ p. p.second) nat_list_cmp_total)
    (then_total (total_on (λ p. p.third) nat_list_cmp_total)
    (then_total (total_on (λ p. p.fourth) nat_list_cmp_total)
    (then_total (total_on (λ p. p.fifth) nat_list_cmp_total) (total_on (λ p. p.start) int_cmp_total))))))

pub lines_total : IsTotalOrder line_cmp
lines_total = total_on key_parts_of parts_total
