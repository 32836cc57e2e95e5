-- The order of spots, and which spots of a range there are.
use Rattle.std.proofs.Common.{◌≡◌, ℕ, ℤ, Bool, true, false, ◌||◌, cond, List, [], ◌∷◌, refl, sym, ap, ◌∙◌, Ordering, nat_cmp, true≢false}
use Rattle.std.specs.List.{list_any, filter}
use Rattle.std.specs.Ordering.{is_eq, is_le, eq_by_cmp, int_cmp, ordering_reverse}
use Rattle.std.specs.declared.cmp.Ordering.TheVariants.{Less, Equal, Greater}
use Rattle.std.specs.Cmp.{IsTotalOrder}
use Rattle.std.proofs.lemmas.Cmp.{nat_cmp_total, int_cmp_total, on_total, then_total, tied_itself}
use Rattle.std.proofs.lemmas.Bool.{or_left, or_right}
use Rattle.std.proofs.lemmas.Map.Lookups.{CmpEqualImpliesEq, exact_pairs, exact_unsigned, exact_signed}
use Rattle.std.proofs.lemmas.Map.Views.{tells_apart}
use Rattle.time_index.specs.declared.spot.Spot.{Spot}
use Rattle.time_index.specs.Spots.{spot_cmp}

pub spots_total : IsTotalOrder spot_cmp
spots_total =
    then_total (on_total (λ (s : Spot). s.start.micros) int_cmp_total)
    (then_total (on_total (λ (s : Spot). s.fingerprint) nat_cmp_total) (on_total (λ (s : Spot). s.place) nat_cmp_total))

pub exact_spots : CmpEqualImpliesEq spot_cmp
exact_spots a b h =
    ap (λ (p : ℤ × (ℕ × ℕ)). record { start = record { micros = p.0 }; fingerprint = p.1.0; place = p.1.1 })
    (exact_pairs int_cmp _ exact_signed
    (exact_pairs nat_cmp nat_cmp exact_unsigned exact_unsigned)
    (a.start.micros, (a.fingerprint, a.place)) (b.start.micros, (b.fingerprint, b.place)) h)

pub same_spot : (a b : Spot) → eq_by_cmp spot_cmp a b ≡ true → a ≡ b
same_spot a b h = tells_apart exact_spots a b h

pub itself : (a b : Spot) → b ≡ a → eq_by_cmp spot_cmp a b ≡ true
itself a b e = ap (eq_by_cmp spot_cmp a) e ∙ ap is_eq (tied_itself spots_total a)

-- a spot that is held and passes a test is among those that pass it
pub any_filtered : (P test : Spot → Bool) (spots : List Spot) (s : Spot) → list_any (eq_by_cmp spot_cmp s) spots ≡ true → test s ≡ true → P s ≡ true → list_any P (filter test spots) ≡ true
any_filtered P test [] s held t p = absurd (true≢false (sym held))
any_filtered P test (x ∷ xs) s held t p =
    elim (eq_by_cmp spot_cmp s x) as (λ b. eq_by_cmp spot_cmp s x ≡ b → (b || list_any (eq_by_cmp spot_cmp s) xs) ≡ true → list_any P (cond (test x) (x ∷ filter test xs) (filter test xs)) ≡ true) [
      | true ↦ λ e _.
          let same : x ≡ s = sym (same_spot s x e) in
          ap (λ b. list_any P (cond b (x ∷ filter test xs) (filter test xs))) (ap test same ∙ t) ∙ or_left (P x) (list_any P (filter test xs)) (ap P same ∙ p)
      | false ↦ λ _ rest.
          let later = any_filtered P test xs s rest t p in
          elim (test x) as (λ b. list_any P (cond b (x ∷ filter test xs) (filter test xs)) ≡ true) [
            | true ↦ or_right (P x) (list_any P (filter test xs)) later
            | false ↦ later
          ]
    ] refl held

-- what is before a spot, and that spot before another
module _ {K : Type 0} {cmp : K → K → Ordering} (o : IsTotalOrder cmp) (exact : CmpEqualImpliesEq cmp) where
  later_below : (s hi : K) → is_le (cmp hi s) ≡ false → cmp s hi ≡ Less
  later_below s hi h =
      elim (cmp hi s) as (λ r. cmp hi s ≡ r → is_le r ≡ false → cmp s hi ≡ Less) [
        | Less ↦ λ _ k. absurd (true≢false k)
        | Equal ↦ λ _ k. absurd (true≢false k)
        | Greater ↦ λ e _. o.antisymm s hi ∙ ap ordering_reverse e
      ] refl h

  pub below : (lo s hi : K) → is_le (cmp lo s) ≡ true → is_le (cmp hi s) ≡ false → is_le (cmp lo hi) ≡ true
  below lo s hi h k =
      elim (cmp lo s) as (λ r. cmp lo s ≡ r → is_le r ≡ true → is_le (cmp lo hi) ≡ true) [
        | Less ↦ λ e _. ap is_le (o.trans lo s hi e (later_below s hi k))
        | Equal ↦ λ e _. ap is_le (ap (λ (x : K). cmp x hi) (exact lo s e) ∙ later_below s hi k)
        | Greater ↦ λ _ l. absurd (true≢false (sym l))
      ] refl h
