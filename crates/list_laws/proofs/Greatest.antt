-- The greater of two under an order that tells all apart: which one comes first makes no difference.
use Rattle.std.proofs.Common.{◌≡◌, ◌≢◌, refl, sym, ap, ◌∙◌, Ordering}
use Rattle.std.specs.Ordering.{match_ordering, ordering_reverse}
use Rattle.std.specs.declared.cmp.Ordering.TheVariants.{Less, Equal, Greater}
use Rattle.std.specs.Cmp.{IsTotalOrder}
use Rattle.std.proofs.lemmas.Map.Lookups.{CmpEqualImpliesEq}
use Rattle.list_laws.specs.Greater.{greater}

module _ {K : Type 0} (cmp : K → K → Ordering) (o : IsTotalOrder cmp) (exact : CmpEqualImpliesEq cmp) where
  abbrev more : K → K → K
  more a b = greater cmp a b

  pick : (a b : K) (r : Ordering) → cmp a b ≡ r → more a b ≡ match_ordering r b a a
  pick a b r e = ap (λ r. match_ordering r b a a) e

  turn : (a b : K) (r : Ordering) → cmp a b ≡ r → cmp b a ≡ ordering_reverse r
  turn a b r e = o.antisymm b a ∙ ap ordering_reverse e

  pub greater_comm : (a b : K) → more a b ≡ more b a
  greater_comm a b =
      elim (cmp a b) as (λ r. cmp a b ≡ r → more a b ≡ more b a) [
        | Less ↦ λ e. pick a b Less e ∙ sym (pick b a Greater (turn a b Less e))
        | Equal ↦ λ e. pick a b Equal e ∙ exact a b e ∙ sym (pick b a Equal (turn a b Equal e))
        | Greater ↦ λ e. pick a b Greater e ∙ sym (pick b a Less (turn a b Greater e))
      ] refl

  -- a is no less than c, where a is no less than b and b no less than c
  stays : (a b c : K) (r s : Ordering) → cmp a b ≡ r → cmp b c ≡ s → r ≢ Less → s ≢ Less → more a c ≡ a
  stays a b c r s e f nr ns =
      elim (cmp a c) as (λ t. cmp a c ≡ t → match_ordering t c a a ≡ a) [
        | Less ↦ λ g. absurd (no_less a b c r s e f nr ns g)
        | Equal ↦ λ _. refl
        | Greater ↦ λ _. refl
      ] refl
    where
      no_less : (a b c : K) (r s : Ordering) → cmp a b ≡ r → cmp b c ≡ s → r ≢ Less → s ≢ Less → cmp a c ≡ Less → ⊥
      no_less a b c r Less e f nr ns g = ns refl
      no_less a b c r Equal e f nr ns g = nr (sym e ∙ ap (cmp a) (exact b c f) ∙ g)
      no_less a b c r Greater e f nr ns g = nr (sym e ∙ o.trans a c b g (turn b c Greater f))

  pub greater_assoc : (a b c : K) → more (more a b) c ≡ more a (more b c)
  greater_assoc a b c = cases (cmp a b) (cmp b c) refl refl
    where
      cases : (r s : Ordering) → cmp a b ≡ r → cmp b c ≡ s → more (more a b) c ≡ more a (more b c)
      cases Less Less e f = ap (λ x. more x c) (pick a b Less e) ∙ pick b c Less f ∙ sym (ap (more a) (pick b c Less f) ∙ pick a c Less (o.trans a b c e f))
      cases Less Equal e f = ap (λ x. more x c) (pick a b Less e) ∙ pick b c Equal f ∙ sym (ap (more a) (pick b c Equal f) ∙ pick a b Less e)
      cases Less Greater e f = ap (λ x. more x c) (pick a b Less e) ∙ pick b c Greater f ∙ sym (ap (more a) (pick b c Greater f) ∙ pick a b Less e)
      cases Equal Less e f = ap (λ x. more x c) (pick a b Equal e) ∙ sym (ap (more a) (pick b c Less f))
      cases Equal Equal e f = ap (λ x. more x c) (pick a b Equal e) ∙ stays a b c Equal Equal e f (λ h. cc) (λ h. cc) ∙ sym (ap (more a) (pick b c Equal f) ∙ pick a b Equal e)
      cases Equal Greater e f = ap (λ x. more x c) (pick a b Equal e) ∙ stays a b c Equal Greater e f (λ h. cc) (λ h. cc) ∙ sym (ap (more a) (pick b c Greater f) ∙ pick a b Equal e)
      cases Greater Less e f = ap (λ x. more x c) (pick a b Greater e) ∙ sym (ap (more a) (pick b c Less f))
      cases Greater Equal e f = ap (λ x. more x c) (pick a b Greater e) ∙ stays a b c Greater Equal e f (λ h. cc) (λ h. cc) ∙ sym (ap (more a) (pick b c Equal f) ∙ pick a b Greater e)
      cases Greater Greater e f = ap (λ x. more x c) (pick a b Greater e) ∙ stays a b c Greater Greater e f (λ h. cc) (λ h. cc) ∙ sym (ap (more a) (pick b c Greater f) ∙ pick a b Greater e)
