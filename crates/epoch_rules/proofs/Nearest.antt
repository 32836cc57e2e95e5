-- Of the lines of a family that lie apart, those next to a key.
use Rattle.std.proofs.Common.{◌≡◌, ◌∙◌, Bool, true, false, not, cond, ◌⊎◌, inl, inr, ℤ, ◌<ℤ◌, ◌≤ℤ◌, List, [], ◌∷◌, ◌++◌, filter, refl, sym, ap, subst, arith, Ordering}
use Rattle.std.specs.Prelude.{int_le}
use Rattle.std.specs.List.Sorted.{IsStrictlySortedBy}
use Rattle.std.specs.Ordering.{is_lt, nat_cmp, int_cmp, ordering_then, ordering_reverse}
use Rattle.std.specs.declared.cmp.Ordering.TheVariants.{Less, Equal, Greater}
use Rattle.std.proofs.lemmas.Bool.{both_ways, cases_Bool, not-true}
use Rattle.std.proofs.lemmas.Int.{ints}
use Rattle.std.proofs.lemmas.Cmp.{int_ranked}
use Rattle.std.specs.Cmp.{int_cmp_is}
use Rattle.std.proofs.lemmas.List.Kept.{IsStrictlySortedBy-filter}
use Rattle.epochs.specs.Lines.{LineValues}
use Rattle.epoch_rules.specs.KeyOrder.{KeyParts, text_cmp, family_cmp, parts_cmp, line_cmp}
use Rattle.epoch_rules.proofs.Members.{Has, all_has}
use Rattle.epoch_rules.proofs.Orders.{family_total, then_assoc}
use Rattle.epoch_rules.proofs.LastLine.{below_middle}
use Rattle.epoch_rules.proofs.Replaced.{sorted_head}

-- keys compare by their families, then by their starts
pub by_family : (p q : KeyParts) → ordering_then (family_cmp p q) (int_cmp p.start q.start) ≡ parts_cmp p q
by_family p q =
    let r = nat_cmp p.rank q.rank in
    let f = text_cmp p.first q.first in
    let s = text_cmp p.second q.second in
    let t = text_cmp p.third q.third in
    let u = text_cmp p.fourth q.fourth in
    let v = text_cmp p.fifth q.fifth in
    let w = int_cmp p.start q.start in
    then_assoc r (ordering_then f (ordering_then s (ordering_then t (ordering_then u v)))) w
    ∙ ap (ordering_then r) (then_assoc f (ordering_then s (ordering_then t (ordering_then u v))) w)
    ∙ ap (λ o. ordering_then r (ordering_then f o)) (then_assoc s (ordering_then t (ordering_then u v)) w)
    ∙ ap (λ o. ordering_then r (ordering_then f (ordering_then s o))) (then_assoc t (ordering_then u v) w)
    ∙ ap (λ o. ordering_then r (ordering_then f (ordering_then s (ordering_then t o)))) (then_assoc u v w)

starts_less : (a b : ℤ) → int_cmp a b ≡ Less → int_le a b ≡ true
starts_less a b h = let lt : a <ℤ b = int_ranked a b Less (sym h) in grind (arith, ints)

split_less : (a b : Ordering) → ordering_then a b ≡ Less → (a ≡ Less) ⊎ ((a ≡ Equal) × (b ≡ Less))
split_less Less b h = inl refl
split_less Equal b h = inr (refl, h)
split_less Greater b h = cc

less_then : (a b : Ordering) → a ≡ Less → ordering_then a b ≡ Less
less_then a b h = ap (λ o. ordering_then o b) h

-- a family that a key begins doesn't end before another key of it
pub between : (a p b : KeyParts) → family_cmp a b ≡ Equal → parts_cmp a p ≡ Less → (parts_cmp b p ≡ Less → ⊥) → (family_cmp a p ≡ Equal) × (int_le a.start p.start ≡ true)
between a p b same up stop =
    elim (split_less (family_cmp a p) (int_cmp a.start p.start) (by_family a p ∙ up)) [
      | inl less ↦
          (let further : family_cmp b p ≡ Less = sym (family_total.congr a b p same) ∙ less in
          let later : parts_cmp b p ≡ Less = sym (by_family b p) ∙ less_then (family_cmp b p) (int_cmp b.start p.start) further in
          absurd (stop later))
      | inr here ↦ (here.0, starts_less a.start p.start here.1)
    ]

pub between_start : (a b : KeyParts) → family_cmp a b ≡ Equal → parts_cmp a b ≡ Less → int_le a.start b.start ≡ true
between_start a b same less =
    starts_less a.start b.start (sym (ap (λ o. ordering_then o (int_cmp a.start b.start)) same) ∙ by_family a b ∙ less)

pub has_filter : (test : LineValues → Bool) (xs : List LineValues) (y : LineValues) → Has xs y → test y ≡ true → Has (filter test xs) y
has_filter test [] y has h = absurd has
has_filter test (x ∷ xs) y (inl is) h = subst (λ b. Has (cond b (x ∷ filter test xs) (filter test xs)) y) (sym (ap test is ∙ h)) (inl is)
has_filter test (x ∷ xs) y (inr has) h =
    elim (test x) as (λ b. Has (cond b (x ∷ filter test xs) (filter test xs)) y) [
      | true ↦ inr (has_filter test xs y has h)
      | false ↦ has_filter test xs y has h
    ]

pub filter_has : (test : LineValues → Bool) (xs : List LineValues) (y : LineValues) → Has (filter test xs) y → Has xs y × (test y ≡ true)
filter_has test [] y has = absurd has
filter_has test (x ∷ xs) y has =
    let more = filter_has test xs y in
    elim (cases_Bool (test x)) [
      | inl t ↦
          (let there : (x ≡ y) ⊎ Has (filter test xs) y = subst (λ b. Has (cond b (x ∷ filter test xs) (filter test xs)) y) t has in
          elim there [
            | inl is ↦ (inl is, sym (ap test is) ∙ t)
            | inr h ↦ (let m = more h in (inr m.0, m.1))
          ])
      | inr f ↦
          (let m = more (subst (λ b. Has (cond b (x ∷ filter test xs) (filter test xs)) y) f has) in (inr m.0, m.1))
    ]

has_last : (xs : List LineValues) (p : LineValues) → Has (xs ++ p ∷ []) p
has_last [] p = inl refl
has_last (x ∷ xs) p = inr (has_last xs p)

in_front : (xs : List LineValues) (p y : LineValues) → Has (xs ++ p ∷ []) y → (y ≡ p) ⊎ Has xs y
in_front [] p y (inl is) = inl (sym is)
in_front [] p y (inr has) = absurd has
in_front (x ∷ xs) p y (inl is) = inr (inl is)
in_front (x ∷ xs) p y (inr has) =
    elim (in_front xs p y has) [
      | inl is ↦ inl is
      | inr before ↦ inr (inr before)
    ]

module _ (live : List LineValues) (up : IsStrictlySortedBy line_cmp live) (test : LineValues → Bool) where
  -- the last that passes
  pub last_there : (before : List LineValues) (p : LineValues) → filter test live ≡ before ++ p ∷ [] → Has live p × (test p ≡ true)
  last_there before p is = filter_has test live p (subst (λ l. Has l p) (sym is) (has_last before p))

  pub up_to_last : (before : List LineValues) (p y : LineValues) → filter test live ≡ before ++ p ∷ [] → Has live y → test y ≡ true → (y ≡ p) ⊎ (line_cmp y p ≡ Less)
  up_to_last before p y is has h =
      let sorted = subst (IsStrictlySortedBy line_cmp) is (IsStrictlySortedBy-filter line_cmp test live up) in
      elim (in_front before p y (subst (λ l. Has l y) is (has_filter test live y has h))) [
        | inl same ↦ inl same
        | inr there ↦ inr (all_has (λ x. line_cmp x p ≡ Less) before y (below_middle before p [] sorted) there)
      ]

  -- the first that passes
  pub first_there : (after : List LineValues) (p : LineValues) → filter test live ≡ p ∷ after → Has live p × (test p ≡ true)
  first_there after p is = filter_has test live p (subst (λ l. Has l p) (sym is) (inl refl))

  pub from_first : (after : List LineValues) (p y : LineValues) → filter test live ≡ p ∷ after → Has live y → test y ≡ true → (p ≡ y) ⊎ (line_cmp p y ≡ Less)
  from_first after p y is has h =
      let sorted = subst (IsStrictlySortedBy line_cmp) is (IsStrictlySortedBy-filter line_cmp test live up) in
      let there : (p ≡ y) ⊎ Has after y = subst (λ l. Has l y) is (has_filter test live y has h) in
      elim there [
        | inl same ↦ inl same
        | inr later ↦ inr (all_has (λ x. line_cmp p x ≡ Less) after y (sorted_head line_cmp p after sorted) later)
      ]

  pub none_there : (y : LineValues) → filter test live ≡ [] → Has live y → test y ≡ true → ⊥
  none_there y is has h = subst (λ l. Has l y) is (has_filter test live y has h)

-- keys of one family by their starts
pub less_or_level : (a b : KeyParts) → family_cmp a b ≡ Equal → int_le a.start b.start ≡ true → not (is_lt (parts_cmp b a)) ≡ true
less_or_level a b same rises =
    let turned : family_cmp b a ≡ Equal = family_total.antisymm b a ∙ ap ordering_reverse same in
    sym (ap (λ o. not (is_lt o)) (sym (ap (λ o. ordering_then o (int_cmp b.start a.start)) turned) ∙ by_family b a)) ∙ not_less b.start a.start rises
  where
    is_less : (o : Ordering) → is_lt o ≡ true → o ≡ Less
    is_less Less h = refl
    is_less Equal h = cc
    is_less Greater h = cc

    lt_of : (n m : ℤ) → int_cmp n m ≡ Less → n <ℤ m
    lt_of n m h = int_ranked n m Less (sym h)

    le_of : (n m : ℤ) → int_le n m ≡ true → n ≤ℤ m
    le_of n m h = grind (arith, ints)

    not_less : (n m : ℤ) → int_le m n ≡ true → not (is_lt (int_cmp n m)) ≡ true
    not_less n m h =
        elim (cases_Bool (is_lt (int_cmp n m))) [
          | inl less ↦ (let low = lt_of n m (is_less (int_cmp n m) less) in let high = le_of m n h in absurd (omega (arith, ints)))
          | inr more ↦ ap not more
        ]

pub not_after : (key q : KeyParts) → not (is_lt (parts_cmp key q)) ≡ true → parts_cmp key q ≡ Less → ⊥
not_after key q h less = both_ways (is_lt (parts_cmp key q)) (not-true (is_lt (parts_cmp key q)) h) (ap is_lt less)

pub level_start : (p q : KeyParts) → family_cmp p q ≡ Equal → (parts_cmp q p ≡ Less → ⊥) → int_le p.start q.start ≡ true
level_start p q same level =
    elim (cases_Bool (int_le p.start q.start)) [
      | inl low ↦ low
      | inr high ↦
          (let turned : family_cmp q p ≡ Equal = family_total.antisymm q p ∙ ap ordering_reverse same in
          absurd (level (sym (by_family q p) ∙ ap (λ o. ordering_then o (int_cmp q.start p.start)) turned ∙ sym (int_cmp_is q.start p.start Less (less_of p.start q.start high)))))
    ]
  where
    less_of : (n m : ℤ) → int_le n m ≡ false → m <ℤ n
    less_of n m h = grind (arith, ints)
