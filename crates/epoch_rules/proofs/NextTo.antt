-- Of two lists of lines, the last line that passes a test, and the first.
use Rattle.std.proofs.Common.{◌≡◌, ◌∙◌, Bool, true, false, not, cond, ◌⊎◌, inl, inr, List, [], ◌∷◌, ◌++◌, filter, Option, Some, None, refl, sym, ap, subst, Ordering}
use Rattle.std.specs.Borrow.{Bor}
use Rattle.std.specs.List.{list_any}
use Rattle.std.specs.List.Sorted.{IsStrictlySortedBy}
use Rattle.std.specs.Option.{is_some}
use Rattle.std.specs.Ordering.{is_eq, is_lt, is_le, ordering_reverse}
use Rattle.std.specs.declared.cmp.Ordering.TheVariants.{Less, Equal, Greater}
use Rattle.std.proofs.lemmas.Bool.{both_ways, cases_Bool}
use Rattle.std.proofs.lemmas.Cmp.{tied_itself}
use Rattle.std.proofs.lemmas.List.Kept.{IsStrictlySortedBy-filter}
use Rattle.epochs.specs.Lines.{LineValues}
use Rattle.epochs.specs.Views.{values_of_line}
use Rattle.epochs.specs.declared.line.Line.{Line}
use Rattle.epoch_rules.specs.KeyOrder.{KeyParts, key_parts_of, parts_cmp, line_cmp}
use Rattle.epoch_rules.specs.Neighbours.{IsFirstOf, IsLastOf, at_there, earlier_of, is_at_key, is_from_key, later_of}
use Rattle.epoch_rules.proofs.Lookups.{is_equal}
use Rattle.epoch_rules.proofs.Members.{Has, all_has, any_has, none_from}
use Rattle.epoch_rules.proofs.Nearest.{filter_has, first_there, from_first, has_filter, last_there, none_there, up_to_last}
use Rattle.epoch_rules.proofs.Orders.{lines_total, parts_total}
use Rattle.epoch_rules.proofs.Replaced.{sorted_head, sorted_tail}

-- of lines in order the last is the one that none is behind
last_is : (zs : List LineValues) (x : LineValues) → IsStrictlySortedBy line_cmp zs → Has zs x → ((y : LineValues) → Has zs y → line_cmp x y ≡ Less → ⊥) → (before : List LineValues) × (zs ≡ before ++ x ∷ [])
last_is [] x up has none = absurd has
last_is (z ∷ []) x up has none =
    let there : (z ≡ x) ⊎ Has [] x = has in
    elim there [
      | inl is ↦ ([], ap (λ v. v ∷ []) is)
      | inr later ↦ absurd later
    ]
last_is (z ∷ w ∷ zs) x up has none =
    let there : (z ≡ x) ⊎ Has (w ∷ zs) x = has in
    elim there [
      | inl is ↦ absurd (none w (inr (inl refl)) (ap (λ v. line_cmp v w) (sym is) ∙ (sorted_head line_cmp z (w ∷ zs) up).0))
      | inr later ↦ (let more = last_is (w ∷ zs) x (sorted_tail line_cmp z (w ∷ zs) up) later (λ y h. none y (inr h)) in (z ∷ more.0, ap (λ l. z ∷ l) more.1))
    ]

-- and the first the one that none is before
first_is : (zs : List LineValues) (x : LineValues) → IsStrictlySortedBy line_cmp zs → Has zs x → ((y : LineValues) → Has zs y → line_cmp y x ≡ Less → ⊥) → (after : List LineValues) × (zs ≡ x ∷ after)
first_is [] x up has none = absurd has
first_is (z ∷ zs) x up has none =
    let there : (z ≡ x) ⊎ Has zs x = has in
    elim there [
      | inl is ↦ (zs, ap (λ v. v ∷ zs) is)
      | inr later ↦ absurd (none z (inl refl) (all_has (λ y. line_cmp z y ≡ Less) zs x (sorted_head line_cmp z zs up) later))
    ]

none_is : (zs : List LineValues) → ((y : LineValues) → Has zs y → ⊥) → zs ≡ []
none_is [] none = refl
none_is (z ∷ zs) none = absurd (none z (inl refl))

-- a line isn't before itself, nor are two before one another
never : (x : LineValues) → line_cmp x x ≡ Less → ⊥
never x h = both_ways (is_lt (line_cmp x x)) (ap is_lt (tied_itself lines_total x)) (ap is_lt h)

abbrev UpTo : LineValues → LineValues → Type 0
UpTo y x = (y ≡ x) ⊎ (line_cmp y x ≡ Less)

not_above : (x y : LineValues) → UpTo y x → line_cmp x y ≡ Less → ⊥
not_above x y (inl is) h = never x (ap (line_cmp x) (sym is) ∙ h)
not_above x y (inr less) h = never x (lines_total.trans x y x h less)

up_to_less : (a b y : LineValues) → UpTo y a → line_cmp a b ≡ Less → line_cmp y b ≡ Less
up_to_less a b y (inl is) h = ap (λ v. line_cmp v b) is ∙ h
up_to_less a b y (inr less) h = lines_total.trans y a b less h

less_up_to : (a b y : LineValues) → line_cmp a y ≡ Less → UpTo y b → line_cmp a b ≡ Less
less_up_to a b y h (inl is) = ap (line_cmp a) (sym is) ∙ h
less_up_to a b y h (inr less) = lines_total.trans a y b h less

is_less : (o : Ordering) → is_lt o ≡ true → o ≡ Less
is_less Less h = refl
is_less Equal h = cc
is_less Greater h = cc

-- the first is before the second, or isn't
either : (a b : LineValues) → (line_cmp a b ≡ Less) ⊎ (line_cmp a b ≡ Less → ⊥)
either a b =
    elim (cases_Bool (is_lt (line_cmp a b))) [
      | inl less ↦ inl (is_less (line_cmp a b) less)
      | inr not ↦ inr (λ h. both_ways (is_lt (line_cmp a b)) not (ap is_lt h))
    ]

module _ (all left put : List LineValues) (up : IsStrictlySortedBy line_cmp all) (left_up : IsStrictlySortedBy line_cmp left) (put_up : IsStrictlySortedBy line_cmp put)
    (parts : (x : LineValues) → Has all x → Has left x ⊎ Has put x) (of_left : (x : LineValues) → Has left x → Has all x) (of_put : (x : LineValues) → Has put x → Has all x) (test : LineValues → Bool) where
  -- where no line of either list passes
  neither : filter test left ≡ [] → filter test put ≡ [] → filter test all ≡ []
  neither no_left no_put =
      none_is (filter test all) (λ y has.
      let h = filter_has test all y has in
      elim (parts y h.0) [
        | inl there ↦ none_there left left_up test y no_left there h.1
        | inr there ↦ none_there put put_up test y no_put there h.1
      ])

  -- a line that passes, where no line of either list that passes is behind it
  last_from : (x : LineValues) → Has all x → test x ≡ true → ((y : LineValues) → Has left y → test y ≡ true → line_cmp x y ≡ Less → ⊥) → ((y : LineValues) → Has put y → test y ≡ true → line_cmp x y ≡ Less → ⊥)
      → (before : List LineValues) × (filter test all ≡ before ++ x ∷ [])
  last_from x has h in_left in_put =
      last_is (filter test all) x (IsStrictlySortedBy-filter line_cmp test all up) (has_filter test all x has h) (λ y there less.
      let k = filter_has test all y there in
      elim (parts y k.0) [
        | inl l ↦ in_left y l k.1 less
        | inr p ↦ in_put y p k.1 less
      ])

  first_from : (x : LineValues) → Has all x → test x ≡ true → ((y : LineValues) → Has left y → test y ≡ true → line_cmp y x ≡ Less → ⊥) → ((y : LineValues) → Has put y → test y ≡ true → line_cmp y x ≡ Less → ⊥)
      → (after : List LineValues) × (filter test all ≡ x ∷ after)
  first_from x has h in_left in_put =
      first_is (filter test all) x (IsStrictlySortedBy-filter line_cmp test all up) (has_filter test all x has h) (λ y there less.
      let k = filter_has test all y there in
      elim (parts y k.0) [
        | inl l ↦ in_left y l k.1 less
        | inr p ↦ in_put y p k.1 less
      ])

  pub last_of_both : (a b : Option (Bor Line)) → IsLastOf (filter test left) a → IsLastOf (filter test put) b → IsLastOf (filter test all) (later_of a b)
  last_of_both None None p q = neither p q
  last_of_both (Some a) None p q =
      let x = values_of_line a.now in
      let here = last_there left left_up test p.0 x p.1 in
      last_from x (of_left x here.0) here.1 (λ y there h. not_above x y (up_to_last left left_up test p.0 x y p.1 there h)) (λ y there h _. none_there put put_up test y q there h)
  last_of_both None (Some b) p q =
      let x = values_of_line b.now in
      let here = last_there put put_up test q.0 x q.1 in
      last_from x (of_put x here.0) here.1 (λ y there h _. none_there left left_up test y p there h) (λ y there h. not_above x y (up_to_last put put_up test q.0 x y q.1 there h))
  last_of_both (Some a) (Some b) p q =
      let v = values_of_line a.now in
      let w = values_of_line b.now in
      let here = last_there left left_up test p.0 v p.1 in
      let there = last_there put put_up test q.0 w q.1 in
      elim (either v w) [
        | inl less ↦
            subst (λ o. IsLastOf (filter test all) (cond (is_lt o) (Some b) (Some a))) (sym less)
            (last_from w (of_put w there.0) there.1 (λ y has h behind. never w (lines_total.trans w y w behind (up_to_less v w y (up_to_last left left_up test p.0 v y p.1 has h) less)))
            (λ y has h. not_above w y (up_to_last put put_up test q.0 w y q.1 has h)))
        | inr not ↦
            subst (λ r. IsLastOf (filter test all) (cond r (Some b) (Some a))) (sym (not_less v w not))
            (last_from v (of_left v here.0) here.1 (λ y has h. not_above v y (up_to_last left left_up test p.0 v y p.1 has h))
            (λ y has h behind. not (less_up_to v w y behind (up_to_last put put_up test q.0 w y q.1 has h))))
      ]
    where
      not_less : (v w : LineValues) → (line_cmp v w ≡ Less → ⊥) → is_lt (line_cmp v w) ≡ false
      not_less v w not =
          elim (cases_Bool (is_lt (line_cmp v w))) [
            | inl less ↦ absurd (not (is_less (line_cmp v w) less))
            | inr h ↦ h
          ]

  pub first_of_both : (a b : Option (Bor Line)) → IsFirstOf (filter test left) a → IsFirstOf (filter test put) b → IsFirstOf (filter test all) (earlier_of a b)
  first_of_both None None p q = neither p q
  first_of_both (Some a) None p q =
      let x = values_of_line a.now in
      let here = first_there left left_up test p.0 x p.1 in
      first_from x (of_left x here.0) here.1 (λ y there h. not_above y x (from_first left left_up test p.0 x y p.1 there h)) (λ y there h _. none_there put put_up test y q there h)
  first_of_both None (Some b) p q =
      let x = values_of_line b.now in
      let here = first_there put put_up test q.0 x q.1 in
      first_from x (of_put x here.0) here.1 (λ y there h _. none_there left left_up test y p there h) (λ y there h. not_above y x (from_first put put_up test q.0 x y q.1 there h))
  first_of_both (Some a) (Some b) p q =
      let v = values_of_line a.now in
      let w = values_of_line b.now in
      let here = first_there left left_up test p.0 v p.1 in
      let there = first_there put put_up test q.0 w q.1 in
      elim (either v w) [
        | inl less ↦
            subst (λ o. IsFirstOf (filter test all) (cond (is_lt o) (Some a) (Some b))) (sym less)
            (first_from v (of_left v here.0) here.1 (λ y has h. not_above y v (from_first left left_up test p.0 v y p.1 has h))
            (λ y has h before. never v (less_up_to v v y (less_up_to v y w less (from_first put put_up test q.0 w y q.1 has h)) (inr before))))
        | inr not ↦
            subst (λ r. IsFirstOf (filter test all) (cond r (Some a) (Some b))) (sym (not_less v w not))
            (first_from w (of_put w there.0) there.1 (λ y has h before. not (up_to_less y w v (from_first left left_up test p.0 v y p.1 has h) before))
            (λ y has h. not_above y w (from_first put put_up test q.0 w y q.1 has h)))
      ]
    where
      not_less : (v w : LineValues) → (line_cmp v w ≡ Less → ⊥) → is_lt (line_cmp v w) ≡ false
      not_less v w not =
          elim (cases_Bool (is_lt (line_cmp v w))) [
            | inl less ↦ absurd (not (is_less (line_cmp v w) less))
            | inr h ↦ h
          ]

-- the first line from a key on has the key, where there is one that has it
at_from : (k : KeyParts) (o : Ordering) → is_eq o ≡ true → is_le o ≡ true
at_from k Less h = cc
at_from k Equal h = refl
at_from k Greater h = cc

pub first_at : (k : KeyParts) (xs : List LineValues) → IsStrictlySortedBy line_cmp xs → (r : Option (Bor Line)) → IsFirstOf (filter (is_from_key k) xs) r → IsFirstOf (filter (is_at_key k) xs) (at_there k r)
first_at k xs up None none =
    none_is (filter (is_at_key k) xs) (λ y has.
    let h = filter_has (is_at_key k) xs y has in
    none_there xs up (is_from_key k) y none h.0 (at_from k (parts_cmp k (key_parts_of y)) h.1))
first_at k xs up (Some l) first =
    let x = values_of_line l.now in
    let here = first_there xs up (is_from_key k) first.0 x first.1 in
    elim (cases_Bool (is_at_key k x)) [
      | inl t ↦
          subst (λ b. IsFirstOf (filter (is_at_key k) xs) (cond b (Some l) None)) (sym t)
          (first_is (filter (is_at_key k) xs) x (IsStrictlySortedBy-filter line_cmp (is_at_key k) xs up) (has_filter (is_at_key k) xs x here.0 t) (λ y has less.
          let h = filter_has (is_at_key k) xs y has in
          not_above y x (from_first xs up (is_from_key k) first.0 x y first.1 h.0 (at_from k (parts_cmp k (key_parts_of y)) h.1)) less))
      | inr f ↦
          subst (λ b. IsFirstOf (filter (is_at_key k) xs) (cond b (Some l) None)) (sym f)
          (none_is (filter (is_at_key k) xs) (λ y has.
          let h = filter_has (is_at_key k) xs y has in
          let equal = is_equal (parts_cmp k (key_parts_of y)) h.1 in
          elim (from_first xs up (is_from_key k) first.0 x y first.1 h.0 (at_from k (parts_cmp k (key_parts_of y)) h.1)) [
            | inl is ↦ both_ways (is_at_key k x) f (ap (is_at_key k) is ∙ h.1)
            | inr less ↦
                (let behind : parts_cmp k (key_parts_of x) ≡ Greater = parts_total.congr k (key_parts_of y) (key_parts_of x) equal ∙ lines_total.antisymm y x ∙ ap ordering_reverse less in
                both_ways (is_le (parts_cmp k (key_parts_of x))) (ap is_le behind) here.1)
          ]))
    ]

-- the line of a key is there where some line has the key
pub some_first : (test : LineValues → Bool) (xs : List LineValues) (r : Option (Bor Line)) → IsFirstOf (filter test xs) r → is_some r ≡ list_any test xs
some_first test xs None none = sym (none_from test xs (λ y has h. subst (λ l. Has l y) none (has_filter test xs y has h)))
some_first test xs (Some l) first =
    let h = filter_has test xs (values_of_line l.now) (subst (λ v. Has v (values_of_line l.now)) (sym first.1) (inl refl)) in
    sym (any_has test xs (values_of_line l.now) h.0 h.1)
