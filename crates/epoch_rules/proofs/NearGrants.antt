-- A user's grants begin at the first line from a key on.
use Rattle.std.proofs.Common.{◌≡◌, ◌∙◌, true, ◌⊎◌, inl, inr, ℤ, ◌<ℤ◌, ◌≤ℤ◌, negsuc, ◌^◌, ◌-◌, List, [], ◌∷◌, filter, Option, Some, None, refl, sym, ap, arith, Ordering}
use Rattle.std.specs.Prelude.{int_le}
use Rattle.std.specs.Borrow.{Bor}
use Rattle.std.specs.List.{list_any, AllByRecursion}
use Rattle.std.specs.Str.{bytes_eq}
use Rattle.std.specs.Ordering.{is_le, is_lt, nat_cmp, int_cmp, ordering_then, ordering_reverse}
use Rattle.std.specs.declared.cmp.Ordering.TheVariants.{Less, Equal, Greater}
use Rattle.std.specs.Cmp.{IsTotalOrder}
use Rattle.std.specs.Cmp.Lexicographic.{nat_list_cmp_total}
use Rattle.std.proofs.lemmas.Int.{ints}
use Rattle.std.proofs.lemmas.Cmp.{int_ranked, tied_itself, then_total, nat_cmp_total}
use Rattle.std.proofs.lemmas.Bool.{and_from, and_parts, both_ways}
use Rattle.std.proofs.lemmas.Map.Lookups.{exact_unsigned, exact_bytes}
use Rattle.epochs.specs.declared.kinds.LineKind.TheVariants.{Grt}
use Rattle.epochs.specs.declared.line.Line.{Line}
use Rattle.epochs.specs.Kinds.{Text}
use Rattle.epochs.specs.Lines.{LineValues}
use Rattle.epochs.specs.Views.{values_of_line}
use Rattle.epoch_rules.specs.Catalog.{IsCatalog}
use Rattle.epoch_rules.specs.KeyOrder.{KeyParts, key_parts_of, rank_of, text_cmp, parts_cmp, line_cmp}
use Rattle.epoch_rules.specs.LiveLines.{is_said}
use Rattle.epoch_rules.specs.Losses.{grants_key, is_grant_of}
use Rattle.epoch_rules.specs.Neighbours.{is_from_key, IsFirstOf, passes_there}
use Rattle.epoch_rules.specs.Rules.{is_line_of}
use Rattle.epoch_rules.proofs.FamilyKeys.{kind_rank, rank_kind}
use Rattle.epoch_rules.proofs.Grants.{same_text, text_itself}
use Rattle.epoch_rules.proofs.KeptCatalog.{then_equal}
use Rattle.epoch_rules.proofs.Members.{Has, all_has, any_has, has_any, same_bool}
use Rattle.epoch_rules.proofs.Nearest.{first_there, from_first, none_there}
use Rattle.epoch_rules.proofs.Orders.{parts_total, then_assoc, total_on}
use Rattle.epoch_rules.proofs.Tidy.{Tidy}

-- by kind and user
head_cmp : KeyParts → KeyParts → Ordering
head_cmp a b = ordering_then (nat_cmp a.rank b.rank) (text_cmp a.first b.first)

tail_cmp : KeyParts → KeyParts → Ordering
tail_cmp a b =
    ordering_then (text_cmp a.second b.second)
    (ordering_then (text_cmp a.third b.third)
    (ordering_then (text_cmp a.fourth b.fourth)
    (ordering_then (text_cmp a.fifth b.fifth) (int_cmp a.start b.start))))

head_total : IsTotalOrder head_cmp
unfolding head_cmp
head_total = then_total (total_on (λ (p : KeyParts). p.rank) nat_cmp_total) (total_on (λ (p : KeyParts). p.first) nat_list_cmp_total)

by_head : (a b : KeyParts) → parts_cmp a b ≡ ordering_then (head_cmp a b) (tail_cmp a b)
unfolding head_cmp tail_cmp
by_head a b = sym (then_assoc (nat_cmp a.rank b.rank) (text_cmp a.first b.first) _)

le_then : (a b : Ordering) → is_le a ≡ true → is_le b ≡ true → is_le (ordering_then a b) ≡ true
le_then Less b h k = refl
le_then Equal b h k = k
le_then Greater b h k = h

no_text : (t : Text) → is_le (text_cmp [] t) ≡ true
no_text [] = refl
no_text (c ∷ t) = refl

le_cmp : (a b : ℤ) → int_le a b ≡ true → is_le (int_cmp a b) ≡ true
le_cmp a b h =
    elim (int_cmp a b) as (λ o. int_cmp a b ≡ o → is_le o ≡ true) [
      | Less ↦ λ _. refl
      | Equal ↦ λ _. refl
      | Greater ↦ λ e. (let gt : b <ℤ a = int_ranked a b Greater (sym e) in absurd (too_far a b h gt))
    ] refl
  where
    too_far : (a b : ℤ) → int_le a b ≡ true → b <ℤ a → ⊥
    too_far a b h gt = let le : a ≤ℤ b = grind (arith, ints) in omega (arith, ints)

split_head : (a b : Ordering) → is_le (ordering_then a b) ≡ true → (a ≡ Less) ⊎ (a ≡ Equal)
split_head Less b h = inl refl
split_head Equal b h = inr refl
split_head Greater b h = cc

module _ (live : List LineValues) (is : IsCatalog live) (neat : AllByRecursion Tidy live) (user : Text) where
  key : KeyParts
  key = grants_key user

  grant_head : (x : LineValues) → is_grant_of user x ≡ true → head_cmp key (key_parts_of x) ≡ Equal
  unfolding head_cmp key
  grant_head x h =
      let p = and_parts (is_line_of Grt x) (bytes_eq user (key_parts_of x).first) h in
      (λ i. ordering_then (nat_cmp 5 (kind_rank Grt x p.0 i)) (text_cmp user (sym (same_text user (key_parts_of x).first p.1) i))) ∙ tied_itself head_total (grants_key user)

  grant_from : (x : LineValues) → Has live x → is_grant_of user x ≡ true → is_from_key key x ≡ true
  unfolding key tail_cmp
  grant_from x x_in h =
      let p = and_parts (is_line_of Grt x) (bytes_eq user (key_parts_of x).first) h in
      let late = (all_has Tidy live x neat x_in).late p.0 in
      let q = key_parts_of x in
      ap is_le (by_head (grants_key user) q ∙ ap (λ o. ordering_then o (tail_cmp (grants_key user) q)) (grant_head x h))
      ∙ le_then (text_cmp [] q.second) (ordering_then (text_cmp [] q.third) (ordering_then (text_cmp [] q.fourth) (ordering_then (text_cmp [] q.fifth) (int_cmp (negsuc (2 ^ 63 - 1)) q.start)))) (no_text q.second)
      (le_then (text_cmp [] q.third) (ordering_then (text_cmp [] q.fourth) (ordering_then (text_cmp [] q.fifth) (int_cmp (negsuc (2 ^ 63 - 1)) q.start))) (no_text q.third)
      (le_then (text_cmp [] q.fourth) (ordering_then (text_cmp [] q.fifth) (int_cmp (negsuc (2 ^ 63 - 1)) q.start)) (no_text q.fourth)
      (le_then (text_cmp [] q.fifth) (int_cmp (negsuc (2 ^ 63 - 1)) q.start) (no_text q.fifth) (le_cmp (negsuc (2 ^ 63 - 1)) q.start late))))

  -- a line between the key and a grant is a grant of the user
  between_grants : (n x : LineValues) → Has live n → is_from_key key n ≡ true → is_grant_of user x ≡ true → line_cmp n x ≡ Less → is_grant_of user n ≡ true
  unfolding key head_cmp
  between_grants n x n_in low h less =
      let k = grants_key user in
      let same = grant_head x h in
      let head : head_cmp k (key_parts_of n) ≡ Equal =
      elim (split_head (head_cmp k (key_parts_of n)) (tail_cmp k (key_parts_of n)) (sym (ap is_le (by_head k (key_parts_of n))) ∙ low)) [
        | inl early ↦
            (let later : head_cmp (key_parts_of x) (key_parts_of n) ≡ Less = sym (head_total.congr k (key_parts_of x) (key_parts_of n) same) ∙ early in
            let wrong : line_cmp x n ≡ Less = by_head (key_parts_of x) (key_parts_of n) ∙ ap (λ o. ordering_then o (tail_cmp (key_parts_of x) (key_parts_of n))) later in
            let greater : line_cmp x n ≡ Greater = parts_total.antisymm (key_parts_of x) (key_parts_of n) ∙ ap ordering_reverse less in
            absurd (both_ways (is_lt (line_cmp x n)) (ap is_lt greater) (ap is_lt wrong)))
        | inr level ↦ level
      ] in
      let parts = then_equal (nat_cmp 5 (key_parts_of n).rank) (text_cmp user (key_parts_of n).first) head in
      let rank : rank_of Grt ≡ (key_parts_of n).rank = exact_unsigned 5 (key_parts_of n).rank parts.0 in
      let first : user ≡ (key_parts_of n).first = exact_bytes user (key_parts_of n).first parts.1 in
      and_from (is_line_of Grt n) (bytes_eq user (key_parts_of n).first)
      (rank_kind Grt n (all_has (λ l. is_said l ≡ true) live n is.states n_in) (sym rank))
      (ap (bytes_eq user) (sym first) ∙ text_itself user)

  pub near_grants : (there : Option (Bor Line)) → IsFirstOf (filter (is_from_key (grants_key user)) live) there → passes_there (is_grant_of user) there ≡ list_any (is_grant_of user) live
  unfolding key
  near_grants there first =
      same_bool (passes_there (is_grant_of user) there) (list_any (is_grant_of user) live) (forth there first)
      (λ h. let x = has_any (is_grant_of user) live h in back x.0 x.1 x.2 there first)
    where
      forth : (there : Option (Bor Line)) → IsFirstOf (filter (is_from_key (grants_key user)) live) there → passes_there (is_grant_of user) there ≡ true → list_any (is_grant_of user) live ≡ true
      forth None first h = cc
      forth (Some l) first h = any_has (is_grant_of user) live (values_of_line l.now) (first_there live is.rises (is_from_key (grants_key user)) first.0 (values_of_line l.now) first.1).0 h

      back : (x : LineValues) → Has live x → is_grant_of user x ≡ true → (there : Option (Bor Line)) → IsFirstOf (filter (is_from_key (grants_key user)) live) there → passes_there (is_grant_of user) there ≡ true
      back x x_in h None first = absurd (none_there live is.rises (is_from_key (grants_key user)) x first x_in (grant_from x x_in h))
      back x x_in h (Some l) first =
          elim (from_first live is.rises (is_from_key (grants_key user)) first.0 (values_of_line l.now) x first.1 x_in (grant_from x x_in h)) [
            | inl here ↦ ap (is_grant_of user) here ∙ h
            | inr later ↦
                (let n = first_there live is.rises (is_from_key (grants_key user)) first.0 (values_of_line l.now) first.1 in
                between_grants (values_of_line l.now) x n.0 n.1 h later)
          ]
