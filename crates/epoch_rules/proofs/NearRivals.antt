-- An epoch's rival, if it has one among epochs that lie apart, stands next to its key; and so does what
-- contains it.
use Rattle.std.proofs.Common.{◌≡◌, ◌∙◌, ℕ, ◌==◌, Bool, true, false, not, ◌&&◌, ◌||◌, inl, inr, List, filter, Option, Some, None, refl, sym, ap}
use Rattle.std.specs.Prelude.{int_le}
use Rattle.std.specs.Borrow.{Bor}
use Rattle.std.specs.List.{list_any, AllByRecursion}
use Rattle.std.specs.Ordering.{is_eq, is_lt, is_le, ordering_reverse}
use Rattle.std.specs.declared.cmp.Ordering.TheVariants.{Less, Equal, Greater}
use Rattle.std.proofs.lemmas.Bool.{and_from, and_parts, both_ways, not-true, not_from_false, or_cases, or_left, or_right}
use Rattle.epochs.specs.declared.line.Line.{Line}
use Rattle.epochs.specs.Lines.{LineValues, end_of}
use Rattle.epochs.specs.Views.{values_of_line}
use Rattle.epoch_rules.specs.Catalog.{IsCatalog}
use Rattle.epoch_rules.specs.KeyOrder.{KeyParts, key_parts_of, family_cmp, parts_cmp, line_cmp, have_one_key}
use Rattle.epoch_rules.specs.LiveLines.{is_said}
use Rattle.epoch_rules.specs.Neighbours.{is_below_key, is_above_key, IsLastOf, IsFirstOf, passes_there}
use Rattle.epoch_rules.specs.Rules.{is_epoch, epoch_start, is_before_end, ends_by, overlap, have_one_family, is_rival, has_rival}
use Rattle.epoch_rules.proofs.Ends.{earlier_before, ends_at, ends_before}
use Rattle.epoch_rules.proofs.KeptCatalog.{epoch_by_rank, same_rank}
use Rattle.epoch_rules.proofs.Lookups.{is_equal}
use Rattle.epoch_rules.proofs.Members.{Has, all_has, and_no, any_has, has_any, none_has, same_bool}
use Rattle.epoch_rules.proofs.Nearest.{between, between_start, first_there, from_first, last_there, none_there, up_to_last}
use Rattle.epoch_rules.proofs.Orders.{lines_total, family_total, parts_total}
use Rattle.epoch_rules.proofs.Tidy.{Tidy}

below_is : (key : KeyParts) (l : LineValues) → parts_cmp (key_parts_of l) key ≡ Less → is_below_key key l ≡ true
below_is key l h = ap (λ o. not (is_le o)) (parts_total.antisymm key (key_parts_of l) ∙ ap ordering_reverse h)

from_below : (key : KeyParts) (l : LineValues) → is_below_key key l ≡ true → parts_cmp (key_parts_of l) key ≡ Less
from_below key l h =
    elim (parts_cmp key (key_parts_of l)) as (λ o. parts_cmp key (key_parts_of l) ≡ o → not (is_le o) ≡ true → parts_cmp (key_parts_of l) key ≡ Less) [
      | Less ↦ λ _ k. cc
      | Equal ↦ λ _ k. cc
      | Greater ↦ λ e _. parts_total.antisymm (key_parts_of l) key ∙ ap ordering_reverse e
    ] refl h

from_above : (key : KeyParts) (l : LineValues) → is_above_key key l ≡ true → parts_cmp key (key_parts_of l) ≡ Less
from_above key l h =
    elim (parts_cmp key (key_parts_of l)) as (λ o. parts_cmp key (key_parts_of l) ≡ o → is_lt o ≡ true → parts_cmp key (key_parts_of l) ≡ Less) [
      | Less ↦ λ e _. e
      | Equal ↦ λ _ k. cc
      | Greater ↦ λ _ k. cc
    ] refl h

-- a key that is before another isn't after it
not_both : (p q : KeyParts) → parts_cmp p q ≡ Less → parts_cmp q p ≡ Less → ⊥
not_both p q h k =
    let wrong : Greater ≡ Less = sym (parts_total.antisymm q p ∙ ap ordering_reverse h) ∙ k in
    both_ways (is_lt Greater) refl (ap is_lt wrong)

module _ (live : List LineValues) (is : IsCatalog live) (neat : AllByRecursion Tidy live) where
  -- live epochs of one family with different keys don't overlap
  pub lie_apart : (a b : LineValues) → Has live a → Has live b → is_epoch a ≡ true → have_one_family a b ≡ true → have_one_key a b ≡ false → overlap a b ≡ false
  lie_apart a b a_in b_in epoch same apart =
      let none = and_no (is_epoch a) (list_any (is_rival a) live) (none_has (has_rival live) live a is.apart a_in) epoch in
      and_no (have_one_family a b && not (have_one_key a b)) (overlap a b) (none_has (is_rival a) live b none b_in)
      (and_from (have_one_family a b) (not (have_one_key a b)) same (not_from_false (have_one_key a b) apart))

  pub states : (x : LineValues) → Has live x → is_said x ≡ true
  states x has = all_has (λ l. is_said l ≡ true) live x is.states has

  pub neat_at : (x : LineValues) → Has live x → Tidy x
  neat_at x has = all_has Tidy live x neat has

  -- of two live epochs of a family the earlier ends by the start of the later
  pub ends_first : (a b : LineValues) → Has live a → Has live b → is_epoch a ≡ true → family_cmp (key_parts_of a) (key_parts_of b) ≡ Equal → line_cmp a b ≡ Less → int_le (key_parts_of a).start (key_parts_of b).start ≡ true
      → ends_by (end_of a.values) (Some (epoch_start b)) ≡ true
  ends_first a b a_in b_in epoch same less rises =
      let family : have_one_family a b ≡ true = ap is_eq same in
      let b_epoch : is_epoch b ≡ true =
      epoch_by_rank b (states b b_in) ∙ ap (λ (r : ℕ). (r == 0) || (r == 1) || (r == 2)) (sym (same_rank a b family)) ∙ sym (epoch_by_rank a (states a a_in)) ∙ epoch in
      let none = lie_apart a b a_in b_in epoch family (ap is_eq less) in
      let start : int_le (epoch_start a) (epoch_start b) ≡ true = (λ i. int_le ((neat_at a a_in).starts epoch i) ((neat_at b b_in).starts b_epoch i)) ∙ rises in
      let forward = earlier_before (epoch_start a) (epoch_start b) (end_of b.values) start ((neat_at b b_in).forward b_epoch) in
      ends_at (epoch_start b) (end_of a.values) (and_no (is_before_end (epoch_start a) (end_of b.values)) (is_before_end (epoch_start b) (end_of a.values)) none forward)

module _ (live : List LineValues) (is : IsCatalog live) (neat : AllByRecursion Tidy live) (e : LineValues) (tidy_e : Tidy e) (epoch : is_epoch e ≡ true) (said : is_said e ≡ true) where
  same_epoch : (x : LineValues) → Has live x → have_one_family e x ≡ true → is_epoch x ≡ true
  same_epoch x x_in family =
      epoch_by_rank x (states live is neat x x_in) ∙ ap (λ (r : ℕ). (r == 0) || (r == 1) || (r == 2)) (sym (same_rank e x family)) ∙ sym (epoch_by_rank e said) ∙ epoch

  rival_parts : (x : LineValues) → is_rival e x ≡ true → (have_one_family e x ≡ true) × (have_one_key e x ≡ false) × (overlap e x ≡ true)
  rival_parts x h =
      let p = and_parts (have_one_family e x && not (have_one_key e x)) (overlap e x) h in
      let q = and_parts (have_one_family e x) (not (have_one_key e x)) p.0 in
      (q.0, not-true (have_one_key e x) q.1, p.1)

  overlap_parts : (x : LineValues) → overlap e x ≡ true → (is_before_end (epoch_start e) (end_of x.values) ≡ true) × (is_before_end (epoch_start x) (end_of e.values) ≡ true)
  overlap_parts x h = and_parts (is_before_end (epoch_start e) (end_of x.values)) (is_before_end (epoch_start x) (end_of e.values)) h

  family_turned : (x : LineValues) → have_one_family e x ≡ true → family_cmp (key_parts_of x) (key_parts_of e) ≡ Equal
  family_turned x h = family_total.antisymm (key_parts_of x) (key_parts_of e) ∙ ap ordering_reverse (is_equal (family_cmp (key_parts_of e) (key_parts_of x)) h)

  e_start : epoch_start e ≡ (key_parts_of e).start
  e_start = tidy_e.starts epoch

  -- a rival before the key is the last line before it
  before_key : (x p : LineValues) → Has live x → Has live p → is_rival e x ≡ true → line_cmp x p ≡ Less → line_cmp p e ≡ Less → ⊥
  before_key x p x_in p_in rival less below =
      let r = rival_parts x rival in
      let x_epoch = same_epoch x x_in r.0 in
      let here = between (key_parts_of x) (key_parts_of p) (key_parts_of e) (family_turned x r.0) less (not_both (key_parts_of p) (key_parts_of e) below) in
      let p_family : family_cmp (key_parts_of p) (key_parts_of e) ≡ Equal = sym (family_total.congr (key_parts_of x) (key_parts_of p) (key_parts_of e) here.0) ∙ family_turned x r.0 in
      let stop = ends_first live is neat x p x_in p_in x_epoch here.0 less here.1 in
      let p_epoch = same_epoch p p_in (ap is_eq (family_total.antisymm (key_parts_of e) (key_parts_of p) ∙ ap ordering_reverse p_family)) in
      let rises : int_le (epoch_start p) (epoch_start e) ≡ true =
      (λ i. int_le ((neat_at live is neat p p_in).starts p_epoch i) (e_start i)) ∙ between_start (key_parts_of p) (key_parts_of e) p_family below in
      let open_end = (overlap_parts x r.2).0 in
      let early = earlier_before (epoch_start p) (epoch_start e) (end_of x.values) rises open_end in
      both_ways (ends_by (end_of x.values) (Some (epoch_start p))) (ends_before (epoch_start p) (end_of x.values) early) stop

  -- a first line after the key that is before a rival is a rival
  after_key : (x n : LineValues) → Has live x → Has live n → is_rival e x ≡ true → line_cmp e n ≡ Less → line_cmp n x ≡ Less → is_rival e n ≡ true
  after_key x n x_in n_in rival above less =
      let r = rival_parts x rival in
      let here = between (key_parts_of e) (key_parts_of n) (key_parts_of x) (is_equal (family_cmp (key_parts_of e) (key_parts_of x)) r.0) above (not_both (key_parts_of n) (key_parts_of x) less) in
      let family : have_one_family e n ≡ true = ap is_eq here.0 in
      let n_epoch = same_epoch n n_in family in
      let n_start = (neat_at live is neat n n_in).starts n_epoch in
      let x_start = (neat_at live is neat x x_in).starts (same_epoch x x_in r.0) in
      let n_family : family_cmp (key_parts_of n) (key_parts_of x) ≡ Equal = sym (family_total.congr (key_parts_of e) (key_parts_of n) (key_parts_of x) here.0) ∙ is_equal (family_cmp (key_parts_of e) (key_parts_of x)) r.0 in
      let first : int_le (epoch_start e) (epoch_start n) ≡ true = (λ i. int_le (e_start i) (n_start i)) ∙ here.1 in
      let second : int_le (epoch_start n) (epoch_start x) ≡ true = (λ i. int_le (n_start i) (x_start i)) ∙ between_start (key_parts_of n) (key_parts_of x) n_family less in
      and_from (have_one_family e n && not (have_one_key e n)) (overlap e n)
      (and_from (have_one_family e n) (not (have_one_key e n)) family (ap (λ o. not (is_eq o)) above))
      (and_from (is_before_end (epoch_start e) (end_of n.values)) (is_before_end (epoch_start n) (end_of e.values))
      (earlier_before (epoch_start e) (epoch_start n) (end_of n.values) first ((neat_at live is neat n n_in).forward n_epoch))
      (earlier_before (epoch_start n) (epoch_start x) (end_of e.values) second (overlap_parts x r.2).1))

  rival_before : (x : LineValues) (before : Option (Bor Line)) → Has live x → is_rival e x ≡ true → line_cmp x e ≡ Less → IsLastOf (filter (is_below_key (key_parts_of e)) live) before → passes_there (is_rival e) before ≡ true
  rival_before x None x_in rival less last = absurd (none_there live is.rises (is_below_key (key_parts_of e)) x last x_in (below_is (key_parts_of e) x less))
  rival_before x (Some l) x_in rival less last =
      elim (up_to_last live is.rises (is_below_key (key_parts_of e)) last.0 (values_of_line l.now) x last.1 x_in (below_is (key_parts_of e) x less)) [
        | inl here ↦ ap (is_rival e) (sym here) ∙ rival
        | inr later ↦
            (let p = last_there live is.rises (is_below_key (key_parts_of e)) last.0 (values_of_line l.now) last.1 in
            absurd (before_key x (values_of_line l.now) x_in p.0 rival later (from_below (key_parts_of e) (values_of_line l.now) p.1)))
      ]

  rival_after : (x : LineValues) (after : Option (Bor Line)) → Has live x → is_rival e x ≡ true → line_cmp e x ≡ Less → IsFirstOf (filter (is_above_key (key_parts_of e)) live) after → passes_there (is_rival e) after ≡ true
  rival_after x None x_in rival less first = absurd (none_there live is.rises (is_above_key (key_parts_of e)) x first x_in (ap is_lt less))
  rival_after x (Some l) x_in rival less first =
      elim (from_first live is.rises (is_above_key (key_parts_of e)) first.0 (values_of_line l.now) x first.1 x_in (ap is_lt less)) [
        | inl here ↦ ap (is_rival e) here ∙ rival
        | inr later ↦
            (let n = first_there live is.rises (is_above_key (key_parts_of e)) first.0 (values_of_line l.now) first.1 in
            after_key x (values_of_line l.now) x_in n.0 rival (from_above (key_parts_of e) (values_of_line l.now) n.1) later)
      ]

  last_passes : (test passes : LineValues → Bool) (before : Option (Bor Line)) → IsLastOf (filter test live) before → passes_there passes before ≡ true → list_any passes live ≡ true
  last_passes test passes None last h = cc
  last_passes test passes (Some l) last h = any_has passes live (values_of_line l.now) (last_there live is.rises test last.0 (values_of_line l.now) last.1).0 h

  first_passes : (test passes : LineValues → Bool) (after : Option (Bor Line)) → IsFirstOf (filter test live) after → passes_there passes after ≡ true → list_any passes live ≡ true
  first_passes test passes None first h = cc
  first_passes test passes (Some l) first h = any_has passes live (values_of_line l.now) (first_there live is.rises test first.0 (values_of_line l.now) first.1).0 h

  pub near_rivals : (before after : Option (Bor Line)) → IsLastOf (filter (is_below_key (key_parts_of e)) live) before → IsFirstOf (filter (is_above_key (key_parts_of e)) live) after
      → (passes_there (is_rival e) before || passes_there (is_rival e) after) ≡ list_any (is_rival e) live
  near_rivals before after last first =
      same_bool (passes_there (is_rival e) before || passes_there (is_rival e) after) (list_any (is_rival e) live)
      (λ h.
      elim (or_cases (passes_there (is_rival e) before) (passes_there (is_rival e) after) h) [
        | inl b ↦ last_passes (is_below_key (key_parts_of e)) (is_rival e) before last b
        | inr a ↦ first_passes (is_above_key (key_parts_of e)) (is_rival e) after first a
      ])
      (λ h.
      let x = has_any (is_rival e) live h in
      let apart = (rival_parts x.0 x.2).1 in
      elim (line_cmp x.0 e) as (λ o. line_cmp x.0 e ≡ o → (passes_there (is_rival e) before || passes_there (is_rival e) after) ≡ true) [
        | Less ↦ λ less. or_left (passes_there (is_rival e) before) (passes_there (is_rival e) after) (rival_before x.0 before x.1 x.2 less last)
        | Equal ↦ λ same. absurd (both_ways (have_one_key e x.0) apart (ap is_eq (lines_total.antisymm e x.0 ∙ ap ordering_reverse same)))
        | Greater ↦ λ more. or_right (passes_there (is_rival e) before) (passes_there (is_rival e) after) (rival_after x.0 after x.1 x.2 (lines_total.antisymm e x.0 ∙ ap ordering_reverse more) first)
      ] refl)
