-- Lines of a map between keys.
use Rattle.std.proofs.Common.{◌≡◌, ◌∙◌, Bool, true, false, not, ◌&&◌, cond, List, [], ◌∷◌, map, filter, refl, sym, ap, Ordering}
use Rattle.std.specs.List.{AllByRecursion}
use Rattle.epochs.specs.Lines.{LineValues}
use Rattle.epoch_rules.specs.declared.key_order.KeyView.{KeyView}
use Rattle.epoch_rules.specs.KeyOrder.{key_parts_of, parts_cmp}
use Rattle.epoch_rules.specs.KeyViews.{parts_of_view}
use Rattle.epoch_rules.specs.Neighbours.{is_below_key, is_up_to_key, is_above_key, is_from_key}
use Rattle.std.specs.Ordering.{is_le, is_lt}
use Rattle.std.specs.BTreeMap.Range.{entries_between}
use Rattle.std.specs.declared.ops.Bound.TheVariants.{Included, Excluded, Unbounded}
use Rattle.epoch_rules.proofs.LinesOfMap.{Pair, line_at, IsKeyed}

-- a test of keys is one of lines
pub lines_between : (test : KeyView → Bool) (passes : LineValues → Bool) → ((e : Pair) → IsKeyed e → test e.0 ≡ passes (line_at e)) → (es : List Pair) → AllByRecursion IsKeyed es
    → map line_at (filter (λ e. test e.0) es) ≡ filter passes (map line_at es)
lines_between test passes same [] all = refl
lines_between test passes same (e ∷ es) all =
    elim (test e.0) as (λ b. map line_at (cond b (e ∷ filter (λ e. test e.0) es) (filter (λ e. test e.0) es)) ≡ cond b (line_at e ∷ filter passes (map line_at es)) (filter passes (map line_at es))) [
      | true ↦ ap (λ l. line_at e ∷ l) (lines_between test passes same es all.1)
      | false ↦ lines_between test passes same es all.1
    ]
    ∙ ap (λ b. cond b (line_at e ∷ filter passes (map line_at es)) (filter passes (map line_at es))) (same e all.0)

-- the keys of lines compare as the lines do
pub compares : (cmp : KeyView → KeyView → Ordering) (is : (a b : KeyView) → cmp a b ≡ parts_cmp (parts_of_view a) (parts_of_view b)) (k : KeyView) (e : Pair) → IsKeyed e → cmp k e.0 ≡ parts_cmp (parts_of_view k) (key_parts_of (line_at e))
compares cmp is k e there = is k e.0 ∙ ap (parts_cmp (parts_of_view k)) there

and_true : (b : Bool) → (b && true) ≡ b
and_true true = refl
and_true false = refl

module _ (cmp : KeyView → KeyView → Ordering) (is : (a b : KeyView) → cmp a b ≡ parts_cmp (parts_of_view a) (parts_of_view b)) (key : KeyView) (es : List Pair) (all : AllByRecursion IsKeyed es) where
  pub lines_below : filter (is_below_key (parts_of_view key)) (map line_at es) ≡ map line_at (entries_between cmp Unbounded (Excluded key) es)
  lines_below = sym (lines_between (λ k. not (is_le (cmp key k))) (is_below_key (parts_of_view key)) (λ e keyed. ap (λ r. not (is_le r)) (compares cmp is key e keyed)) es all)

  pub lines_up_to : filter (is_up_to_key (parts_of_view key)) (map line_at es) ≡ map line_at (entries_between cmp Unbounded (Included key) es)
  lines_up_to = sym (lines_between (λ k. not (is_lt (cmp key k))) (is_up_to_key (parts_of_view key)) (λ e keyed. ap (λ r. not (is_lt r)) (compares cmp is key e keyed)) es all)

  pub lines_above : filter (is_above_key (parts_of_view key)) (map line_at es) ≡ map line_at (entries_between cmp (Excluded key) Unbounded es)
  lines_above = sym (lines_between (λ k. is_lt (cmp key k) && true) (is_above_key (parts_of_view key)) (λ e keyed. ap (λ r. is_lt r && true) (compares cmp is key e keyed) ∙ and_true (is_lt (parts_cmp (parts_of_view key) (key_parts_of (line_at e))))) es all)

  pub lines_from : filter (is_from_key (parts_of_view key)) (map line_at es) ≡ map line_at (entries_between cmp (Included key) Unbounded es)
  lines_from = sym (lines_between (λ k. is_le (cmp key k) && true) (is_from_key (parts_of_view key)) (λ e keyed. ap (λ r. is_le r && true) (compares cmp is key e keyed) ∙ and_true (is_le (parts_cmp (parts_of_view key) (key_parts_of (line_at e))))) es all)
