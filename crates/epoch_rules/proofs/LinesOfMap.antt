-- A map of lines by their keys, as the list of its lines.
use Rattle.std.proofs.Common.{◌≡◌, ◌∙◌, Bool, true, false, cond, List, [], ◌∷◌, map, refl, sym, ap, Ordering}
use Rattle.std.specs.Borrow.{Bor}
use Rattle.std.specs.List.{AllByRecursion}
use Rattle.std.specs.Ordering.{is_eq, match_ordering}
use Rattle.std.specs.declared.cmp.Ordering.TheVariants.{Less, Equal, Greater}
use Rattle.std.specs.BTreeMap.{insert_entry}
use Rattle.std.specs.BTreeSet.{replace_key}
use Rattle.std.specs.Map.{remove_entry}
use Rattle.std.specs.Set.{remove_key}
use Rattle.epochs.specs.Lines.{LineValues}
use Rattle.epochs.specs.Views.{values_of_line}
use Rattle.epochs.specs.declared.line.Line.{Line}
use Rattle.epoch_rules.specs.declared.key_order.KeyView.{KeyView}
use Rattle.epoch_rules.specs.KeyOrder.{key_parts_of, parts_cmp, line_cmp, have_one_key}
use Rattle.epoch_rules.specs.KeyViews.{parts_of_view}
use Rattle.epoch_rules.proofs.Exact.{exact_parts}

abbrev pub Pair : Type 0
Pair = KeyView × Bor Line

abbrev pub line_at : Pair → LineValues
line_at e = values_of_line e.1.now

abbrev pub IsKeyed : Pair → Type 0
IsKeyed e = parts_of_view e.0 ≡ key_parts_of (line_at e)

module _ (cmp : KeyView → KeyView → Ordering) (is : (a b : KeyView) → cmp a b ≡ parts_cmp (parts_of_view a) (parts_of_view b)) where
  compared : (k : KeyView) (v : LineValues) (e : Pair) → parts_of_view k ≡ key_parts_of v → IsKeyed e → cmp k e.0 ≡ line_cmp v (line_at e)
  compared k v e here there = is k e.0 ∙ (λ i. parts_cmp (here i) (there i))

  pub put_line : (es : List Pair) (k : KeyView) (v : Bor Line) → AllByRecursion IsKeyed es → parts_of_view k ≡ key_parts_of (values_of_line v.now)
      → map line_at (insert_entry cmp es k v) ≡ replace_key line_cmp (map line_at es) (values_of_line v.now)
  put_line [] k v all here = refl
  put_line (e ∷ es) k v all here =
      elim (cmp k e.0) as (λ r. map line_at (match_ordering r ((k, v) ∷ e ∷ es) ((e.0, v) ∷ es) (e ∷ insert_entry cmp es k v)) ≡ match_ordering r (values_of_line v.now ∷ line_at e ∷ map line_at es) (values_of_line v.now ∷ map line_at es) (line_at e ∷ replace_key line_cmp (map line_at es) (values_of_line v.now))) [
        | Less ↦ refl
        | Equal ↦ refl
        | Greater ↦ ap (λ l. line_at e ∷ l) (put_line es k v all.1 here)
      ]
      ∙ ap (λ r. match_ordering r (values_of_line v.now ∷ line_at e ∷ map line_at es) (values_of_line v.now ∷ map line_at es) (line_at e ∷ replace_key line_cmp (map line_at es) (values_of_line v.now))) (compared k (values_of_line v.now) e here all.0)

  pub put_keyed : (es : List Pair) (k : KeyView) (v : Bor Line) → AllByRecursion IsKeyed es → parts_of_view k ≡ key_parts_of (values_of_line v.now) → AllByRecursion IsKeyed (insert_entry cmp es k v)
  put_keyed [] k v all here = (here, tt)
  put_keyed (e ∷ es) k v all here =
      elim (cmp k e.0) as (λ r. cmp k e.0 ≡ r → AllByRecursion IsKeyed (match_ordering r ((k, v) ∷ e ∷ es) ((e.0, v) ∷ es) (e ∷ insert_entry cmp es k v))) [
        | Less ↦ λ _. (here, all)
        | Equal ↦ λ h. (sym (exact_parts (parts_of_view k) (parts_of_view e.0) (sym (is k e.0) ∙ h)) ∙ here, all.1)
        | Greater ↦ λ _. (all.0, put_keyed es k v all.1 here)
      ] refl

  pub cut_line : (es : List Pair) (k : KeyView) (v : LineValues) → AllByRecursion IsKeyed es → parts_of_view k ≡ key_parts_of v
      → map line_at (remove_entry (λ q. is_eq (cmp k q)) es) ≡ remove_key (have_one_key v) (map line_at es)
  cut_line [] k v all here = refl
  cut_line (e ∷ es) k v all here =
      elim (is_eq (cmp k e.0)) as (λ b. map line_at (cond b es (e ∷ remove_entry (λ q. is_eq (cmp k q)) es)) ≡ cond b (map line_at es) (line_at e ∷ remove_key (have_one_key v) (map line_at es))) [
        | true ↦ refl
        | false ↦ ap (λ l. line_at e ∷ l) (cut_line es k v all.1 here)
      ]
      ∙ ap (λ r. cond (is_eq r) (map line_at es) (line_at e ∷ remove_key (have_one_key v) (map line_at es))) (compared k v e here all.0)

pub cut_keyed : (test : KeyView → Bool) (es : List Pair) → AllByRecursion IsKeyed es → AllByRecursion IsKeyed (remove_entry test es)
cut_keyed test [] all = tt
cut_keyed test (e ∷ es) all =
    elim (test e.0) as (λ b. AllByRecursion IsKeyed (cond b es (e ∷ remove_entry test es))) [
      | true ↦ all.1
      | false ↦ (all.0, cut_keyed test es all.1)
    ]
