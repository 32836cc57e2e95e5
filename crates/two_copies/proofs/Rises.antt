-- The steps of readers and of the writer keep the rule.
use Rattle.std.proofs.Common.{◌≡◌, ◌≢◌, ◌⊎◌, ℕ, List, [], ◌∷◌, ◌++◌, set, refl, subst, sym, ⊎_elim}
use mathlib.Core.List.{IsPrefix}
use mathlib.Core.Option.{some}
use lib.ListN.{get_elem?}
use Rattle.atomic_table.proofs.Lists.{at_set, at_snoc}
use Rattle.archive_entry.specs.declared.entry.Entry.{Entry}
use Rattle.archive_history.proofs.Beginnings.{begins_itself, begins_on}
use Rattle.two_copies.specs.Rule.{Keeps, Finds, newcomer}
use Rattle.two_copies.specs.declared.view.View.{View}

-- what is shown grows, and one view sees it all
pub rises : (seat : ℕ) (v : View) (x y : List Entry) → IsPrefix x y → (views : List View) → Keeps x views → get_elem? views seat ≡ some v → (w : View) × Keeps y (set views seat w) × Finds v y w
rises seat v x y up views keeps at =
    let w : View = record { seen = y } in (
      w,
      (λ j u e. ⊎_elim (λ (t : (j ≡ seat) × (w ≡ u)). subst (λ (z : View). IsPrefix z.seen y) t.1 (begins_itself y)) (λ (t : (j ≢ seat) × (get_elem? views j ≡ some u)). begins_on u.seen x y (keeps j u t.1) up) (at_set views seat j w u e)),
      (begins_on v.seen x y (keeps seat v at) up, refl),
    )

-- the rule where there is no view yet but the writer's
pub begins : (x : List Entry) → Keeps x (newcomer ∷ [])
begins x seat v at = ⊎_elim (λ (e : get_elem? [] seat ≡ some v). absurd (mathlib.Core.Option.some-ne-none v (sym e))) (λ (s : newcomer ≡ v). subst (λ (z : View). IsPrefix z.seen x) s (x, refl)) (at_snoc [] newcomer v seat at)

-- one more view
pub admits : (x : List Entry) (views : List View) → Keeps x views → Keeps x (views ++ newcomer ∷ [])
admits x views keeps seat v at = ⊎_elim (keeps seat v) (λ (s : newcomer ≡ v). subst (λ (z : View). IsPrefix z.seen x) s (x, refl)) (at_snoc views newcomer v seat at)
