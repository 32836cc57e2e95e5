-- The pass that makes extents: its state is the group of the window before.
use Rattle.std.proofs.Common.{Bool, true, false, not, cond, refl, List, ◌∷◌, [], ◌++◌, map, filter}
use Rattle.std.specs.Ordering.{is_eq}
use Rattle.list_laws.specs.Breaks.{after_last}
use Rattle.list_laws.proofs.Passes.{Knows, after_end}
use Rattle.dataselect.specs.declared.query.Selection.{Selection}
use Rattle.availability.specs.declared.span.Group.{Group}
use Rattle.availability.specs.declared.span.TimeSpan.{TimeSpan}
use Rattle.availability.specs.declared.span.Window.{Window}
use Rattle.availability.specs.Windows.{group_cmp, AreAlone, is_kept, clipped, kept, wider, is_other_group}

abbrev pub begin : Window → Window
begin w = w

abbrev pub other : Group → Window → Bool
other group w = not (is_eq (group_cmp group w.group))

abbrev pub moved : Group → Window → Group
moved group w = w.group

pub step : (earlier : List Window) (group : Group) (w : Window) → Knows begin wider other moved (after_last is_other_group) earlier group
    → Knows begin wider other moved (after_last is_other_group) (earlier ++ w ∷ []) (moved group w)
step earlier group w h x = after_end is_other_group earlier w x

-- what is kept span by span is of one span each
pub kept_alone : (s : Selection) (spans : List TimeSpan) → AreAlone (kept s spans)
kept_alone s [] = tt
kept_alone s (span ∷ spans) =
    elim (is_kept s span) as (λ b. AreAlone (map (clipped s) (cond b (span ∷ filter (is_kept s) spans) (filter (is_kept s) spans)))) [
      | true ↦ (refl, kept_alone s spans)
      | false ↦ kept_alone s spans
    ]
