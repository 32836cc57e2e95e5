use Rattle.std.proofs.Common.{◌≡◌, ◌∷◌, ◌++◌, [], List, ap, sym, subst, ◌∙◌, arith, rules}
use Rattle.list_laws.specs.Breaks.{after_last}
use Rattle.list_laws.proofs.Passes.{pass, passed_all, after_end}
use Rattle.availability.specs.declared.span.Window.{Window}
use Rattle.availability.specs.Windows.{AreAlone, wider, extents, is_other_group}
use Rattle.availability.proofs.Extents.{begin, other, moved, step}
use Rattle.availability.proofs.window.extents.Goals as goal

pub windows-init : goal.windows-init
windows-init c =
    let first = c.in-Some.first.now in
    let split : c.args.windows.now ≡ first ∷ c.in-Some.others.now = search rules in
    let each : AreAlone (first ∷ c.in-Some.others.now) = subst AreAlone split c.requires in
    record {
      extents =
          ap (λ (ws : List Window). ws ++ pass begin wider other moved first first.group c.in-Some.others.now) c.new-extents.ensures
          ∙ passed_all begin wider other moved (after_last is_other_group) step first.group first c.in-Some.others.now (λ x. after_end is_other_group [] first x)
          ∙ ap extents (sym split);
      few = omega (arith, each.0);
      alone = each.1;
    }
