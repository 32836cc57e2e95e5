use Rattle.std.proofs.Common.{◌∙◌, map, refl, sym, ap}
use Rattle.epoch_rules.proofs.LinesBetween.{lines_above}
use Rattle.epoch_rules.proofs.LinesOfMap.{line_at}
use Rattle.epoch_rules.proofs.neighbours.first_after.Goals as goal

pub returns-in-Some : goal.returns-in-Some
returns-in-Some c = (
  map line_at c.next.new.self,
  lines_above _ (λ a b. refl) c.args.key c.args.lines.now.entries c.requires
      ∙ ap (map line_at) (sym (c.range.ensures.between tt) ∙ c.in-Some.ensures.steps),
)

pub returns-in-None : goal.returns-in-None
returns-in-None c =
    lines_above _ (λ a b. refl) c.args.key c.args.lines.now.entries c.requires
    ∙ ap (map line_at) (sym (c.range.ensures.between tt) ∙ c.in-None.ensures.steps.0)
