use Rattle.std.proofs.Common.{◌∙◌, [], ◌∷◌, map, refl, sym, ap}
use Rattle.std.proofs.lemmas.List.{map-append}
use Rattle.epoch_rules.proofs.LinesBetween.{lines_below}
use Rattle.epoch_rules.proofs.LinesOfMap.{line_at}
use Rattle.epoch_rules.proofs.neighbours.last_before.Goals as goal

pub returns-in-Some : goal.returns-in-Some
returns-in-Some c = (
  map line_at c.next_back.new.self,
  lines_below _ (λ a b. refl) c.args.key c.args.lines.now.entries c.requires
      ∙ ap (map line_at) (sym (c.range.ensures.between tt) ∙ c.in-Some.ensures.steps) ∙ map-append line_at c.next_back.new.self ((c.in-Some.field-0-0.now, c.in-Some.line.now) ∷ []),
)

pub returns-in-None : goal.returns-in-None
returns-in-None c =
    lines_below _ (λ a b. refl) c.args.key c.args.lines.now.entries c.requires
    ∙ ap (map line_at) (sym (c.range.ensures.between tt) ∙ c.in-None.ensures.steps.0)
