use Rattle.std.proofs.Common.{sym, ◌∙◌, ◌==◌}
use Rattle.query_parameters.specs.Bodies.{equals_sign}
use Rattle.text_lines.proofs.LineCuts.{place_found, place_missed}
use Rattle.query_parameters.proofs.front.equals_place.Goals as goal

pub returns-in-Some-clause-value : goal.returns-in-Some-clause-value
returns-in-Some-clause-value c = place_found (λ b. b == equals_sign) c.args.text.now c.in-Some.place (sym c.equals_at.ensures.value ∙ c.in-Some.is)

pub returns-in-None-clause-value : goal.returns-in-None-clause-value
returns-in-None-clause-value c = place_missed (λ b. b == equals_sign) c.args.text.now (sym c.equals_at.ensures.value ∙ c.in-None.is)
