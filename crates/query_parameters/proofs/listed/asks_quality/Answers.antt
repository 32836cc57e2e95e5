use Rattle.std.proofs.Common.{◌∙◌, sym, [], ◌∷◌, codes}
use Rattle.query_parameters.specs.Listed.{is_one_of}
use Rattle.query_parameters.proofs.Lists.{list_any-map}
use Rattle.query_parameters.proofs.listed.asks_quality.Goals as goal

pub returns : goal.returns
returns c = c.one_asks_for.ensures ∙ sym (list_any-map (is_one_of (codes "*" ∷ codes "B" ∷ c.args.letter.now ∷ [])) (λ x. x.now) c.args.items.now)
