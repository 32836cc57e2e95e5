use Rattle.std.proofs.Common.{◌∙◌, sym}
use Rattle.std.specs.Str.{bytes_eq}
use Rattle.query_parameters.proofs.Lists.{list_any-map}
use Rattle.query_parameters.proofs.listed.has_item.Goals as goal

pub returns : goal.returns
returns c = c.one_is.ensures ∙ sym (list_any-map (λ item. bytes_eq item c.args.word.now) (λ x. x.now) c.args.items.now)
