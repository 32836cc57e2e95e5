use Rattle.std.proofs.Common.{◌∙◌, sym}
use Rattle.std.specs.Str.{bytes_eq}
use Rattle.epochs.proofs.FieldSteps.{list_any-map}
use Rattle.epochs.proofs.roles.has_word.Goals as goal

pub returns : goal.returns
returns c = c.one_is.ensures ∙ sym (list_any-map (λ text. bytes_eq text c.args.word.now) (λ x. x.now) c.args.words.now)
