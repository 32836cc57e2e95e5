use Rattle.std.proofs.Common.{◌∙◌, sym}
use Rattle.std.proofs.lemmas.List.Folds.{list_all-map}
use Rattle.epochs.specs.Fields.{is_role}
use Rattle.epochs.proofs.roles.are_roles.Goals as goal

pub returns : goal.returns
returns c = c.all_are_roles.ensures ∙ sym (list_all-map is_role (λ x. x.now) c.args.words.now)
