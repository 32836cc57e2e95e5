use Rattle.std.proofs.Common.{◌∙◌, sym}
use Rattle.std.proofs.lemmas.List.Folds.{list_all-map}
use Rattle.query_parameters.specs.Listed.{is_merge_item}
use Rattle.query_parameters.proofs.listed.are_merge_items.Goals as goal

pub returns : goal.returns
returns c = c.all_name_merges.ensures ∙ sym (list_all-map is_merge_item (λ x. x.now) c.args.items.now)
