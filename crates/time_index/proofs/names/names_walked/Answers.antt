use Rattle.std.proofs.Common.{rules, ◌≡◌, ◌∙◌, [], Some}
use Rattle.std.specs.BTreeMap.{get}
use Rattle.std.proofs.lemmas.List.Elements.{recursion_from_All}
use Rattle.list_laws.specs.InOrder.{in_order}
use Rattle.channel_globs.specs.Names.{name_cmp}
use Rattle.time_index.specs.Names.{names_in}
use Rattle.time_index.proofs.NamesFound.{names_found}
use Rattle.time_index.proofs.names.names_walked.Goals as goal

pub returns : goal.returns
returns c = λ rows index.
    let all : c.channels.names.keys ≡ in_order name_cmp [] (names_in c.args.selection.now c.args.channels.now.entries) = search rules in
    all
    ∙ names_found c.args.selection.now rows c.args.channels.now
    (recursion_from_All (λ e. get name_cmp c.args.channels.now e.0 ≡ Some e.1) c.args.channels.now.entries c.into_iter-name-iterator.ensures.into_iter_gives.6) index
