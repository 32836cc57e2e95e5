use Rattle.std.proofs.Common.{◌∙◌, ap}
use Rattle.time_index.proofs.NamesFound.{full, name_found}
use Rattle.time_index.proofs.names.has_name.Goals as goal

pub returns-in-Some : goal.returns-in-Some
returns-in-Some c = λ rows index.
    c.has_rows.ensures ∙ ap full c.in-Some.ensures.value ∙ name_found c.args.name.now rows c.args.channels.now index

pub returns-in-None : goal.returns-in-None
returns-in-None c = λ rows index. ap full c.in-None.ensures.value ∙ name_found c.args.name.now rows c.args.channels.now index
