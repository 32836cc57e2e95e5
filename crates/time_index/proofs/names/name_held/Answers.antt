use Rattle.std.proofs.Common.{◌∙◌}
use Rattle.std.proofs.lemmas.Result.{IfOk-weaker}
use Rattle.time_index.proofs.NamesFound.{single_found}
use Rattle.time_index.proofs.names.name_held.Goals as goal

pub returns : goal.returns
returns c =
    IfOk-weaker c.one_if.result _ _ (λ names is s rows single index. is ∙ single_found s c.args.name c.has_name-held.result rows c.args.channels.now index single (c.has_name-held.ensures rows index)) c.one_if.ensures
