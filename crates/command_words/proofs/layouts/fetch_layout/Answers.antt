use Rattle.std.proofs.Common.{◌∙◌}
use Rattle.std.proofs.lemmas.Result.{IfOk-weaker}
use Rattle.command_words.proofs.WrittenOut.{fetch_is}
use Rattle.command_words.proofs.layouts.fetch_layout.Goals as goal

pub returns : goal.returns
returns c = IfOk-weaker c.layout.result _ _ (λ m h. h ∙ fetch_is) c.layout.ensures
