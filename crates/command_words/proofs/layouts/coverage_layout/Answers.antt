use Rattle.std.proofs.Common.{◌∙◌}
use Rattle.std.proofs.lemmas.Result.{IfOk-weaker}
use Rattle.command_words.proofs.WrittenOut.{coverage_is}
use Rattle.command_words.proofs.layouts.coverage_layout.Goals as goal

pub returns : goal.returns
returns c = IfOk-weaker c.layout.result _ _ (λ m h. h ∙ coverage_is) c.layout.ensures
