use Rattle.std.proofs.Common.{◌∙◌}
use Rattle.http_digest.proofs.Texts.{ok_is_utf8}
use Rattle.http_digest.proofs.parts.is_text.Goals as goal

pub returns : goal.returns
returns c = c.is_ok.ensures.value ∙ ok_is_utf8 _ _ c.args.bytes.now c.from_utf8.result c.from_utf8.ensures.cases
