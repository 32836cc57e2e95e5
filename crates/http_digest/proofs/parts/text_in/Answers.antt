use Rattle.std.proofs.Common.{◌++◌, List, ℕ, Some, sym, ap, ap₂, ◌∙◌}
use Rattle.http_digest.proofs.Texts.{text_found, no_text}
use Rattle.http_digest.proofs.parts.text_in.Goals as goal

pub returns-in_default : goal.returns-in_default
returns-in_default c = no_text c.args.bytes.now c.in_default.ensures.cases.0

pub returns : goal.returns
returns c =
    text_found c.args.bytes.now c.in-Ok.ensures.cases.1
    ∙ ap Some (sym (c.in_ok-push.ensures.ok ∙ ap₂ (λ (x y : List ℕ). x ++ y) c.new-text.ensures c.in-Ok.ensures.cases.0))
