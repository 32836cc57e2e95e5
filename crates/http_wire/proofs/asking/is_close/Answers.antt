use Rattle.std.proofs.Common.{◌∙◌, ap, refl, List, ℕ}
use Rattle.std.specs.Prelude.{codes}
use Rattle.std.specs.Str.{str_eq_ignore_ascii_case}
use Rattle.std.proofs.lemmas.Str.Ascii.{trim_ascii_is}
use Rattle.http_wire.proofs.asking.is_close.Goals as goal

pub returns : goal.returns
returns c =
    c.says_close.ensures
    ∙ ap (λ (t : List ℕ). str_eq_ignore_ascii_case t (codes "close")) (trim_ascii_is c.args.item.now c.trim_ascii.result.now _ refl c.trim_ascii.ensures.value)
