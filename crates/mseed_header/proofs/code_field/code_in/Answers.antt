use Rattle.std.proofs.Common.{arith, sym, ◌∙◌}
use Rattle.mseed_header.proofs.CodeFields.{code_or_none}
use Rattle.mseed_header.proofs.code_field.code_in.Goals as goal

pub returns : goal.returns
returns c = code_or_none c.of.result c.args.field.now c.before_fill-word.result.now c.before_fill-word.ensures.value (omega (arith, c.before_fill-word.ensures.within)) (sym c.is_code.ensures ∙ c.if-not-is_code.false) c.of.ensures.some c.of.ensures.value
