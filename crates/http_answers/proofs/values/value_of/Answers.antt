use Rattle.std.proofs.Common.{List, ℕ, ◌∙◌, sym, ap, arith, Some}
use Rattle.std.specs.Str.{str_eq_ignore_ascii_case}
use Rattle.http_answers.proofs.Fields.{value_here, value_behind}
use Rattle.http_answers.proofs.values.value_of.Goals as goal

pub returns-then-is_name : goal.returns-then-is_name
returns-then-is_name c =
    ap Some c.of-then-is_name.ensures
    ∙ sym (value_here c.args.block.now c.args.name.now c.args.spans.now c.spans.span-index _ (omega arith) (ap (λ (s : List ℕ). str_eq_ignore_ascii_case s c.args.name.now) (sym c.of.ensures) ∙ sym c.if-is_name.ensures))
    ∙ c.spans.invariant

pub spans-preserved : goal.spans-preserved
spans-preserved c =
    sym (value_behind c.args.block.now c.args.name.now c.args.spans.now c.spans.span-index _ (omega arith) (ap (λ (s : List ℕ). str_eq_ignore_ascii_case s c.args.name.now) (sym c.of.ensures) ∙ sym c.if-is_name.ensures))
    ∙ c.spans.invariant
