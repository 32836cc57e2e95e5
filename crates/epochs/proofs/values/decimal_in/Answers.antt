use Rattle.std.proofs.Common.{sym, subst}
use Rattle.exact_time.specs.Decimals.{IsDecimal}
use Rattle.epochs.specs.Kinds.{Text}
use Rattle.epochs.proofs.FieldSteps.{no_number}
use Rattle.epochs.proofs.values.decimal_in.Goals as goal

pub returns-in-Err : goal.returns-in-Err
returns-in-Err c = λ n h.
    no_number c.as_bytes.result.now c.in-Err.field-0 n c.in-Err.ensures.exact.right
    (subst (λ (text : Text). IsDecimal text n) (sym c.as_bytes.ensures.value) h)
