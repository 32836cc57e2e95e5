use Rattle.std.proofs.Common.{◌∙◌, sym, ap, arith}
use Rattle.http_wire.specs.Heads.{length_in}
use Rattle.http_wire.proofs.FieldSteps.{first_here, first_behind}
use Rattle.http_wire.proofs.fields.first_length.Goals as goal

pub returns-then-is_named-clause-value : goal.returns-then-is_named-clause-value
returns-then-is_named-clause-value c =
    c.length_in.ensures.value ∙ ap length_in c.as_slice.ensures
    ∙ sym (first_here c.args.fields.now c.fields.field-index c.field-item.result (omega arith) c.field-item.is (sym c.if-is_named.ensures))
    ∙ c.fields.invariant

pub fields-preserved : goal.fields-preserved
fields-preserved c =
    sym (first_behind c.args.fields.now c.fields.field-index c.field-item.result (omega arith) c.field-item.is (sym c.if-is_named.ensures))
    ∙ c.fields.invariant
