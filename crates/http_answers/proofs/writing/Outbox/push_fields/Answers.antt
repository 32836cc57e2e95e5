use Rattle.http_replies.specs.Replies.{field_line}
use Rattle.http_wire.specs.FieldPairs.{as_pair}
use Rattle.http_wire.specs.declared.field.Field.{Field}
use Rattle.http_answers.proofs.Sendings.{one_more, one_broke}
use Rattle.http_answers.proofs.writing.Outbox.push_fields.Goals as goal

pub returns-in_err-push_field : goal.returns-in_err-push_field
returns-in_err-push_field g c =
    one_broke (λ (field : Field). field_line (as_pair field)) _ _ _ _ _ _ c.args.fields.now c.fields.field-index c.field-item.result _
    c.from_residual.result c.from_residual.ensures.0 c.fields-test.true c.field-item.is c.fields.invariant c.in_err-push_field.ensures.failed

pub fields-preserved : goal.fields-preserved
fields-preserved g c =
    one_more (λ (field : Field). field_line (as_pair field)) _ _ _ _ _ _ c.args.fields.now c.fields.field-index c.field-item.result _ c.fields-test.true
    c.field-item.is c.fields.invariant c.in_ok-push_field.ensures.done
