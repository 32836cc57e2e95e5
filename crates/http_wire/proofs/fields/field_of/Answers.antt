use Rattle.std.proofs.Common.{◌∙◌, ap}
use Rattle.http_wire.specs.Heads.{is_lower_token, is_value}
use Rattle.http_wire.proofs.FieldSteps.{lower_token}
use Rattle.http_wire.proofs.fields.field_of.Goals as goal

pub invariant_of-result : goal.invariant_of-result
invariant_of-result c = record {
  name_is = ap is_lower_token c.in_ok-name.ensures ∙ lower_token c.args.name.now c.requires.name;
  value_is = ap is_value c.in_ok-value.ensures ∙ c.requires.value;
}
