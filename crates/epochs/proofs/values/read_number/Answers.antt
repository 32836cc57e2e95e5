use Rattle.std.proofs.Common.{rules, refl, sym, subst}
use Rattle.epochs.specs.Kinds.{Required}
use Rattle.epochs.specs.Reading.{RefusesField}
use Rattle.epochs.specs.declared.values.FieldFault.{FieldFault}
use Rattle.epochs.proofs.FieldSteps.{spells_no_number, out_of_range}
use Rattle.epochs.proofs.values.read_number.Goals as goal

pub returns-in_default-clause-refused : goal.returns-in_default-clause-refused
returns-in_default-clause-refused c = subst (λ (why : FieldFault). RefusesField (Required c.args.quantity) c.args.number c.args.text.now why) (sym c.bad_value.ensures) (refl, spells_no_number c.args.quantity c.args.text.now (λ n h. c.in_default.ensures n h.decimal))

pub returns-then-not-is_within-clause-refused : goal.returns-then-not-is_within-clause-refused
returns-then-not-is_within-clause-refused c = subst (λ (why : FieldFault). RefusesField (Required c.args.quantity) c.args.number c.args.text.now why) (sym c.bad_value-then-not-is_within.ensures) (refl, out_of_range c.args.quantity c.args.text.now c.in-Some.value.millionths c.in-Some.ensures (search rules))
