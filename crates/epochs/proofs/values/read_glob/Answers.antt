use Rattle.std.proofs.Common.{sym, subst}
use Rattle.channel_globs.specs.PatternText.{RefusesList}
use Rattle.epochs.specs.declared.values.FieldFault.{FieldFault}
use Rattle.epochs.specs.Kinds.{Text, PatternsOf}
use Rattle.epochs.specs.Reading.{RefusesField}
use Rattle.epochs.proofs.FieldSteps.{list_refused}
use Rattle.epochs.proofs.values.read_glob.Goals as goal

pub returns-in-Err-clause-refused : goal.returns-in-Err-clause-refused
returns-in-Err-clause-refused c =
    subst (λ (fault : FieldFault). RefusesField (PatternsOf c.args.part) c.args.number c.args.text.now fault) (sym c.field_list_fault.ensures)
    (list_refused c.args.part c.args.number c.args.text.now c.in-Err.fault
    (subst (λ (text : Text). RefusesList c.args.part text c.in-Err.fault) c.as_bytes.ensures.value c.in-Err.ensures.refused))
