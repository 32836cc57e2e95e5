use Rattle.std.proofs.Common.{sym, subst}
use Rattle.query_parameters.specs.declared.rows.ValueKind.TheVariants.{Patterns}
use Rattle.query_parameters.specs.declared.words.ValueFault.{ValueFault}
use Rattle.query_parameters.specs.Words.{CannotRead}
use Rattle.query_parameters.proofs.Minimums.{refused_list}
use Rattle.query_parameters.proofs.words.read_list.Goals as goal

pub returns-in-Err : goal.returns-in-Err
returns-in-Err c = record {
  list = tt;
  refused = subst (λ (fault : ValueFault). CannotRead (Patterns c.args.part) c.args.text.now fault) (sym c.list_fault.ensures) (refused_list c.args.part c.args.text.now c.in-Err.fault c.in-Err.ensures.refused);
}
