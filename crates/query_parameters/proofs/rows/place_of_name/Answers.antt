use Rattle.std.proofs.Common.{◌∙◌}
use Rattle.query_parameters.specs.Rows.{named, is_called}
use Rattle.query_parameters.proofs.RowPlaces.{position-map}
use Rattle.query_parameters.proofs.rows.place_of_name.Goals as goal

pub returns : goal.returns
returns c = c.place_of.ensures ∙ position-map named (λ row. is_called row c.args.name.now) c.args.table.now
