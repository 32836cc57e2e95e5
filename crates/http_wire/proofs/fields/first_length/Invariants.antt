use Rattle.std.proofs.Common.{◌≡◌, drop, map}
use Rattle.http_wire.specs.Heads.{first_length}
use Rattle.http_wire.specs.FieldPairs.{as_pair}
use Rattle.http_wire.proofs.fields.first_length.Given as goal

abbrev pub invariant-fields : goal.invariant-fields
invariant-fields l = first_length (map as_pair (drop l.field-index l.fields)) ≡ first_length (map as_pair l.fields)
