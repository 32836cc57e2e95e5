use Rattle.std.proofs.Common.{◌≡◌, drop, map}
use Rattle.http_wire.specs.Heads.{has_field}
use Rattle.http_wire.specs.FieldPairs.{as_pair}
use Rattle.http_wire.proofs.fields.has_field.Given as goal

abbrev pub invariant-fields : goal.invariant-fields
invariant-fields l = has_field l.name (map as_pair (drop l.field-index l.fields)) ≡ has_field l.name (map as_pair l.fields)
