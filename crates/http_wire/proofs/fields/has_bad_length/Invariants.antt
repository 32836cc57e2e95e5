use Rattle.std.proofs.Common.{◌≡◌, drop, map}
use Rattle.std.specs.List.{list_any}
use Rattle.http_wire.specs.Heads.{gives_other}
use Rattle.http_wire.specs.FieldPairs.{as_pair}
use Rattle.http_wire.proofs.fields.has_bad_length.Given as goal

abbrev pub invariant-fields : goal.invariant-fields
invariant-fields l = list_any (gives_other l.first) (map as_pair (drop l.field-index l.fields)) ≡ list_any (gives_other l.first) (map as_pair l.fields)
