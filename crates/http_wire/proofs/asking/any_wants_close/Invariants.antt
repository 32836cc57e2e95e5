use Rattle.std.proofs.Common.{◌≡◌, drop, map}
use Rattle.std.specs.List.{list_any}
use Rattle.http_wire.specs.Heads.{wants_close}
use Rattle.http_wire.specs.FieldPairs.{as_pair}
use Rattle.http_wire.proofs.asking.any_wants_close.Given as goal

abbrev pub invariant-fields : goal.invariant-fields
invariant-fields l = list_any wants_close (map as_pair (drop l.field-index l.fields)) ≡ list_any wants_close (map as_pair l.fields)
