use Rattle.std.proofs.Common.{◌≡◌, option_map, option_to_list, map, take}
use Rattle.http_wire.specs.FieldPairs.{as_pair}
use Rattle.centre_desk.specs.Fields.{values_of}
use Rattle.centre_desk.proofs.fields.only_value.Given as goal

-- what was found is the one value so far, if there is one
abbrev pub invariant-fields : goal.invariant-fields
invariant-fields l = values_of l.name (map as_pair (take l.field-index l.headers)) ≡ option_to_list (option_map (λ value. value.now) l.found)
