use Rattle.std.proofs.Common.{◌≡◌, ◌++◌, map, drop}
use Rattle.availability.specs.Texts.{behind_spaces}
use Rattle.availability.specs.Fields.{field_text}
use Rattle.availability.proofs.fields.write_behind_spaces.Given as goal

abbrev pub invariant-fields : goal.invariant-fields
invariant-fields l = l.out ++ behind_spaces (map field_text (drop l.field-index l.fields)) ≡ l.fn.out ++ behind_spaces (map field_text l.fields)
