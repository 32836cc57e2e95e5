use Rattle.std.proofs.Common.{◌≡◌, map, take}
use Rattle.httparse.specs.Spans.{header_bytes}
use Rattle.http_wire.specs.FieldPairs.{as_pair}
use Rattle.http_wire.specs.Heads.{in_lower_case}
use Rattle.http_wire.proofs.parsing.spanned_fields.Given as goal

abbrev pub invariant-spans : goal.invariant-spans
invariant-spans l = map as_pair l.fields ≡ map in_lower_case (map (header_bytes l.block) (take l.span-index l.spans))
