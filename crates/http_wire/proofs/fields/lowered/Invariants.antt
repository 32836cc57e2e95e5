use Rattle.std.proofs.Common.{◌≡◌, take}
use Rattle.std.specs.Str.{str_to_ascii_lowercase}
use Rattle.http_wire.proofs.fields.lowered.Given as goal

abbrev pub invariant-bytes : goal.invariant-bytes
invariant-bytes l = l.lower ≡ str_to_ascii_lowercase (take l.byte-index l.text)
