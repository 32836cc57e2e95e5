use Rattle.std.proofs.Common.{◌≡◌, ◌++◌, ◌∷◌, take}
use Rattle.std.specs.List.{flat_map}
use Rattle.http_digest.specs.Answers.{escaped}
use Rattle.http_digest.specs.Credentials.{quotation_mark}
use Rattle.http_digest.proofs.answering.push_quoted.Given as goal

abbrev pub invariant-bytes : goal.invariant-bytes
invariant-bytes l = l.text ≡ l.fn.text ++ quotation_mark ∷ flat_map escaped (take l.byte-index l.words)
