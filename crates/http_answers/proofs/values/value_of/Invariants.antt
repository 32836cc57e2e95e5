use Rattle.std.proofs.Common.{◌≡◌, drop, map}
use Rattle.httparse.specs.Spans.{header_bytes}
use Rattle.http_answers.specs.ReplyHeads.{value_of}
use Rattle.http_answers.proofs.values.value_of.Given as goal

abbrev pub invariant-spans : goal.invariant-spans
invariant-spans l = value_of l.name (map (header_bytes l.block) (drop l.span-index l.spans)) ≡ value_of l.name (map (header_bytes l.block) l.spans)
