use Rattle.std.proofs.Common.{◌≡◌, map, take}
use Rattle.dataselect.specs.MergedSpans.{value_of}
use Rattle.availability.specs.Channels.{time_span_of}
use Rattle.availability.proofs.channels.time_spans.Given as goal

abbrev pub invariant-spans : goal.invariant-spans
invariant-spans l = l.spans ≡ map (λ s. time_span_of (value_of s)) (take l.span-index l.merged)
