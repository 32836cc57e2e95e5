use Rattle.std.proofs.Common.{◌≡◌, replicate, None}
use Rattle.query_parameters.proofs.words.no_words.Given as goal

abbrev pub invariant-fill : goal.invariant-fill
invariant-fill l = l.words.items ≡ replicate l._place None
