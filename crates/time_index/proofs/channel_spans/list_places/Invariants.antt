use Rattle.std.proofs.Common.{◌≡◌, ◌++◌}
use Rattle.time_index.proofs.channel_spans.list_places.Given as goal

abbrev pub invariant-places : goal.invariant-places
invariant-places l = l.list ++ l.place-iterator ≡ l.places.keys
