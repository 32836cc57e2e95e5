use mathlib.Core.List.{IsPrefix}
use Rattle.std.proofs.Common.{◌≡◌}
use Rattle.two_copies.proofs.place.Place.reach.Given as goal

abbrev pub invariant-looks : goal.invariant-looks
invariant-looks g l =
    IsPrefix l.initial.self.front l.self.front
    × (l.self.shares ≡ l.initial.self.shares)
    × (l.self.caught ≡ l.initial.self.caught)
