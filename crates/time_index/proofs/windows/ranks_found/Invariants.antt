use Rattle.std.proofs.Common.{◌≡◌, ◌++◌, drop}
use Rattle.time_index.specs.Windows.{ranks_found}
use Rattle.time_index.proofs.windows.ranks_found.Given as goal

abbrev pub invariant-selections : goal.invariant-selections
invariant-selections g l =
    (l.wholes.sight.now ≡ l.sight)
    × (l.ranks ++ ranks_found (g.V.Sight.seen l.sight) l.query l.rows l.channels (drop l.selection-index l.query.selections)
    ≡ ranks_found (g.V.Sight.seen l.sight) l.query l.rows l.channels l.query.selections)
