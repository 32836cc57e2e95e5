use Rattle.std.proofs.Common.{◌≡◌, ◌++◌, drop}
use Rattle.dataselect.specs.Chosen.{ranks_from}
use Rattle.time_index.proofs.windows.ranks_walked.Given as goal

abbrev pub invariant-rows : goal.invariant-rows
invariant-rows g l =
    (l.wholes.sight.now ≡ l.sight)
    × (l.ranks ++ ranks_from (g.V.Sight.seen l.sight) l.query l.place (drop l.place l.rows)
    ≡ ranks_from (g.V.Sight.seen l.sight) l.query 0 l.rows)
