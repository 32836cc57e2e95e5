use Rattle.std.proofs.Common.{◌≡◌, ◌++◌, map, ℕ}
use Rattle.time_index.specs.Index.{AreOfName}
use Rattle.time_index.specs.Windows.{passes_by, ranks_at}
use Rattle.time_index.specs.declared.spot.Spot.{Spot}
use Rattle.time_index.proofs.windows.add_between.Given as goal

abbrev pub invariant-spots : goal.invariant-spots
invariant-spots g l = record {
  ranks :
      l.ranks ++ ranks_at (passes_by (g.V.Sight.seen l.asked.sight.now) l.asked.query.now l.asked.selection.now) l.rows (map {A = Spot} {B = ℕ} (λ s. s.place) l.spot-iterator)
      ≡ l.initial.ranks ++ ranks_at (passes_by (g.V.Sight.seen l.asked.sight.now) l.asked.query.now l.asked.selection.now) l.rows (map {A = Spot} {B = ℕ} (λ s. s.place) l.initial.spot-iterator);
  of_it : AreOfName l.rows l.asked.name.now l.spot-iterator;
}
