use Rattle.std.proofs.Common.{◌≡◌, ◌+◌, ◌≤◌, ◌++◌, map, length}
use Rattle.std.specs.List.{AllByRecursion}
use Rattle.std.specs.Vec.{vec_capacity}
use Rattle.std.specs.Vec.Iter.{into_iter_items}
use Rattle.snapshot_hall.specs.Starts.{IsNew}
use Rattle.centre_serve.proofs.seats.seat_all.Given as goal

abbrev pub invariant-seats : goal.invariant-seats
invariant-seats g l =
    record {
      ports : map (λ job. job.port) l.jobs.items ++ map (λ worker. worker.port) (into_iter_items l.rest) ≡ map (λ worker. worker.port) l.fn.workers.items;
      new : AllByRecursion (λ job. IsNew g.J.Naming.opening job.desk.place.front job.desk.place.shares job.desk.place.caught) l.jobs.items;
      places_new : AllByRecursion (λ p. IsNew g.J.Naming.opening p.front p.shares p.caught) l.places.items;
      room : length l.jobs.items + length (into_iter_items l.rest) ≤ vec_capacity l.jobs;
      trails : length l.trails.items ≡ length (into_iter_items l.rest);
      places : length l.places.items ≡ length (into_iter_items l.rest);
      capacity : length l.fn.workers.items ≤ vec_capacity l.places;
    }

abbrev pub decreases-seats : goal.decreases-seats
decreases-seats g l = length (into_iter_items l.rest)
