use Rattle.std.proofs.Common.{◌≡◌, ◌+◌, ◌≤◌, ◌++◌, ◌||◌, map, length}
use Rattle.std.specs.List.{list_any}
use Rattle.std.specs.Vec.{vec_capacity}
use Rattle.std.specs.Vec.Iter.{into_iter_items}
use Rattle.centre_serve.specs.Rows.{was_stopped}
use Rattle.centre_serve.proofs.seats.rise_all.Given as goal

abbrev pub invariant-ends : goal.invariant-ends
invariant-ends g l =
    record {
      ports : l.ports.items ++ map (λ job. job.port) (into_iter_items l.rest) ≡ map (λ job. job.port) l.fn.jobs.items;
      places : l.places.items ++ map (λ job. job.desk.place) (into_iter_items l.rest) ≡ map (λ job. job.desk.place) l.fn.jobs.items;
      ports_room : length l.ports.items + length (into_iter_items l.rest) ≤ vec_capacity l.ports;
      places_room : length l.places.items + length (into_iter_items l.rest) ≤ vec_capacity l.places;
      failed : l.course.failed || list_any (λ job. job.failed) (into_iter_items l.rest) ≡ list_any (λ job. job.failed) l.fn.jobs.items;
      stopped : l.course.stopped || list_any (λ job. was_stopped job.desk.place.shares) (into_iter_items l.rest) ≡ list_any (λ job. was_stopped job.desk.place.shares) l.fn.jobs.items;
    }

abbrev pub decreases-ends : goal.decreases-ends
decreases-ends g l = length (into_iter_items l.rest)
