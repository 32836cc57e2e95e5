use Rattle.std.proofs.Common.{◌≡◌, length, rules}
use Rattle.std.specs.Vec.Iter.{into_iter_items}
use Rattle.centre_serve.proofs.Seating.{rest_over, none_over}
use Rattle.centre_serve.specs.Rows.{was_stopped}
use Rattle.centre_serve.proofs.seats.rise_all.Goals as goal

pub returns-clause-ports : goal.returns-clause-ports
returns-clause-ports g c =
    let none : length (into_iter_items c.ends.rest) ≡ 0 = search rules in
    rest_over c.ends.ports.items (λ job. job.port) (into_iter_items c.ends.rest) _ none c.ends.invariant.ports

pub returns-clause-places : goal.returns-clause-places
returns-clause-places g c =
    let none : length (into_iter_items c.ends.rest) ≡ 0 = search rules in
    rest_over c.ends.places.items (λ job. job.desk.place) (into_iter_items c.ends.rest) _ none c.ends.invariant.places

pub returns-clause-failed : goal.returns-clause-failed
returns-clause-failed g c =
    let none : length (into_iter_items c.ends.rest) ≡ 0 = search rules in
    none_over c.ends.course.failed (λ job. job.failed) (into_iter_items c.ends.rest) _ none c.ends.invariant.failed

pub returns-clause-stopped : goal.returns-clause-stopped
returns-clause-stopped g c =
    let none : length (into_iter_items c.ends.rest) ≡ 0 = search rules in
    none_over c.ends.course.stopped (λ job. was_stopped job.desk.place.shares) (into_iter_items c.ends.rest) _ none c.ends.invariant.stopped
