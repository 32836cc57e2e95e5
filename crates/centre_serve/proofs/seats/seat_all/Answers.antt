use Rattle.std.proofs.Common.{◌≡◌, ◌≤◌, false, ℕ, [], ◌∷◌, ◌++◌, length, sym, subst, refl, rules}
use Rattle.std.specs.List.{AllByRecursion}
use Rattle.std.specs.Vec.Iter.{into_iter_items}
use Rattle.snapshot_hall.specs.Starts.{IsNew}
use Rattle.centre_serve.proofs.Seating.{all_push, all_pop, goes_over, all_over, none_of, room_kept, shorter}
use Rattle.centre_serve.proofs.seats.seat_all.Goals as goal

pub seats-preserved : goal.seats-preserved
seats-preserved g c =
    let kept = c.seats.invariant in
    let rest = into_iter_items c.next.new.self in
    let is_rest : into_iter_items c.seats.rest ≡ c.in-Some.worker ∷ rest = c.in-Some.ensures.cases.0 in
    let is_trails : c.seats.trails.items ≡ c.pop.new.self.items ++ c.in-Some-pop.trail ∷ [] = c.in-Some-pop.ensures.items in
    let is_places : c.seats.places.items ≡ c.pop-in-Some.new.self.items ++ c.in-Some-pop-2.place ∷ [] = c.in-Some-pop-2.ensures.items in
    let is_jobs = c.push_reserved.ensures.items in
    let new = subst (λ l. AllByRecursion (λ p. IsNew g.J.Naming.opening p.front p.shares p.caught) l) is_places kept.places_new in
    let parts = all_pop (λ p. IsNew g.J.Naming.opening p.front p.shares p.caught) c.pop-in-Some.new.self.items c.in-Some-pop-2.place new in
    record {
      ports = goes_over (λ job. job.port) (λ worker. worker.port) c.seats.jobs.items c.push_reserved.new.self.items _ (into_iter_items c.seats.rest) rest c.in-Some.worker _ is_jobs is_rest refl kept.ports;
      new =
          subst (λ l. AllByRecursion (λ job. IsNew g.J.Naming.opening job.desk.place.front job.desk.place.shares job.desk.place.caught) l) (sym is_jobs)
          (all_push (λ job. IsNew g.J.Naming.opening job.desk.place.front job.desk.place.shares job.desk.place.caught) c.seats.jobs.items (record { desk = c.new.result; port = c.in-Some.worker.port; clock = c.in-Some.worker.clock; trail = c.in-Some-pop.trail; failed = false }) kept.new
          (subst (λ p. IsNew g.J.Naming.opening p.front p.shares p.caught) (sym c.new.ensures) parts.1));
      places_new = parts.0;
      room = room_kept c.seats.jobs.items c.push_reserved.new.self.items _ (into_iter_items c.seats.rest) rest c.in-Some.worker _ _ is_jobs is_rest c.push_reserved.ensures.capacity kept.room;
      trails = shorter c.seats.trails.items c.pop.new.self.items c.in-Some-pop.trail (into_iter_items c.seats.rest) rest c.in-Some.worker is_trails is_rest kept.trails;
      places = shorter c.seats.places.items c.pop-in-Some.new.self.items c.in-Some-pop-2.place (into_iter_items c.seats.rest) rest c.in-Some.worker is_places is_rest kept.places;
      capacity = subst (λ (n : ℕ). length c.args.workers.items ≤ n) (sym c.pop-in-Some.ensures.capacity) kept.capacity;
    }

pub returns-clause-ports : goal.returns-clause-ports
returns-clause-ports g c =
    let none : length (into_iter_items c.seats.rest) ≡ 0 = search rules in
    all_over (λ job. job.port) (λ worker. worker.port) c.seats.jobs.items (into_iter_items c.seats.rest) _ none c.seats.invariant.ports

pub returns-clause-places : goal.returns-clause-places
returns-clause-places g c =
    let none : length (into_iter_items c.seats.rest) ≡ 0 = search rules in
    (none_of c.seats.places.items (into_iter_items c.seats.rest) c.seats.invariant.places none, c.seats.invariant.capacity)
