use Rattle.std.proofs.Common.{◌∙◌, ◌≤◌, ℕ, length, map, refl, sym, ap, subst, Result}
use Rattle.std.specs.Vec.{vec_capacity}
use Rattle.std.proofs.Math.Nat.{min-le_left}
use Rattle.desk_words.specs.Setting.{setting}
use Rattle.snapshot_hall.specs.Ends.{Closed}
use Rattle.snapshot_hall.specs.Shared.{shared_stand}
use Rattle.centre_serve.proofs.Finish.{all_by, as_opened, finish, not_short}
use Rattle.centre_serve.proofs.Seating.{as_long, length_map}
use Rattle.centre_serve.proofs.Whole.{map_map, zip_each}
use Rattle.centre_serve.specs.Rows.{job_scene, WorkerRow}
use Rattle.centre_serve.specs.Service.{site, StartedRow}
use Rattle.centre_serve.specs.declared.ending.ServeStop.{ServeStop}
use Rattle.centre_serve.proofs.serving.serve_named.Goals as goal

pub rise_all-course-requires-clause-ports : goal.rise_all-course-requires-clause-ports
rise_all-course-requires-clause-ports g c =
    let long = c.serve_all-jobs.ensures.len ∙ as_long (λ job. job.port) (λ worker. worker.port) c.seat_all-jobs.result.items c.args.workers.items c.seat_all-jobs.ensures.ports in
    (c.requires.room.0, subst (λ (n : ℕ). n ≤ vec_capacity c.args.room) (sym long) c.requires.room.1)

pub rise_all-course-requires-clause-places : goal.rise_all-course-requires-clause-places
rise_all-course-requires-clause-places g c =
    let long = c.serve_all-jobs.ensures.len ∙ as_long (λ job. job.port) (λ worker. worker.port) c.seat_all-jobs.result.items c.args.workers.items c.seat_all-jobs.ensures.ports in
    (c.seat_all-jobs.ensures.places.0, subst (λ (n : ℕ). n ≤ vec_capacity c.seat_all-jobs.new.places) (sym long) c.seat_all-jobs.ensures.places.1)

pub close-requires-2 : goal.close-requires-2
close-requires-2 g c =
    let long = c.serve_all-jobs.ensures.len ∙ as_long (λ job. job.port) (λ worker. worker.port) c.seat_all-jobs.result.items c.args.workers.items c.seat_all-jobs.ensures.ports in
    let places = ap length c.rise_all-course.ensures.places ∙ length_map (λ job. job.desk.place) c.serve_all-jobs.result.items ∙ long in
    (places ∙ sym c.requires.made.2, places ∙ sym c.requires.halts.2)

pub returns-in_default-clause-row : goal.returns-in_default-clause-row
returns-in_default-clause-row g c =
    let view = g.D.Disk.view in
    let short = c.without_memory.ensures in
    let same = ap (map g.P.Port.view) short.ports ∙ map_map g.P.Port.view (λ worker. worker.port) c.args.workers.items in
    subst (λ (ending : Result (Unit {0}) ServeStop). StartedRow (setting c.args.secret.now c.args.limits.now) (site (view c.args.archive.disk) (map (λ worker. g.P.Port.view worker.port) c.args.workers.items)) (site (view c.without_memory.result.disk) (map g.P.Port.view c.without_memory.result.ports.items)) c.args.entries c.args.archive.faults ending)
    (sym short.ending) same

pub returns-in_default-clause-starved : goal.returns-in_default-clause-starved
returns-in_default-clause-starved g c = λ short. c.without_memory.ensures.disk ∙ c.close.ensures.disk

pub returns-in-Err-clause-row : goal.returns-in-Err-clause-row
returns-in-Err-clause-row g c =
    let view = g.D.Disk.view in
    let short = c.without_memory-in-Err.ensures in
    let same = ap (map g.P.Port.view) short.ports ∙ map_map g.P.Port.view (λ worker. worker.port) c.args.workers.items in
    subst (λ (ending : Result (Unit {0}) ServeStop). StartedRow (setting c.args.secret.now c.args.limits.now) (site (view c.args.archive.disk) (map (λ worker. g.P.Port.view worker.port) c.args.workers.items)) (site (view c.without_memory-in-Err.result.disk) (map g.P.Port.view c.without_memory-in-Err.result.ports.items)) c.args.entries c.args.archive.faults ending)
    (sym short.ending) same

pub returns-in-Err-clause-starved : goal.returns-in-Err-clause-starved
returns-in-Err-clause-starved g c = λ short. c.without_memory-in-Err.ensures.disk ∙ c.in-Err.ensures.refused

pub returns-clause-row : goal.returns-clause-row
returns-clause-row g c =
    let view = g.D.Disk.view in
    let s = setting c.args.secret.now c.args.limits.now in
    let told = g.J.Naming.told in
    let faults = g.J.Naming.faults in
    let xs = c.seat_all-jobs.result.items in
    let ys = c.serve_all-jobs.result.items in
    let scene = job_scene (λ d. shared_stand told faults d.place.front d.place.shares d.place.caught) g.P.Port.view g.C.Clock.given in
    let befores = map (λ worker. g.P.Port.view worker.port) c.args.workers.items in
    let afters = map g.P.Port.view c.rise_all-course.new.ports.items in
    let was = view c.args.archive.disk in
    let halt = c.rise_all-course.result.stopped in
    let any = c.rise_all-course.result.failed in
    let rows = zip_each (λ x y. WorkerRow s (scene x) (scene y) y.failed) xs ys c.serve_all-jobs.ensures.len c.serve_all-jobs.ensures.each in
    let fresh = all_by _ _ xs (λ x new. record { seen = new.seen_is; made = ap (λ tally. tally.made) new.counted_is }) c.seat_all-jobs.ensures.new in
    let closed = subst (λ ps. Closed view told faults g.J.Naming.opening (λ p. p.front) (λ p. p.shares) ps c.close-2.result) c.rise_all-course.ensures.places c.close-2.ensures.closed in
    let before = sym (map_map g.P.Port.view (λ worker. worker.port) c.args.workers.items) ∙ ap (map g.P.Port.view) (sym c.seat_all-jobs.ensures.ports) ∙ map_map g.P.Port.view (λ job. job.port) xs in
    let after = ap (map g.P.Port.view) c.rise_all-course.ensures.ports ∙ map_map g.P.Port.view (λ job. job.port) ys in
    let row =
    finish scene (λ j. j.failed) (λ j. j.desk.place) (λ p. p.front) (λ p. p.shares) view s g.J.Naming.opening told faults xs ys c.close-2.result was rows fresh closed
    (λ y. refl) (λ y. refl) (λ y. min-le_left _ _) c.requires.told.0 c.close-2.ensures.told halt any befores afters c.rise_all-course.ensures.stopped c.rise_all-course.ensures.failed before after in
    subst (λ (ending : Result (Unit {0}) ServeStop). StartedRow s (site was befores) (site (view c.close-2.result) afters) c.args.entries c.args.archive.faults ending) (sym c.ending_of.ensures)
    (as_opened s (site was befores) (site (view c.close-2.result) afters) g.J.Naming.opening c.args.entries faults c.args.archive.faults _ c.requires.opening c.requires.told.1 row)

pub returns-clause-starved : goal.returns-clause-starved
returns-clause-starved g c = λ short. absurd (not_short c.rise_all-course.result.stopped c.rise_all-course.result.failed (sym c.ending_of.ensures ∙ short))
