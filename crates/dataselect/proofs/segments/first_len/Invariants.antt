use Rattle.std.proofs.Common.{◌≡◌, ◌+◌, ◌-◌, drop, slice_index}
use Rattle.dataselect.specs.Runs.{run_len_by, more_by}
use Rattle.dataselect.specs.Segments.{breaks_at}
use Rattle.dataselect.proofs.segments.first_len.Given as goal

abbrev pub invariant-places : goal.invariant-places
invariant-places l = run_len_by (breaks_at l.rows) l.places ≡ l.i + more_by (breaks_at l.rows) (slice_index l.places (l.i - 1)) (drop l.i l.places)
