use Rattle.std.proofs.Common.{◌≡◌, ◌+◌, ◌-◌, ◌≤◌, length, drop}
use Rattle.centre_select.specs.Intake.{Passes}
use Rattle.centre_select.proofs.intake.shelve_front.Given as goal

-- the records before the rest are shelved
abbrev pub invariant-records : goal.invariant-records
invariant-records g l = record {
  passes : Passes l.query l.bytes l.first (g.H.Shelf.rows l.fn.shelf) l.rest l.place (g.H.Shelf.rows l.shelf);
  back : l.rest ≡ drop (length l.bytes - length l.rest) l.bytes;
  within : length l.rest ≤ length l.bytes;
  few : l.place + length l.rest ≤ l.first + length l.bytes;
  room : length (g.H.Shelf.rows l.shelf) + length l.rest ≤ length (g.H.Shelf.rows l.fn.shelf) + length l.bytes;
}

abbrev pub decreases-records : goal.decreases-records
decreases-records g l = length l.rest
