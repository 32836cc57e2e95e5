-- What a shared desk stands for.
use Rattle.std.specs.Prelude.{ℕ, ◌-◌, ◌^◌, Bool, false, List, min}
use Rattle.archive_entry.specs.declared.entry.Entry.{Entry}
use Rattle.desk_words.specs.Stand.{Stand, nothing}
use Rattle.two_copies.specs.Tallies.{Tally}

-- others lengthen what it sees too, so nothing is left that is its own alone
abbrev pub shared_stand : Bool → ℕ → List Entry → Tally → ℕ → Stand
shared_stand told faults seen tally caught = record {
  footing = record { told = told; faults = faults };
  seen = seen;
  stops = min tally.stops (2 ^ 64 - 1);
  caught = caught;
  made = tally.made;
  alone = false;
  left = nothing;
}
