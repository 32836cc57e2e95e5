use Rattle.std.proofs.Common.{◌≡◌, take}
use Rattle.archive_state.specs.Lawful.{IsLawful}
use Rattle.archive_state.proofs.state.State.of.Given as goal

abbrev pub invariant-entries : goal.invariant-entries
invariant-entries l =
    record {
      taken : l.state ≡ take l.entry-index l.entries;
      lawful : IsLawful l.state;
    }
