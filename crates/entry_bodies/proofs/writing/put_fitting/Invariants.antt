use Rattle.std.proofs.Common.{◌≡◌, ◌++◌, length}
use Rattle.std.specs.List.{AllByRecursion}
use Rattle.archive_entry.specs.Spelling.{IsEntry}
use Rattle.entry_bodies.specs.Bodies.{pieces_of, fitting}
use Rattle.entry_bodies.proofs.writing.put_fitting.Given as goal

abbrev pub invariant-entries : goal.invariant-entries
invariant-entries l =
    record {
      put : l.fn.body ++ pieces_of (fitting l.fn.most l.fn.entries) ≡ l.body ++ pieces_of (fitting l.left l.rest);
      spelled : AllByRecursion IsEntry l.rest;
    }

abbrev pub decreases-entries : goal.decreases-entries
decreases-entries l = length l.rest
