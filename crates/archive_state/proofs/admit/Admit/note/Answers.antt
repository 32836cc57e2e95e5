use Rattle.std.proofs.Common.{◌≡◌, List, ℕ, true, sym, subst}
use Rattle.archive_entry.specs.Bodies.{is_body}
use Rattle.archive_state.proofs.Absorbs.{next_fits}
use Rattle.archive_state.proofs.admit.Admit.note.Goals as goal

pub records_in-records-requires : goal.records_in-records-requires
records_in-records-requires c =
    subst (λ (body : List ℕ). is_body c.args.entry.now.kind body ≡ true) (sym c.as_slice.ensures) (next_fits c.requires.history c.args.entry.now c.requires.next).reads
