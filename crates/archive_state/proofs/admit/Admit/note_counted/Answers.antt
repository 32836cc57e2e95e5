use Rattle.std.proofs.Common.{◌∙◌, ◌+◌, ◌≤◌, ℕ, List, length, ap, sym, subst}
use Rattle.epochs.specs.Lines.{LineValues}
use Rattle.epoch_rules.specs.Kept.{AreKept}
use Rattle.archive_state.specs.Authors.{with_entry}
use Rattle.archive_state.specs.History.{lines_of}
use Rattle.archive_state.proofs.Room.{next_kept, next_has_room}
use Rattle.archive_state.proofs.Stands.{stands_next}
use Rattle.archive_state.proofs.admit.Admit.note_counted.Goals as goal

pub with_entry-sums-requires-clause-some : goal.with_entry-sums-requires-clause-some
with_entry-sums-requires-clause-some c = (next_has_room c.requires.next.history c.args.entry.now c.requires.next.next).0

pub with_entry-sums-requires-clause-room : goal.with_entry-sums-requires-clause-room
with_entry-sums-requires-clause-room c =
    subst (λ (n : ℕ). n + length c.args.entry.now.body ≤ 536_870_912) (sym c.requires.next.stands.bytes) (next_has_room c.requires.next.history c.args.entry.now c.requires.next.next).1

pub take_lines-requires : goal.take_lines-requires
take_lines-requires c =
    subst (λ (live : List LineValues). AreKept live (lines_of c.args.entry.now)) (sym c.requires.next.stands.live) (next_kept c.requires.next.history c.args.entry.now c.requires.next.next)

pub returns-clause-ok : goal.returns-clause-ok
returns-clause-ok c = λ h is next.
    stands_next c.args.self.now _ h c.args.entry.now is next
    (record { live = c.in_ok-take_lines.ensures.ok; count = c.with_entry-sums.ensures.count; records = c.with_entry-sums.ensures.records; bytes = c.with_entry-sums.ensures.bytes })
    (λ author. c.put_entry.ensures author ∙ ap (with_entry c.args.entry.now author) (c.make_room.ensures.same author))
