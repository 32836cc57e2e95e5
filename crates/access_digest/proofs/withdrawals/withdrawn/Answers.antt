use Rattle.std.proofs.Common.{Bool, ◌&&◌}
use Rattle.std.specs.Prelude.{int_le}
use Rattle.std.specs.List.{slice_get}
use Rattle.epochs.specs.Lines.{LineValues}
use Rattle.epochs.specs.Views.{values_of_line}
use Rattle.epoch_catalog.specs.Withdrawals.{micros_of}
use Rattle.epoch_catalog.specs.declared.withdrawals.Mark.{Mark}
use Rattle.dataselect.specs.Query.{holds}
use Rattle.access_digest.specs.Access.{is_over_by, is_there, withdraws}
use Rattle.access_digest.proofs.Isolation.{withdrawing_named}
use Rattle.access_digest.proofs.Withdrawing.{found_marked, found_later, mark_covers, mark_there}
use Rattle.access_digest.proofs.withdrawals.withdrawn.Goals as goal

pub returns-then-covers_marked : goal.returns-then-covers_marked
returns-then-covers_marked c =
    let row = c.args.row.now in
    let lines = c.lines-lines.result.now in
    let test : LineValues → Bool = λ e. withdraws e row in
    let there : Mark → Bool = λ m. is_there (λ line. test (values_of_line line)) (slice_get lines m.place) in
    let found : Mark → Bool = λ m. int_le m.start.micros row.header.start.micros && (holds (λ stop. is_over_by row.header stop) (micros_of m.reach) && there m) in
    found_marked test row.header.name lines c.args.catalog.now c.withdrawals_of.result.now found c.lines-lines.ensures.lines (λ e h. withdrawing_named e row h) (λ m h. mark_there row m (there m) h) c.covers_marked.result
    c.covers_marked.ensures c.if-covers_marked.true

pub returns-else-covers_marked : goal.returns-else-covers_marked
returns-else-covers_marked c =
    let row = c.args.row.now in
    let lines = c.lines-lines.result.now in
    let test : LineValues → Bool = λ e. withdraws e row in
    let there : Mark → Bool = λ m. is_there (λ line. test (values_of_line line)) (slice_get lines m.place) in
    let found : Mark → Bool = λ m. int_le m.start.micros row.header.start.micros && (holds (λ stop. is_over_by row.header stop) (micros_of m.reach) && there m) in
    found_later test row.header.name lines c.args.catalog.now c.withdrawals_of.result.now found c.lines-lines.ensures.lines (λ e h. withdrawing_named e row h) (λ m h. mark_there row m (there m) h) c.wide.result.now
    c.covers_marked.result c.covers_at.result c.withdrawals_of.ensures.marked (λ e m passes here starts reaches. mark_covers row e m (there m) passes here starts reaches) c.wide.ensures
    c.covers_marked.ensures c.covers_at.ensures c.if-covers_marked.false
