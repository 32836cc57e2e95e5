use Rattle.std.proofs.Common.{Bool}
use Rattle.std.specs.List.{slice_get}
use Rattle.epochs.specs.Lines.{LineValues}
use Rattle.epochs.specs.Views.{values_of_line}
use Rattle.epoch_catalog.specs.declared.withdrawals.Mark.{Mark}
use Rattle.access_digest.specs.Access.{is_there, withdraws_some}
use Rattle.access_digest.proofs.Withdrawing.{found_marked, found_later}
use Rattle.access_digest.proofs.withdrawals.is_matched.Goals as goal

pub returns-then-matches_marked : goal.returns-then-matches_marked
returns-then-matches_marked c =
    let name = c.args.name.now in
    let lines = c.lines-lines.result.now in
    let test : LineValues → Bool = λ e. withdraws_some e name in
    let found : Mark → Bool = λ m. is_there (λ line. test (values_of_line line)) (slice_get lines m.place) in
    found_marked test name lines c.args.catalog.now c.withdrawals_of.result.now found c.lines-lines.ensures.lines (λ e h. h) (λ m h. h) c.matches_marked.result c.matches_marked.ensures c.if-matches_marked.true

pub returns-else-matches_marked : goal.returns-else-matches_marked
returns-else-matches_marked c =
    let name = c.args.name.now in
    let lines = c.lines-lines.result.now in
    let test : LineValues → Bool = λ e. withdraws_some e name in
    let found : Mark → Bool = λ m. is_there (λ line. test (values_of_line line)) (slice_get lines m.place) in
    found_later test name lines c.args.catalog.now c.withdrawals_of.result.now found c.lines-lines.ensures.lines (λ e h. h) (λ m h. h) c.wide.result.now c.matches_marked.result c.matches_at.result
    c.withdrawals_of.ensures.marked (λ e m passes there starts reaches. there) c.wide.ensures c.matches_marked.ensures c.matches_at.ensures c.if-matches_marked.false
