use Rattle.std.proofs.Common.{rules, of_calls, ◌≡◌, ◌&&◌, ◌∙◌, Bool, ℕ, true, false, List, take, ap}
use Rattle.std.specs.Prelude.{int_le}
use Rattle.std.specs.List.{slice_get}
use Rattle.std.specs.List.Sorted.{IsPartitionPoint}
use Rattle.std.proofs.lemmas.List.Sorted.{IsPartitionPoint-from_clause}
use Rattle.epochs.specs.Views.{values_of_line}
use Rattle.epoch_catalog.specs.Withdrawals.{micros_of}
use Rattle.epoch_catalog.specs.declared.withdrawals.Mark.{Mark}
use Rattle.dataselect.specs.Query.{holds}
use Rattle.access_digest.specs.Access.{is_over_by, is_there, withdraws}
use Rattle.access_digest.proofs.MarkSearch.{first_rising, found_first, found_while, reach_stays, starts_parted}
use Rattle.access_digest.proofs.withdrawals.covers_marked.Goals as goal

pub returns : goal.returns
returns c =
    let ms : List Mark = c.args.marks.now in
    let row = c.args.row.now in
    let n : ℕ = c.partition_point-begun.result in
    let s : Mark → Bool = λ m. int_le m.start.micros row.header.start.micros in
    let p : Mark → Bool = λ m. holds (λ stop. is_over_by row.header stop) (micros_of m.reach) in
    let f : Mark → Bool = λ m. is_there (λ line. withdraws (values_of_line line) row) (slice_get c.args.lines.now m.place) in
    let parts : IsPartitionPoint (λ m. s m ≡ true) (λ m. s m ≡ false) ms n =
    IsPartitionPoint-from_clause s ms n c.partition_point-begun.ensures.partitioned (starts_parted row.header.start.micros ms c.requires) (λ a r g k. search (rules, of_calls)) in
    c.covers_reaching.ensures ∙ found_while p f (take n ms) (reach_stays row.header (take n ms) (first_rising n ms c.requires)) ∙ found_first s (λ m. p m && f m) ms n parts
