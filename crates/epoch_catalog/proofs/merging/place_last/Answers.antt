use Rattle.std.proofs.Common.{map, ap, sym, ◌∙◌}
use Rattle.epochs.specs.Views.{values_of_line}
use Rattle.epoch_catalog.specs.Merging.{last_place}
use Rattle.epoch_catalog.proofs.Merged.{one_taken, place_of_last}
use Rattle.epoch_catalog.proofs.merging.place_last.Goals as goal

pub returns-in-Some : goal.returns-in-Some
returns-in-Some c =
    let head = values_of_line c.args.head.now in
    let rest = c.in-Some.field-0-1.now in
    let line = c.in-Some.line.now in
    c.cmp_keys.ensures
    ∙ sym (ap (λ ls. last_place ls head) (one_taken values_of_line c.args.live.now rest line c.in-Some.ensures.cases.0) ∙ place_of_last (map values_of_line rest) (values_of_line line) head)
