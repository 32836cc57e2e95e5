use Rattle.std.proofs.Common.{◌≡◌, ◌∙◌, List, map, filter, ap}
use Rattle.epochs.specs.Lines.{LineValues}
use Rattle.epochs.specs.Views.{values_of_line}
use Rattle.epoch_catalog.specs.Families.{is_in}
use Rattle.epoch_catalog.specs.declared.families.Family.{Family}
use Rattle.station_text.specs.Asked.{is_line_asked, asked_lines}
use Rattle.station_text.specs.Lines.{line_at}
use Rattle.station_text.proofs.Inside.{if_ok_step}
use Rattle.station_text.proofs.Levels.{among_level}
use Rattle.station_text.proofs.found.asked_in_level.Goals as goal

pub returns : goal.returns
returns c =
    let live : List LineValues = c.args.catalog.now in
    let q = c.args.query.now in
    let lines : List LineValues = map values_of_line c.family-lines.result.now in
    if_ok_step (λ asked. map line_at asked ≡ filter (is_line_asked live q) lines) (λ asked. map line_at asked ≡ asked_lines live q) c.asked_among.result
    (λ asked h. h ∙ ap (filter (is_line_asked live q)) (c.family-lines.ensures ∙ ap (λ (f : Family). filter (is_in f) live) c.level_family.ensures) ∙ among_level live q) c.asked_among.ensures
