use Rattle.std.proofs.Common.{◌≡◌, ℕ, ◌∙◌, List, map, filter, ap}
use Rattle.epochs.specs.Lines.{LineValues}
use Rattle.epochs.specs.Views.{values_of_line}
use Rattle.station_text.specs.Asked.{is_line_asked, asked_lines}
use Rattle.station_text.specs.Found.{level_rank, stands_on}
use Rattle.station_text.specs.Lines.{line_at}
use Rattle.station_text.proofs.Inside.{if_ok_step}
use Rattle.station_text.proofs.NetworkCuts.{among_network}
use Rattle.station_text.proofs.found.asked_on_network.Goals as goal

pub returns : goal.returns
returns c =
    let live : List LineValues = c.args.catalog.now in
    let q = c.args.query.now in
    let network : List ℕ = c.args.network in
    let lines : List LineValues = map values_of_line c.lines_on-lines.result.now in
    if_ok_step (λ asked. map line_at asked ≡ filter (is_line_asked live q) lines) (λ asked. map line_at asked ≡ asked_lines live q) c.asked_among.result
    (λ asked h. h ∙ ap (filter (is_line_asked live q)) (c.lines_on-lines.ensures ∙ ap (filter (stands_on (level_rank q.level) network)) c.lines.ensures.lines) ∙ among_network live q network c.requires.level c.requires.network)
    c.asked_among.ensures
