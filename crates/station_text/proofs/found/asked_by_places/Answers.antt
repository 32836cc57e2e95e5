use Rattle.std.proofs.Common.{◌≡◌, ◌∙◌, List, [], map, filter, ap}
use Rattle.std.specs.List.{flat_map, filter_map}
use Rattle.list_laws.specs.InOrder.{in_order}
use Rattle.dataselect.specs.declared.query.Selection.{Selection}
use Rattle.station_text.specs.Asked.{asked_lines}
use Rattle.station_text.specs.Found.{place_of, place_cmp, asked_at}
use Rattle.station_text.specs.Groups.{is_of}
use Rattle.station_text.specs.Lines.{line_at}
use Rattle.station_text.proofs.Inside.{if_ok_step}
use Rattle.station_text.proofs.Grouped.{groups_match}
use Rattle.station_text.proofs.PlacesFound.{found_at_places}
use Rattle.station_text.proofs.found.asked_by_places.Goals as goal

pub returns : goal.returns
returns c =
    let live = c.args.catalog.now in
    let q = c.args.query.now in
    let places = c.in_ok-places.places.keys in
    if_ok_step (λ lines. map line_at lines ≡ flat_map (asked_at live q) places) (λ lines. map line_at lines ≡ asked_lines live q) c.asked_at_places.result
    (λ lines h. h ∙ found_at_places live q places c.lines.ensures.kept c.requires.level c.requires.places
    (c.in_ok-places.ensures ∙ ap (λ (ss : List Selection). in_order place_cmp [] (filter_map place_of ss)) c.as_slice-selections.ensures)) c.asked_at_places.ensures

pub asked_at_places-requires : goal.asked_at_places-requires
asked_at_places-requires c =
    let q = c.args.query.now in
    λ p. c.in_ok-groups.ensures p ∙ ap (λ (ss : List Selection). filter (is_of p) ss) c.as_slice-selections.ensures ∙ groups_match p q.selections c.requires.places
