use Rattle.std.proofs.Common.{◌∙◌}
use Rattle.time_index.proofs.PlacesFound.{channel_places_are}
use Rattle.time_index.proofs.indexed.TimeIndexShelf.places_named.Goals as goal

pub returns : goal.returns
returns c =
    let shelf = c.args.self.now in
    c.in_ok-places.ensures ∙ channel_places_are shelf.rows.items shelf.channels shelf.index c.args.name.now
