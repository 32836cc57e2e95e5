use Rattle.std.proofs.Common.{◌∙◌, ap, List, ℕ}
use Rattle.std.specs.BTreeMap.{get}
use Rattle.mseed_header.specs.declared.row.Row.{Row}
use Rattle.channel_globs.specs.Names.{name_cmp}
use Rattle.time_index.specs.declared.spot.Spot.{Spot}
use Rattle.time_index.specs.Doubles.{is_twin}
use Rattle.time_index.proofs.Twins.{twins_decide}
use Rattle.time_index.proofs.indexed.TimeIndex.is_held.Goals as goal

pub returns : goal.returns
returns c =
    let rows = c.args.self.now.rows.items in
    let row = c.args.row.now in
    let channel = get name_cmp c.args.self.now.channels row.header.name in
    c.is_twin.ensures
    ∙ ap (λ (xs : List Row). is_twin xs c.as_slice.result.now c.args.spot channel) c.deref.ensures.value
    ∙ ap (λ (image : List ℕ). is_twin rows image c.args.spot channel) c.as_slice.ensures
    ∙ ap (λ (spot : Spot). is_twin rows row.image spot channel) c.requires.spot
    ∙ twins_decide rows c.args.self.now.channels c.args.self.now.index row
