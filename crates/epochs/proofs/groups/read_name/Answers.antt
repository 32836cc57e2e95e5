use Rattle.std.proofs.Common.{◌∷◌, []}
use Rattle.std.proofs.lemmas.Result.{err_from_is_err_and}
use Rattle.channel_globs.specs.declared.nslc.Part.TheVariants.{Network, Station, Location, Channel}
use Rattle.epochs.specs.Kinds.{CodeOf}
use Rattle.epochs.specs.Fields.{code}
use Rattle.epochs.proofs.LadderSteps.{field_among}
use Rattle.epochs.proofs.groups.read_name.Goals as goal

pub returns-in_err-station-clause-refused : goal.returns-in_err-station-clause-refused
returns-in_err-station-clause-refused c =
    let p = err_from_is_err_and c.from_residual-in_err-station.result c.from_residual-in_err-station.ensures.1 in
    rw (p.1, p.2) (field_among (CodeOf Network ∷ []) (CodeOf Station) (CodeOf Location ∷ CodeOf Channel ∷ []) c.args.number (c.args.network.now ∷ []) c.args.station.now (c.args.location.now ∷ c.args.channel.now ∷ []) (code c.in_ok-network.network ∷ []) c.in_err-station.field-0.0 (c.in_ok-network.ensures.value, tt) c.in_err-station.ensures.refused)

pub returns-in_err-location-clause-refused : goal.returns-in_err-location-clause-refused
returns-in_err-location-clause-refused c =
    let p = err_from_is_err_and c.from_residual-in_err-location.result c.from_residual-in_err-location.ensures.1 in
    rw (p.1, p.2) (field_among (CodeOf Network ∷ CodeOf Station ∷ []) (CodeOf Location) (CodeOf Channel ∷ []) c.args.number (c.args.network.now ∷ c.args.station.now ∷ []) c.args.location.now (c.args.channel.now ∷ []) (code c.in_ok-network.network ∷ code c.in_ok-station.station ∷ []) c.in_err-location.field-0.0 (c.in_ok-network.ensures.value, (c.in_ok-station.ensures.value, tt)) c.in_err-location.ensures.refused)

pub returns-in_err-channel-clause-refused : goal.returns-in_err-channel-clause-refused
returns-in_err-channel-clause-refused c =
    let p = err_from_is_err_and c.from_residual-in_err-channel.result c.from_residual-in_err-channel.ensures.1 in
    rw (p.1, p.2) (field_among (CodeOf Network ∷ CodeOf Station ∷ CodeOf Location ∷ []) (CodeOf Channel) [] c.args.number (c.args.network.now ∷ c.args.station.now ∷ c.args.location.now ∷ []) c.args.channel.now [] (code c.in_ok-network.network ∷ code c.in_ok-station.station ∷ code c.in_ok-location.location ∷ []) c.in_err-channel.field-0.0 (c.in_ok-network.ensures.value, (c.in_ok-station.ensures.value, (c.in_ok-location.ensures.value, tt))) c.in_err-channel.ensures.refused)
