use Rattle.std.proofs.Common.{[], ◌∷◌, ◌++◌, refl}
use Rattle.std.proofs.lemmas.Result.{err_from_is_err_and}
use Rattle.centre_select.specs.Words.{time_words, option_words}
use Rattle.centre_select.specs.declared.ending.Word.TheVariants.{Network, Station, Location, Channel}
use Rattle.command_words.specs.Arguments.{words_at}
use Rattle.centre_select.proofs.SelectWords.{first_word}
use Rattle.centre_select.proofs.words.names.Goals as goal

pub returns-in_err-network-clause-err : goal.returns-in_err-network-clause-err
returns-in_err-network-clause-err c =
    let p = err_from_is_err_and c.from_residual.result c.from_residual.ensures.1 in
    let why = first_word (words_at c.args.arguments.now) Network [] (Station ∷ Location ∷ Channel ∷ time_words ++ option_words) refl tt c.in_err-network.field-0.0 c.in_err-network.ensures.err in
    rw (p.1, p.2) why

pub returns-in_err-station-clause-err : goal.returns-in_err-station-clause-err
returns-in_err-station-clause-err c =
    let p = err_from_is_err_and c.from_residual-in_err-station.result c.from_residual-in_err-station.ensures.1 in
    let network = c.in_ok-network.ensures.ok in
    let why = first_word (words_at c.args.arguments.now) Station (Network ∷ []) (Location ∷ Channel ∷ time_words ++ option_words) refl ((_, network), tt) c.in_err-station.field-0.0 c.in_err-station.ensures.err in
    rw (p.1, p.2) why

pub returns-in_err-location-clause-err : goal.returns-in_err-location-clause-err
returns-in_err-location-clause-err c =
    let p = err_from_is_err_and c.from_residual-in_err-location.result c.from_residual-in_err-location.ensures.1 in
    let network = c.in_ok-network.ensures.ok in
    let station = c.in_ok-station.ensures.ok in
    let why = first_word (words_at c.args.arguments.now) Location (Network ∷ Station ∷ []) (Channel ∷ time_words ++ option_words) refl ((_, network), ((_, station), tt)) c.in_err-location.field-0.0 c.in_err-location.ensures.err in
    rw (p.1, p.2) why

pub returns-in_err-channel-clause-err : goal.returns-in_err-channel-clause-err
returns-in_err-channel-clause-err c =
    let p = err_from_is_err_and c.from_residual-in_err-channel.result c.from_residual-in_err-channel.ensures.1 in
    let network = c.in_ok-network.ensures.ok in
    let station = c.in_ok-station.ensures.ok in
    let location = c.in_ok-location.ensures.ok in
    let why = first_word (words_at c.args.arguments.now) Channel (Network ∷ Station ∷ Location ∷ []) (time_words ++ option_words) refl ((_, network), ((_, station), ((_, location), tt))) c.in_err-channel.field-0.0 c.in_err-channel.ensures.err in
    rw (p.1, p.2) why
