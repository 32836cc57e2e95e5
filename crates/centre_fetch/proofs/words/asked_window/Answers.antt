use Rattle.std.proofs.Common.{subst}
use Rattle.command_words.specs.Arguments.{words_at, fetch_words_at}
use Rattle.command_words.specs.Commands.{SelectWords}
use Rattle.centre_select.specs.Words.{RefusesSelectWords, StopsWith}
use Rattle.centre_fetch.proofs.Decide.{window_there}
use Rattle.centre_fetch.proofs.words.asked_window.Goals as goal

pub window_of-requires : goal.window_of-requires
window_of-requires c = window_there (fetch_words_at c.args.arguments.now) (words_at c.as_select.result) c.in-Ok.query c.as_select.ensures c.in-Ok.ensures.ok

pub returns-in-Err-clause-err : goal.returns-in-Err-clause-err
returns-in-Err-clause-err c =
    c.stop_at.ensures (fetch_words_at c.args.arguments.now)
    (subst (λ (w : SelectWords). StopsWith (RefusesSelectWords w) c.in-Err.stop) c.as_select.ensures c.in-Err.ensures.err)
