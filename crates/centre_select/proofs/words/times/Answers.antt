use Rattle.std.proofs.Common.{[], ◌∷◌, ◌++◌, refl}
use Rattle.centre_select.specs.declared.ending.Word.TheVariants.{Start, End}
use Rattle.command_words.specs.Arguments.{words_at}
use Rattle.centre_select.specs.Words.{code_words, option_words}
use Rattle.centre_select.proofs.SelectWords.{first_refused, one_more}
use Rattle.centre_select.proofs.words.times.Goals as goal

pub returns-in-Err-clause-err : goal.returns-in-Err-clause-err
returns-in-Err-clause-err c =
    first_refused (words_at c.args.arguments.now) Start code_words (End ∷ option_words) c.in-Err.refusal refl c.requires c.in-Err.ensures.err

pub returns-in-Err-moment-clause-err : goal.returns-in-Err-moment-clause-err
returns-in-Err-moment-clause-err c =
    let w = words_at c.args.arguments.now in
    first_refused w End (code_words ++ Start ∷ []) option_words c.in-Err-moment.late refl
    (one_more w code_words Start c.requires (c.in-Ok.from.micros, c.in-Ok.ensures.ok)) c.in-Err-moment.ensures.err
