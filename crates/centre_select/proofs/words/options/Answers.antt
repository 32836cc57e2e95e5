use Rattle.std.proofs.Common.{[], ◌∷◌, ◌++◌, refl}
use Rattle.centre_select.specs.declared.ending.Word.TheVariants.{Quality, Minimum, Longest}
use Rattle.command_words.specs.Arguments.{words_at}
use Rattle.centre_select.specs.Words.{code_words, time_words}
use Rattle.centre_select.proofs.SelectWords.{first_refused, one_more}
use Rattle.centre_select.proofs.words.options.Goals as goal

pub returns-in-Err-clause-err : goal.returns-in-Err-clause-err
returns-in-Err-clause-err c =
    first_refused (words_at c.args.arguments.now) Quality (code_words ++ time_words) (Minimum ∷ Longest ∷ []) c.in-Err.first refl c.requires c.in-Err.ensures.err

pub returns-in-Err-minimum-clause-err : goal.returns-in-Err-minimum-clause-err
returns-in-Err-minimum-clause-err c =
    let w = words_at c.args.arguments.now in
    first_refused w Minimum (code_words ++ time_words ++ Quality ∷ []) (Longest ∷ []) c.in-Err-minimum.second refl
    (one_more w (code_words ++ time_words) Quality c.requires (c.in-Ok.quality, c.in-Ok.ensures.ok)) c.in-Err-minimum.ensures.err

pub returns-in-Err-longest-clause-err : goal.returns-in-Err-longest-clause-err
returns-in-Err-longest-clause-err c =
    let w = words_at c.args.arguments.now in
    first_refused w Longest (code_words ++ time_words ++ Quality ∷ Minimum ∷ []) [] c.in-Err-longest.third refl
    (one_more w (code_words ++ time_words ++ Quality ∷ []) Minimum (one_more w (code_words ++ time_words) Quality c.requires (c.in-Ok.quality, c.in-Ok.ensures.ok))
    (c.in-Ok-minimum.minimum, c.in-Ok-minimum.ensures.ok)) c.in-Err-longest.ensures.err
