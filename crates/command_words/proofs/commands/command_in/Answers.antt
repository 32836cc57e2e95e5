use Rattle.std.proofs.Common.{◌∙◌, sym, ap}
use Rattle.std.proofs.lemmas.Result.{IfOk-weaker}
use Rattle.std.specs.Prelude.{string_bytes}
use Rattle.command_words.specs.Commands.{command_named}
use Rattle.command_words.proofs.Named.{named_words}
use Rattle.command_words.proofs.commands.command_in.Goals as goal

pub returns : goal.returns
returns c =
    let named = c.in-Some.ensures ∙ ap command_named c.as_str-2.ensures.value in
    let read = named_words string_bytes c.args.words.now c.word-item.result c.in-Some.name c.word-item.is c.in-len1-up.len_at_least
    (sym c.is_empty.ensures ∙ c.if-is_empty.false) named (sym c.asks_help.ensures ∙ c.if-asks_help.false) in
    IfOk-weaker c.words_of_command.result _ _ (λ found h. h ∙ read) c.words_of_command.ensures
