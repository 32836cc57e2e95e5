use Rattle.std.proofs.Common.{map}
use Rattle.std.specs.Prelude.{string_bytes, option_map}
use Rattle.clap.specs.Words.{found_of, rows_of}
use Rattle.command_words.proofs.Refused.{none_read, read_of}
use Rattle.command_words.specs.Arguments.{coverage_words_at}
use Rattle.command_words.specs.Commands.{coverage_words_in}
use Rattle.command_words.specs.Layouts.{app_for}
use Rattle.command_words.specs.declared.name.CommandName.TheVariants.{Coverage}
use Rattle.command_words.proofs.commands.coverage_in.Goals as goal

pub returns-in-None : goal.returns-in-None
returns-in-None c = none_read (app_for Coverage) coverage_words_in (map string_bytes c.args.words.now) (rw c.in-None.is at c.in_ok-matches.ensures)

pub returns-in-Some : goal.returns-in-Some
returns-in-Some c =
    let taken = rw c.in-Some.is at c.in_ok-matches.ensures in
    read_of (app_for Coverage) coverage_words_in (map string_bytes c.args.words.now) (rows_of (found_of c.in-Some.matches)) (option_map coverage_words_at c.coverage_with.result) taken.0 taken.1 c.coverage_with.ensures
