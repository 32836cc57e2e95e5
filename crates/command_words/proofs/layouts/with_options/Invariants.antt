use Rattle.std.proofs.Common.{◌≡◌, map, take, fold}
use Rattle.clap.specs.Words.{app_of}
use Rattle.command_words.specs.Layouts.{add_option}
use Rattle.command_words.proofs.layouts.with_options.Given as goal

abbrev pub invariant-names : goal.invariant-names
invariant-names l = app_of l.built ≡ fold add_option (app_of l.fn.command) (map (λ t. t.now) (take l.name-index l.names))
