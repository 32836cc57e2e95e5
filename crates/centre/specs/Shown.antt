-- The texts that are shown.
use Rattle.std.specs.Prelude.{ℕ, List}
use Rattle.command_words.specs.declared.name.CommandName.{CommandName}
use Rattle.command_words.specs.declared.name.CommandName.TheVariants.{Select, Init, Talk, Serve, Drill, Fetch, Coverage}
use Rattle.command_words.specs.declared.name.Shown.{Shown}
use Rattle.command_words.specs.declared.name.Shown.TheVariants.{Help, Version, HelpOf}
use Rattle.centre_select.specs.declared.help.TheConstants.{SELECT_HELP}
use Rattle.centre.specs.declared.help.TheConstants.{HELP, VERSION, INIT_HELP, TALK_HELP, SERVE_HELP, DRILL_HELP, FETCH_HELP, COVERAGE_HELP}

abbrev pub help_of : CommandName → List ℕ
help_of Select = SELECT_HELP.now
help_of Init = INIT_HELP.now
help_of Talk = TALK_HELP.now
help_of Serve = SERVE_HELP.now
help_of Drill = DRILL_HELP.now
help_of Fetch = FETCH_HELP.now
help_of Coverage = COVERAGE_HELP.now

abbrev pub text_shown : Shown → List ℕ
text_shown Help = HELP.now
text_shown Version = VERSION.now
text_shown (HelpOf command) = help_of command
