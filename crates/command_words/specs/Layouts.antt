-- Which words each command takes behind its name, as clap reads them.
use Rattle.std.specs.Prelude.{List, [], ◌∷◌, true, Some, fold, codes}
use Rattle.clap.specs.Words.{App, Text, new_app, new_rule, with_rule}
use Rattle.command_words.specs.declared.name.CommandName.{CommandName}
use Rattle.command_words.specs.declared.name.CommandName.TheVariants.{Select, Init, Talk, Serve, Drill, Fetch, Coverage}

-- a position: a word by itself, which has to be there
abbrev pub add_position : App → Text → App
add_position app id = with_rule app (record (new_rule id) { required = true })

-- an option with a value, which has to be there
abbrev pub add_required : App → Text → App
add_required app id = with_rule app (record (new_rule id) { long = Some id; required = true })

-- an option with a value, which may be left out
abbrev pub add_option : App → Text → App
add_option app id = with_rule app (record (new_rule id) { long = Some id })

-- a command with these positions, in order, and these options, in any place
abbrev pub app_with : Text → (positions required options : List Text) → App
app_with name positions required options =
    fold add_option (fold add_required (fold add_position (new_app name) positions) required) options

-- `select NET STA LOC CHA START END` with `--quality`, `--minimum`, `--longest` and `--max-bytes`; `init` with `--journal`,
-- `--operator` and `--ha1`; `talk` with `--journal` and its limits; `drill N` with `--journal`;
-- `serve` with `--journal`, `--listen`, `--workers`, `--sessions` and the limits of `talk`;
-- `fetch NET STA LOC CHA START END` with `--peer`;
-- `coverage START END` with `--journal` and `--max-lines`
unfoldable pub app_for : CommandName → App
app_for Select =
    app_with (codes "select") (codes "NET" ∷ codes "STA" ∷ codes "LOC" ∷ codes "CHA" ∷ codes "START" ∷ codes "END" ∷ []) []
    (codes "quality" ∷ codes "minimum" ∷ codes "longest" ∷ codes "max-bytes" ∷ [])
app_for Init = app_with (codes "init") [] (codes "journal" ∷ codes "operator" ∷ codes "ha1" ∷ []) []
app_for Talk =
    app_with (codes "talk") [] (codes "journal" ∷ [])
    (codes "max-bytes" ∷ codes "max-lines" ∷ codes "max-records" ∷ codes "max-archive" ∷ [])
app_for Serve =
    app_with (codes "serve") [] (codes "journal" ∷ codes "listen" ∷ [])
    (codes "workers" ∷ codes "sessions" ∷ codes "max-bytes" ∷ codes "max-lines" ∷ codes "max-records" ∷ codes "max-archive" ∷ [])
app_for Drill = app_with (codes "drill") (codes "N" ∷ []) (codes "journal" ∷ []) []
app_for Fetch =
    app_with (codes "fetch") (codes "NET" ∷ codes "STA" ∷ codes "LOC" ∷ codes "CHA" ∷ codes "START" ∷ codes "END" ∷ []) (codes "peer" ∷ []) []
app_for Coverage = app_with (codes "coverage") (codes "START" ∷ codes "END" ∷ []) (codes "journal" ∷ []) (codes "max-lines" ∷ [])
