-- The command that the words of the command line give.
use Rattle.std.specs.Prelude.{◌&&◌, ℕ, Bool, false, if◌then◌else◌, List, [], ◌∷◌, codes, Option, Some, None, option_map}
use Rattle.std.specs.Str.{bytes_eq}
use Rattle.clap.specs.Words.{Row, Text}
use Rattle.epochs.specs.Fields.{is_user_name, is_ha1}
use Rattle.command_words.specs.Layouts.{app_for}
use Rattle.command_words.specs.Values.{value_or, limit_in, number_or, number_if, read_by}
use Rattle.command_words.specs.declared.name.CommandName.{CommandName}
use Rattle.command_words.specs.declared.name.CommandName.TheVariants as name
use Rattle.command_words.specs.declared.name.Shown.{Shown}
use Rattle.command_words.specs.declared.name.Shown.TheVariants.{Help, Version, HelpOf}

-- what the words of `select` say behind its name: six positions, and its options, each by its default where it isn't given
pub record SelectWords : Type 0 where
  pub network : Text
  pub station : Text
  pub location : Text
  pub channel : Text
  pub start : Text
  pub end : Text
  pub quality : Text
  pub minimum : Text
  pub longest : Text
  -- how many bytes the answer may have
  pub limit : ℕ

-- what the words of `init` say: the path of the journal, and the operator's user name and HA1
pub record InitWords : Type 0 where
  pub journal : Text
  pub operator : Text
  pub ha1 : Text

-- the limits that a command has for its answers and for the archive
pub record LimitWords : Type 0 where
  pub max_bytes : ℕ
  pub max_lines : ℕ
  pub max_records : ℕ
  pub max_archive : ℕ

-- what the words of `talk` say: the path of the journal, and the limits
pub record TalkWords : Type 0 where
  pub journal : Text
  pub limits : LimitWords

-- what the words of `serve` say: the path of the journal, the address to listen at, how many workers there are, behind how
-- many sessions each of them ends, if it does, and the limits
pub record ServeWords : Type 0 where
  pub journal : Text
  pub address : Text
  pub workers : ℕ
  pub sessions : Option ℕ
  pub limits : LimitWords

-- what the words of `drill` say: the path of the journal, and how many records are made
pub record DrillWords : Type 0 where
  pub journal : Text
  pub records : ℕ

-- what the words of `fetch` say: the address of the data centre, and six positions
pub record FetchWords : Type 0 where
  pub peer : Text
  pub network : Text
  pub station : Text
  pub location : Text
  pub channel : Text
  pub start : Text
  pub end : Text

-- what the words of `coverage` say: the path of the journal, two positions, and how many lines its report may have
pub record CoverageWords : Type 0 where
  pub journal : Text
  pub start : Text
  pub end : Text
  pub max_lines : ℕ

-- what the program can be asked to do
pub data Command : Type 0 where
  select : SelectWords → Command
  init : InitWords → Command
  talk : TalkWords → Command
  serve : ServeWords → Command
  drill : DrillWords → Command
  fetch : FetchWords → Command
  coverage : CoverageWords → Command
  show : Shown → Command

abbrev pub select_words_with : List Row → ℕ → SelectWords
select_words_with rows limit = record {
  network = value_or [] (codes "NET") rows;
  station = value_or [] (codes "STA") rows;
  location = value_or [] (codes "LOC") rows;
  channel = value_or [] (codes "CHA") rows;
  start = value_or [] (codes "START") rows;
  end = value_or [] (codes "END") rows;
  quality = value_or (codes "B") (codes "quality") rows;
  minimum = value_or (codes "0") (codes "minimum") rows;
  longest = value_or (codes "false") (codes "longest") rows;
  limit = limit;
}

-- the values of `select`, if its limit is one
abbrev pub select_words_in : List Row → Option SelectWords
select_words_in rows = option_map (select_words_with rows) (limit_in 67_108_864 (codes "max-bytes") rows)

-- the values of `init`, if they are an operator's name and an HA1
abbrev pub init_words_with : (journal operator ha1 : Text) → Option InitWords
init_words_with journal operator ha1 =
    if is_user_name operator && is_ha1 ha1 then Some (record { journal = journal; operator = operator; ha1 = ha1 }) else None

abbrev pub init_words_in : List Row → Option InitWords
init_words_in rows = init_words_with (value_or [] (codes "journal") rows) (value_or [] (codes "operator") rows) (value_or [] (codes "ha1") rows)

-- four limits, if each is one
abbrev pub limits_with : (bytes lines records archive : Option ℕ) → Option LimitWords
limits_with (Some bytes) (Some lines) (Some records) (Some archive) =
    Some (record { max_bytes = bytes; max_lines = lines; max_records = records; max_archive = archive })
limits_with _ _ _ _ = None

-- the limits on the bytes and the lines of an answer, and on the records and the bytes of the archive
abbrev pub limits_in : List Row → Option LimitWords
limits_in rows =
    limits_with (limit_in 67_108_864 (codes "max-bytes") rows) (limit_in 100_000 (codes "max-lines") rows)
    (limit_in 2_097_152 (codes "max-records") rows) (limit_in 536_870_912 (codes "max-archive") rows)

abbrev pub talk_words_with : Text → LimitWords → TalkWords
talk_words_with journal limits = record { journal = journal; limits = limits }

abbrev pub talk_words_in : List Row → Option TalkWords
talk_words_in rows = option_map (talk_words_with (value_or [] (codes "journal") rows)) (limits_in rows)

-- an address, numbers and limits, if each of these is one
abbrev pub serve_words_with : (journal address : Text) → Option ℕ → Option (Option ℕ) → Option LimitWords → Option ServeWords
serve_words_with journal address (Some workers) (Some sessions) (Some limits) =
    Some (record { journal = journal; address = address; workers = workers; sessions = sessions; limits = limits })
serve_words_with journal address _ _ _ = None

-- the values of `serve`: from 1 to 16 workers, one by default, and from 1 to 10^18 sessions, if that is limited
abbrev pub serve_words_in : List Row → Option ServeWords
serve_words_in rows =
    serve_words_with (value_or [] (codes "journal") rows) (value_or [] (codes "listen") rows)
    (number_or 1 16 (codes "workers") rows) (number_if 1_000_000_000_000_000_000 (codes "sessions") rows) (limits_in rows)

abbrev pub drill_words_with : Text → ℕ → DrillWords
drill_words_with journal records = record { journal = journal; records = records }

-- the values of `drill`, if its number is one from 1 to 200,000
abbrev pub drill_words_in : List Row → Option DrillWords
drill_words_in rows = option_map (drill_words_with (value_or [] (codes "journal") rows)) (limit_in 200_000 (codes "N") rows)

abbrev pub fetch_words_with : List Row → FetchWords
fetch_words_with rows = record {
  peer = value_or [] (codes "peer") rows;
  network = value_or [] (codes "NET") rows;
  station = value_or [] (codes "STA") rows;
  location = value_or [] (codes "LOC") rows;
  channel = value_or [] (codes "CHA") rows;
  start = value_or [] (codes "START") rows;
  end = value_or [] (codes "END") rows;
}

-- the values of `fetch`: whatever they are
abbrev pub fetch_words_in : List Row → Option FetchWords
fetch_words_in rows = Some (fetch_words_with rows)

abbrev pub coverage_words_with : (journal start end : Text) → ℕ → CoverageWords
coverage_words_with journal start end lines = record { journal = journal; start = start; end = end; max_lines = lines }

-- the values of `coverage`, if its limit is one
abbrev pub coverage_words_in : List Row → Option CoverageWords
coverage_words_in rows =
    option_map (coverage_words_with (value_or [] (codes "journal") rows) (value_or [] (codes "START") rows) (value_or [] (codes "END") rows))
    (limit_in 100_000 (codes "max-lines") rows)

-- what the words give that begin with a command's name
abbrev pub words_of_command : CommandName → List Text → Option Command
words_of_command name.Select words = option_map select (read_by (app_for name.Select) select_words_in words)
words_of_command name.Init words = option_map init (read_by (app_for name.Init) init_words_in words)
words_of_command name.Talk words = option_map talk (read_by (app_for name.Talk) talk_words_in words)
words_of_command name.Serve words = option_map serve (read_by (app_for name.Serve) serve_words_in words)
words_of_command name.Drill words = option_map drill (read_by (app_for name.Drill) drill_words_in words)
words_of_command name.Fetch words = option_map fetch (read_by (app_for name.Fetch) fetch_words_in words)
words_of_command name.Coverage words = option_map coverage (read_by (app_for name.Coverage) coverage_words_in words)

-- the command of a name
abbrev pub command_named : Text → Option CommandName
command_named word =
    if bytes_eq word (codes "select") then Some name.Select
    else (if bytes_eq word (codes "init") then Some name.Init
    else (if bytes_eq word (codes "talk") then Some name.Talk
    else (if bytes_eq word (codes "drill") then Some name.Drill
    else (if bytes_eq word (codes "serve") then Some name.Serve
    else (if bytes_eq word (codes "fetch") then Some name.Fetch
    else (if bytes_eq word (codes "coverage") then Some name.Coverage else None))))))

-- a word that is a command by itself
abbrev pub lone_command_of : Text → Option Command
lone_command_of word =
    if bytes_eq word (codes "--help") then Some (show Help)
    else (if bytes_eq word (codes "--version") then Some (show Version) else None)

-- the one word behind a command's name that shows what its words are
abbrev pub asks_help : List Text → Bool
asks_help (word ∷ []) = bytes_eq word (codes "--help")
asks_help _ = false

-- what a command's name gives with the words behind it
abbrev pub named_command_of : Option CommandName → Text → List Text → Option Command
named_command_of None word behind = None
named_command_of (Some command) word behind =
    if asks_help behind then Some (show (HelpOf command)) else words_of_command command (word ∷ behind)

-- the words give this command, or none
abbrev pub command_of : List Text → Option Command
command_of [] = None
command_of (word ∷ []) = lone_command_of word
command_of (word ∷ second ∷ behind) = named_command_of (command_named word) word (second ∷ behind)
