-- The texts of the words that the code lends.
use Rattle.command_words.specs.declared.arguments.LimitArguments.{LimitArguments}
use Rattle.command_words.specs.Commands.{SelectWords, InitWords, LimitWords, TalkWords, ServeWords, DrillWords, FetchWords, CoverageWords, Command, select, init, talk, serve, drill, fetch, coverage, show}
use Rattle.command_words.specs.declared.arguments.CommandWords.{CommandWords}
use Rattle.command_words.specs.declared.arguments.CommandWords.TheVariants.{Select, Init, Talk, Serve, Drill, Fetch, Coverage, Show}
use Rattle.command_words.specs.declared.arguments.CoverageArguments.{CoverageArguments}
use Rattle.command_words.specs.declared.arguments.DrillArguments.{DrillArguments}
use Rattle.command_words.specs.declared.arguments.FetchArguments.{FetchArguments}
use Rattle.command_words.specs.declared.arguments.InitArguments.{InitArguments}
use Rattle.command_words.specs.declared.arguments.SelectArguments.{SelectArguments}
use Rattle.command_words.specs.declared.arguments.ServeArguments.{ServeArguments}
use Rattle.command_words.specs.declared.arguments.TalkArguments.{TalkArguments}

abbrev pub words_at : SelectArguments → SelectWords
words_at a = record {
  network = a.network.now;
  station = a.station.now;
  location = a.location.now;
  channel = a.channel.now;
  start = a.start.now;
  end = a.end.now;
  quality = a.quality.now;
  minimum = a.minimum.now;
  longest = a.longest.now;
  limit = a.limit;
}

abbrev pub init_words_at : InitArguments → InitWords
init_words_at a = record { journal = a.journal.now; operator = a.operator.now; ha1 = a.ha1.now }

abbrev pub limits_at : LimitArguments → LimitWords
limits_at limits = record {
  max_bytes = limits.max_bytes;
  max_lines = limits.max_lines;
  max_records = limits.max_records;
  max_archive = limits.max_archive;
}

abbrev pub talk_words_at : TalkArguments → TalkWords
talk_words_at a = record { journal = a.journal.now; limits = limits_at a.limits }

abbrev pub serve_words_at : ServeArguments → ServeWords
serve_words_at a = record {
  journal = a.journal.now;
  address = a.address.now;
  workers = a.workers;
  sessions = a.sessions;
  limits = limits_at a.limits;
}

abbrev pub drill_words_at : DrillArguments → DrillWords
drill_words_at a = record { journal = a.journal.now; records = a.records }

abbrev pub fetch_words_at : FetchArguments → FetchWords
fetch_words_at a = record {
  peer = a.peer.now;
  network = a.network.now;
  station = a.station.now;
  location = a.location.now;
  channel = a.channel.now;
  start = a.start.now;
  end = a.end.now;
}

abbrev pub coverage_words_at : CoverageArguments → CoverageWords
coverage_words_at a = record { journal = a.journal.now; start = a.start.now; end = a.end.now; max_lines = a.max_lines }

abbrev pub command_at : CommandWords → Command
command_at (Select arguments) = select (words_at arguments)
command_at (Init arguments) = init (init_words_at arguments)
command_at (Talk arguments) = talk (talk_words_at arguments)
command_at (Serve arguments) = serve (serve_words_at arguments)
command_at (Drill arguments) = drill (drill_words_at arguments)
command_at (Fetch arguments) = fetch (fetch_words_at arguments)
command_at (Coverage arguments) = coverage (coverage_words_at arguments)
command_at (Show shown) = show shown
