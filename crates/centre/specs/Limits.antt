-- The limits that the words give.
use Rattle.archive_state.specs.declared.limits.Limits.{Limits}
use Rattle.command_words.specs.Commands.{LimitWords}

-- the limits on answers and on an archive, as words give them
abbrev pub limits_at : Limits → LimitWords
limits_at limits = record {
  max_bytes = limits.max_bytes;
  max_lines = limits.max_lines;
  max_records = limits.max_records;
  max_archive = limits.max_archive;
}
