-- Beginnings of one history.
use Rattle.std.specs.Prelude.{◌<◌, List, length}
use mathlib.Core.List.{IsPrefix}
use Rattle.archive_entry.specs.declared.entry.Entry.{Entry}

-- the second list begins with the first, and goes on
pub record GoesPast (short long : List Entry) : Type 0 where
  pub begins : IsPrefix short long
  pub longer : length short < length long
