-- What a step does to the history of a copy.
use Rattle.std.specs.Prelude.{◌==◌, List, length, if◌then◌else◌}
use Rattle.archive_entry.specs.declared.entry.Entry.{Entry}

-- Behind the history before the step comes the one behind it; another history stays as it is. Both are beginnings of one
-- history, so their lengths tell them apart.
abbrev pub applied_to : List Entry → List Entry → List Entry → List Entry
applied_to h before after = if length h == length before then after else h
