-- Channels that are seen whole.
use Rattle.std.specs.Prelude.{◌≡◌, Bool, true}
use Rattle.channel_globs.specs.declared.nslc.Nslc.{Nslc}
use Rattle.mseed_header.specs.declared.row.Row.{Row}

-- every row of that name is seen
abbrev pub SeesAll : (Row → Bool) → Nslc → Type 0
SeesAll seen name = (row : Row) → row.header.name ≡ name → seen row ≡ true
