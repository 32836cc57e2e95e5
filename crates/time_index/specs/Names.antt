-- The names of the channels that have rows.
use Rattle.std.specs.Prelude.{Bool, true, false, ◌&&◌, List, [], ◌∷◌, if◌then◌else◌}
use Rattle.channel_globs.specs.declared.nslc.Nslc.{Nslc}
use Rattle.dataselect.specs.Query.{is_named}
use Rattle.dataselect.specs.declared.query.Selection.{Selection}
use Rattle.time_index.specs.declared.spot.Spot.{Spot}
use Rattle.time_index.specs.declared.channels.Channel.{Channel}

abbrev pub is_some_spot : List Spot → Bool
is_some_spot [] = false
is_some_spot (spot ∷ spots) = true

-- the channel has a row
abbrev pub has_rows : Channel → Bool
has_rows channel = is_some_spot channel.spots.keys

-- the names that the selection's codes match, of the channels that have rows
abbrev pub names_in : Selection → List (Nslc × Channel) → List Nslc
names_in s [] = []
names_in s (entry ∷ entries) = if has_rows entry.1 && is_named s entry.0 then entry.0 ∷ names_in s entries else names_in s entries
