-- The text answers of station (FDSN Web Service Specifications 1.2, station, format=text).
use Rattle.std.specs.Prelude.{List, [], ◌∷◌, ◌++◌, map, codes, decimal}
use Rattle.std.specs.List.{flat_map}
use Rattle.query_parameters.specs.declared.level.Level.{Level}
use Rattle.query_parameters.specs.declared.level.Level.TheVariants.{Network, Station, Channel}
use Rattle.epochs.specs.declared.kinds.LineKind.TheVariants.{Net}
use Rattle.epochs.specs.declared.kinds.Head.{Head}
use Rattle.epochs.specs.declared.kinds.Head.TheVariants.{Says}
use Rattle.epochs.specs.Kinds.{Text}
use Rattle.epochs.specs.Lines.{LineValues}
use Rattle.line_columns.specs.Texts.{line_feed, column_text, barred}
use Rattle.station_text.specs.Asked.{total_stations}

-- The columns of a line are its values in order; the line of a network has one more, how many stations it
-- has.
abbrev pub further_columns : List LineValues → LineValues → List Text
further_columns live e = behind e.head
  where
    behind : Head → List Text
    behind (Says Net) = decimal (total_stations live e) ∷ []
    behind _ = []

abbrev pub line_text : List LineValues → LineValues → Text
line_text live e = barred (map column_text e.values ++ further_columns live e) ++ line_feed ∷ []

abbrev pub header_text : Level → Text
header_text Network = codes "#Network|Description|StartTime|EndTime|TotalStations\n"
header_text Station = codes "#Network|Station|Latitude|Longitude|Elevation|SiteName|StartTime|EndTime\n"
header_text Channel =
    codes "#Network|Station|Location|Channel|Latitude|Longitude|Elevation|Depth|Azimuth|Dip|SensorDescription|Scale|ScaleFreq|ScaleUnits|SampleRate|StartTime|EndTime\n"

-- the header line, and then a line for each of these
abbrev pub answer_text : Level → List LineValues → List LineValues → Text
answer_text level live lines = header_text level ++ flat_map (line_text live) lines
