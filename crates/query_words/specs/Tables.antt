-- The names of the methods (FDSN Web Service Specifications 1.2, dataselect, station and event, query
-- parameters).
use Rattle.std.specs.Prelude.{ℕ, List, [], ◌∷◌, codes}
use Rattle.channel_globs.specs.declared.nslc.Part.TheVariants.{Network, Station, Location, Channel}
use Rattle.query_parameters.specs.Rows.{Named, with_alias, alone}
use Rattle.query_parameters.specs.declared.rows.ValueKind.TheVariants.{Time, Patterns, Nodata, Quality, Seconds, Flag, Format, Decimal, Count, EntryNumber, Text, EventOrder, Latitude, Longitude, Level, TextForm, Always, Never, LeftOut}

-- the options of dataselect, which a body may have too
abbrev pub data_options : List Named
data_options =
    alone (codes "nodata") Nodata
    ∷ alone (codes "quality") Quality
    ∷ alone (codes "minimumlength") Seconds
    ∷ alone (codes "longestonly") Flag
    ∷ alone (codes "format") Format
    ∷ []

-- the times and the codes, which a query string has and a body's parameters don't
abbrev pub windows_before : List Named → List Named
windows_before options =
    with_alias (codes "starttime") (codes "start") Time
    ∷ with_alias (codes "endtime") (codes "end") Time
    ∷ with_alias (codes "network") (codes "net") (Patterns Network)
    ∷ with_alias (codes "station") (codes "sta") (Patterns Station)
    ∷ with_alias (codes "location") (codes "loc") (Patterns Location)
    ∷ with_alias (codes "channel") (codes "cha") (Patterns Channel)
    ∷ options

-- the names of dataselect
abbrev pub data_names : List Named
data_names = windows_before data_options

-- the options of station, which a body may have too; this data centre leaves out what comes last
abbrev pub station_options : List Named
station_options =
    alone (codes "nodata") Nodata
    ∷ alone (codes "startbefore") Time
    ∷ alone (codes "startafter") Time
    ∷ alone (codes "endbefore") Time
    ∷ alone (codes "endafter") Time
    ∷ with_alias (codes "minlatitude") (codes "minlat") Latitude
    ∷ with_alias (codes "maxlatitude") (codes "maxlat") Latitude
    ∷ with_alias (codes "minlongitude") (codes "minlon") Longitude
    ∷ with_alias (codes "maxlongitude") (codes "maxlon") Longitude
    ∷ alone (codes "level") Level
    ∷ alone (codes "format") TextForm
    ∷ alone (codes "includerestricted") Always
    ∷ alone (codes "includeavailability") Never
    ∷ alone (codes "matchtimeseries") Never
    ∷ with_alias (codes "latitude") (codes "lat") LeftOut
    ∷ with_alias (codes "longitude") (codes "lon") LeftOut
    ∷ alone (codes "minradius") LeftOut
    ∷ alone (codes "maxradius") LeftOut
    ∷ alone (codes "updatedafter") LeftOut
    ∷ []

-- the names of station
abbrev pub station_names : List Named
station_names = windows_before station_options

-- the names of event; this data centre leaves out what comes last
abbrev pub event_names : List Named
event_names =
    with_alias (codes "starttime") (codes "start") Time
    ∷ with_alias (codes "endtime") (codes "end") Time
    ∷ alone (codes "nodata") Nodata
    ∷ with_alias (codes "minlatitude") (codes "minlat") Latitude
    ∷ with_alias (codes "maxlatitude") (codes "maxlat") Latitude
    ∷ with_alias (codes "minlongitude") (codes "minlon") Longitude
    ∷ with_alias (codes "maxlongitude") (codes "maxlon") Longitude
    ∷ alone (codes "mindepth") Decimal
    ∷ alone (codes "maxdepth") Decimal
    ∷ with_alias (codes "minmagnitude") (codes "minmag") Decimal
    ∷ with_alias (codes "maxmagnitude") (codes "maxmag") Decimal
    ∷ with_alias (codes "magnitudetype") (codes "magtype") Text
    ∷ alone (codes "eventid") Text
    ∷ alone (codes "catalog") Text
    ∷ alone (codes "contributor") Text
    ∷ alone (codes "orderby") EventOrder
    ∷ alone (codes "limit") Count
    ∷ alone (codes "offset") Count
    ∷ alone (codes "format") TextForm
    ∷ alone (codes "includeallorigins") Never
    ∷ alone (codes "includeallmagnitudes") Never
    ∷ alone (codes "includearrivals") Never
    ∷ alone (codes "eventtype") LeftOut
    ∷ with_alias (codes "latitude") (codes "lat") LeftOut
    ∷ with_alias (codes "longitude") (codes "lon") LeftOut
    ∷ alone (codes "minradius") LeftOut
    ∷ alone (codes "maxradius") LeftOut
    ∷ alone (codes "updatedafter") LeftOut
    ∷ []

-- the name of a method that takes the number of an entry and nothing else
abbrev pub number_names : List ℕ → List Named
number_names name = alone name EntryNumber ∷ []
