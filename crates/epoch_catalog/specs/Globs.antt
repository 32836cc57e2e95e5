-- The pattern lists of lines: each is that of its text.
use Rattle.channel_globs.specs.PatternText.{IsPatternList}
use Rattle.channel_globs.specs.declared.nslc.Part.TheVariants.{Network, Station, Location, Channel}
use Rattle.epochs.specs.declared.parts.Globs.{Globs}

-- four lists, each that of its text
pub record AreRead (channels : Globs) : Type 0 where
  pub network_is : IsPatternList Network channels.network.text channels.network.list
  pub station_is : IsPatternList Station channels.station.text channels.station.list
  pub location_is : IsPatternList Location channels.location.text channels.location.list
  pub channel_is : IsPatternList Channel channels.channel.text channels.channel.list
