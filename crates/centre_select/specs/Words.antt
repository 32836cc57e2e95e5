-- What the words of `select` ask for.
use Rattle.std.specs.Prelude.{◌≡◌, ◌≤ℤ◌, ◌<ℤ◌, ℕ, ℤ, Bool, List, [], ◌∷◌, ◌++◌, Option, Some, ⊤}
use Rattle.std.specs.List.{AllByRecursion}
use Rattle.list_laws.specs.Faults.{IsFirstWithout}
use Rattle.exact_time.specs.MomentText.{IsMoment}
use Rattle.exact_time.specs.declared.moment.Moment.{Moment}
use Rattle.channel_globs.specs.PatternText.{IsPatternList}
use Rattle.channel_globs.specs.declared.nslc.Part.{Part}
use Rattle.channel_globs.specs.declared.nslc.Part.TheVariants.{Network, Station, Location, Channel}
use Rattle.mseed_header.specs.declared.quality.Quality.{Quality}
use Rattle.dataselect.specs.declared.query.DataQuery.{DataQuery}
use Rattle.dataselect.specs.declared.query.Selection.{Selection}
use Rattle.dataselect.specs.declared.query.Nodata.TheVariants.{Quiet}
use Rattle.query_parameters.specs.Values.{quality_of, flag_of, IsMinimum}
use Rattle.channel_globs.specs.declared.patterns.GlobFault.{GlobFault}
use Rattle.channel_globs.specs.declared.patterns.GlobFault.TheVariants.{TooMany, Character, Length, OutOfMemory as NoMemory}
use Rattle.centre_select.specs.declared.ending.Word.{Word}
use Rattle.centre_select.specs.declared.ending.Word.TheVariants.{Network as NetworkWord, Station as StationWord, Location as LocationWord, Channel as ChannelWord, Start as StartWord, End as EndWord, Quality as QualityWord, Minimum as MinimumWord, Longest as LongestWord}
use Rattle.centre_select.specs.declared.ending.SelectRefusal.{SelectRefusal}
use Rattle.centre_select.specs.declared.ending.SelectRefusal.TheVariants.{Value, Order}
use Rattle.centre_select.specs.declared.ending.SelectStop.{SelectStop}
use Rattle.centre_select.specs.declared.ending.SelectStop.TheVariants.{Refused, OutOfMemory}
use Rattle.command_words.specs.Commands.{SelectWords}
use Rattle.epochs.specs.Kinds.{Text}

-- the pattern lists are those that the four code words spell
pub record IsNamed (w : SelectWords) (s : Selection) : Type 0 where
  pub network_is : IsPatternList Network w.network s.network
  pub station_is : IsPatternList Station w.station s.station
  pub location_is : IsPatternList Location w.location s.location
  pub channel_is : IsPatternList Channel w.channel s.channel

-- the window is from the moment of one word to that of another, which is not before it
pub record IsSelectWindow (w : SelectWords) (s : Selection) : Type 0 where
  pub from : Moment
  pub to : Moment
  pub start_is : s.start ≡ Some from
  pub end_is : s.end ≡ Some to
  pub from_is : IsMoment w.start from.micros
  pub to_is : IsMoment w.end to.micros
  pub order : from.micros ≤ℤ to.micros

-- the quality, the least length of a segment, and whether the longest alone are asked for
pub record AreSelectOptions (w : SelectWords) (quality : Option Quality) (minimum : ℕ) (longest : Bool) : Type 0 where
  pub quality_is : quality_of w.quality ≡ Some quality
  pub minimum_is : IsMinimum w.minimum minimum
  pub longest_is : flag_of w.longest ≡ Some longest

-- the query has the one selection of these words, and their options
pub record IsSelectQuery (w : SelectWords) (query : DataQuery) : Type 0 where
  pub selection : Selection
  pub named : IsNamed w selection
  pub window : IsSelectWindow w selection
  pub only : query.selections ≡ selection ∷ []
  pub options : AreSelectOptions w query.quality query.minimum query.longest
  pub nodata : query.nodata ≡ Quiet

-- a word spells a pattern list, a moment, or the value of an option
abbrev pub IsList : Part → Text → Type 0
IsList part word = (list : List Text) × IsPatternList part word list

abbrev pub IsTime : Text → Type 0
IsTime word = (micros : ℤ) × IsMoment word micros

abbrev pub IsQuality : Text → Type 0
IsQuality word = (quality : Option Quality) × (quality_of word ≡ Some quality)

abbrev pub IsLength : Text → Type 0
IsLength word = (micros : ℕ) × IsMinimum word micros

abbrev pub IsFlag : Text → Type 0
IsFlag word = (flag : Bool) × (flag_of word ≡ Some flag)

-- the word can be read
abbrev pub CanReadWord : SelectWords → Word → Type 0
CanReadWord w NetworkWord = IsList Network w.network
CanReadWord w StationWord = IsList Station w.station
CanReadWord w LocationWord = IsList Location w.location
CanReadWord w ChannelWord = IsList Channel w.channel
CanReadWord w StartWord = IsTime w.start
CanReadWord w EndWord = IsTime w.end
CanReadWord w QualityWord = IsQuality w.quality
CanReadWord w MinimumWord = IsLength w.minimum
CanReadWord w LongestWord = IsFlag w.longest

-- the words in the order in which they are tested
abbrev pub code_words : List Word
code_words = NetworkWord ∷ StationWord ∷ LocationWord ∷ ChannelWord ∷ []

abbrev pub time_words : List Word
time_words = StartWord ∷ EndWord ∷ []

abbrev pub option_words : List Word
option_words = QualityWord ∷ MinimumWord ∷ LongestWord ∷ []

abbrev pub tested_words : List Word
tested_words = code_words ++ time_words ++ option_words

-- each of these words can be read
abbrev pub CanReadWords : SelectWords → List Word → Type 0
CanReadWords w words = AllByRecursion (CanReadWord w) words

-- every word can be read, and the start is after the end
pub record HasTimesTurned (w : SelectWords) : Type 0 where
  pub all : CanReadWords w tested_words
  pub from : ℤ
  pub to : ℤ
  pub from_is : IsMoment w.start from
  pub to_is : IsMoment w.end to
  pub order : to <ℤ from

-- why the words of `select` are refused: the first that can't be read, or else the order of the times
abbrev pub RefusesSelectWords : SelectWords → SelectRefusal → Type 0
RefusesSelectWords w (Value word) = IsFirstWithout (CanReadWord w) tested_words word
RefusesSelectWords w Order = HasTimesTurned w
RefusesSelectWords w _ = ⊥

-- why no query was read; want of memory is free
abbrev pub StopsWith : (SelectRefusal → Type 0) → SelectStop → Type 0
StopsWith Why (Refused refusal) = Why refusal
StopsWith Why OutOfMemory = ⊤
StopsWith Why _ = ⊥

-- how a fault of a code word stops a run
abbrev pub stop_for : GlobFault → Word → SelectStop
stop_for NoMemory word = OutOfMemory
stop_for TooMany word = Refused (Value word)
stop_for Character word = Refused (Value word)
stop_for Length word = Refused (Value word)
