-- The parts of a query that its words give.
use Rattle.std.specs.Prelude.{◌≡◌, ℕ, ◌+◌, Bool, true, false, List, get_or, Option, Some, None, int_lt, codes}
use Rattle.exact_time.specs.declared.moment.Moment.{Moment}
use Rattle.channel_globs.specs.PatternText.{IsPatternList}
use Rattle.channel_globs.specs.declared.nslc.Part.{Part}
use Rattle.channel_globs.specs.declared.nslc.Part.TheVariants.{Network, Station, Location, Channel}
use Rattle.mseed_header.specs.declared.quality.Quality.{Quality}
use Rattle.dataselect.specs.declared.query.Nodata.{Nodata}
use Rattle.dataselect.specs.declared.query.Nodata.TheVariants.{Quiet}
use Rattle.dataselect.specs.declared.query.Selection.{Selection}
use Rattle.query_parameters.specs.Listed.{no_merges}
use Rattle.query_parameters.specs.Rows.{Text}
use Rattle.query_parameters.specs.declared.area.Area.{Area}
use Rattle.query_parameters.specs.declared.level.Level.{Level}
use Rattle.query_parameters.specs.declared.level.Level.TheVariants as level
use Rattle.exact_time.specs.declared.decimal.Decimal.{Decimal}
use Rattle.query_parameters.specs.declared.avail.AvailForm.{AvailForm}
use Rattle.query_parameters.specs.declared.avail.AvailForm.TheVariants as form
use Rattle.query_parameters.specs.declared.avail.AvailOrder.{AvailOrder}
use Rattle.query_parameters.specs.declared.avail.AvailOrder.TheVariants as avail
use Rattle.query_parameters.specs.declared.avail.Merges.{Merges}
use Rattle.query_parameters.specs.declared.avail.QualitySet.{QualitySet}
use Rattle.query_parameters.specs.declared.order.EventOrder.{EventOrder}
use Rattle.query_parameters.specs.declared.order.EventOrder.TheVariants as order
use Rattle.query_parameters.specs.declared.words.ParameterValue.{ParameterValue}
use Rattle.query_parameters.specs.declared.words.ParameterValue.TheVariants as word

-- the limit of a word, if it is a time
abbrev pub limit_word : Option ParameterValue → Option Moment
limit_word (Some (word.Time moment)) = Some moment
limit_word _ = None

abbrev pub nodata_word : Option ParameterValue → Nodata
nodata_word (Some (word.Nodata nodata)) = nodata
nodata_word _ = Quiet

abbrev pub quality_word : Option ParameterValue → Option Quality
quality_word (Some (word.Quality quality)) = quality
quality_word _ = None

abbrev pub minimum_word : Option ParameterValue → ℕ
minimum_word (Some (word.Micros micros)) = micros
minimum_word _ = 0

abbrev pub flag_word : Option ParameterValue → Bool
flag_word (Some (word.Flag flag)) = flag
flag_word _ = false

-- the list of a word, or else the one that matches any code
abbrev pub IsListWord : Part → Option ParameterValue → List Text → Type 0
IsListWord part (Some (word.Patterns list)) patterns = patterns ≡ list
IsListWord part _ patterns = IsPatternList part (codes "*") patterns

-- the lists of four words from that place on
pub record AreLists (words : List (Option ParameterValue)) (first : ℕ) (s : Selection) : Type 0 where
  pub network_is : IsListWord Network (get_or words first None) s.network
  pub station_is : IsListWord Station (get_or words (first + 1) None) s.station
  pub location_is : IsListWord Location (get_or words (first + 2) None) s.location
  pub channel_is : IsListWord Channel (get_or words (first + 3) None) s.channel

-- the start is after the end
abbrev pub is_backwards : Option Moment → Option Moment → Bool
is_backwards (Some start) (Some end) = int_lt end.micros start.micros
is_backwards (Some start) None = false
is_backwards None end = false

-- the number of a word, if it is one
abbrev pub number_word : Option ParameterValue → Option Decimal
number_word (Some (word.Number number)) = Some number
number_word _ = None

abbrev pub level_word : Option ParameterValue → Level
level_word (Some (word.Level level)) = level
level_word _ = level.Station

-- the whole number of a word, if it is one
abbrev pub whole_word : Option ParameterValue → Option ℕ
whole_word (Some (word.Whole n)) = Some n
whole_word _ = None

-- the text of a word, if it is one
abbrev pub text_word : Option ParameterValue → Option Text
text_word (Some (word.Text text)) = Some text
text_word _ = None

abbrev pub event_order_word : Option ParameterValue → EventOrder
event_order_word (Some (word.EventOrder order)) = order
event_order_word _ = order.TimeDown

-- the qualities of a word; all four where it is none
abbrev pub all_qualities : QualitySet
all_qualities = record { d = true; r = true; q = true; m = true }

abbrev pub qualities_word : Option ParameterValue → QualitySet
qualities_word (Some (word.Qualities set)) = set
qualities_word _ = all_qualities

-- what a word merges; nothing where it is none
abbrev pub merges_word : Option ParameterValue → Merges
merges_word (Some (word.Merges merges)) = merges
merges_word _ = no_merges

abbrev pub avail_order_word : Option ParameterValue → AvailOrder
avail_order_word (Some (word.AvailOrder order)) = order
avail_order_word _ = avail.Name

abbrev pub avail_form_word : Option ParameterValue → AvailForm
avail_form_word (Some (word.AvailForm form)) = form
avail_form_word _ = form.Text

-- the place of four words from that place on
pub record AreAreaWords (words : List (Option ParameterValue)) (first : ℕ) (area : Area) : Type 0 where
  pub south_is : area.latitude.least ≡ number_word (get_or words first None)
  pub north_is : area.latitude.most ≡ number_word (get_or words (first + 1) None)
  pub west_is : area.longitude.least ≡ number_word (get_or words (first + 2) None)
  pub east_is : area.longitude.most ≡ number_word (get_or words (first + 3) None)
