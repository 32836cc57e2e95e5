-- The options that the words of a query give.
use Rattle.std.specs.Prelude.{◌≡◌, ℕ, ◌+◌, List, get_or, Option, None}
use Rattle.dataselect.specs.declared.query.Selection.{Selection}
use Rattle.dataselect.specs.declared.query.DataQuery.{DataQuery}
use Rattle.query_parameters.specs.Extracts.{limit_word, nodata_word, quality_word, minimum_word, flag_word, level_word, AreAreaWords}
use Rattle.query_parameters.specs.declared.words.ParameterValue.{ParameterValue}
use Rattle.query_words.specs.declared.asked.Options.{Options}
use Rattle.query_words.specs.declared.places.StationOptions.{StationOptions}
use Rattle.query_words.specs.declared.station.StationQuery.{StationQuery}

-- the options of the words from that place on
pub record AreOptionWords (words : List (Option ParameterValue)) (first : ℕ) (o : Options) : Type 0 where
  pub nodata_is : o.nodata ≡ nodata_word (get_or words first None)
  pub quality_is : o.quality ≡ quality_word (get_or words (first + 1) None)
  pub minimum_is : o.minimum ≡ minimum_word (get_or words (first + 2) None)
  pub longest_is : o.longest ≡ flag_word (get_or words (first + 3) None)

-- the query of these selections and options
pub record IsMade (selections : List Selection) (o : Options) (q : DataQuery) : Type 0 where
  pub selections_are : q.selections ≡ selections
  pub nodata_is : q.nodata ≡ o.nodata
  pub quality_is : q.quality ≡ o.quality
  pub minimum_is : q.minimum ≡ o.minimum
  pub longest_is : q.longest ≡ o.longest

-- the options of station of the words from that place on
pub record AreStationWords (words : List (Option ParameterValue)) (first : ℕ) (o : StationOptions) : Type 0 where
  pub nodata_is : o.nodata ≡ nodata_word (get_or words first None)
  pub start_before_is : o.start_before ≡ limit_word (get_or words (first + 1) None)
  pub start_after_is : o.start_after ≡ limit_word (get_or words (first + 2) None)
  pub end_before_is : o.end_before ≡ limit_word (get_or words (first + 3) None)
  pub end_after_is : o.end_after ≡ limit_word (get_or words (first + 4) None)
  pub area_is : AreAreaWords words (first + 5) o.area
  pub level_is : o.level ≡ level_word (get_or words (first + 9) None)

-- the query of station of these selections and options
pub record IsStationMade (selections : List Selection) (o : StationOptions) (q : StationQuery) : Type 0 where
  pub selections_are : q.selections ≡ selections
  pub nodata_is : q.nodata ≡ o.nodata
  pub start_before_is : q.start_before ≡ o.start_before
  pub start_after_is : q.start_after ≡ o.start_after
  pub end_before_is : q.end_before ≡ o.end_before
  pub end_after_is : q.end_after ≡ o.end_after
  pub area_is : q.area ≡ o.area
  pub level_is : q.level ≡ o.level
