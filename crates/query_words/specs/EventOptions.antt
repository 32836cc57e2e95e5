-- What a query asks of event, and the words that give it (FDSN Web Service Specifications 1.2, event).
use Rattle.std.specs.Prelude.{◌≡◌, ℕ, ◌+◌, List, get_or, Option, Some, None, codes}
use Rattle.query_parameters.specs.Extracts.{limit_word, nodata_word, number_word, whole_word, text_word, event_order_word, AreAreaWords}
use Rattle.query_parameters.specs.Gets.{said, said_or, IsWindowInOrder, AreLimits}
use Rattle.query_parameters.specs.Parameters.{Parameter}
use Rattle.query_parameters.specs.Places.{IsNumberLimit, IsCountLimit, AreBounds, IsRange, IsAreaInOrder}
use Rattle.query_parameters.specs.Rows.{Text, Named}
use Rattle.query_parameters.specs.Values.{nodata_of, event_order_of, IsCount}
use Rattle.query_parameters.specs.declared.area.Limits2.{Limits2}
use Rattle.query_parameters.specs.declared.words.ParameterValue.{ParameterValue}
use Rattle.query_words.specs.declared.event.EventQuery.{EventQuery}

-- the two limits of a number
pub record AreNumberLimits (rows : List Named) (ps : List Parameter) (least most : Text) (limits : Limits2) : Type 0 where
  pub least_is : IsNumberLimit (said rows least ps) limits.least
  pub most_is : IsNumberLimit (said rows most ps) limits.most

-- the parts of the query, each by its default where it isn't said
pub record AreEventOptions (rows : List Named) (ps : List Parameter) (q : EventQuery) : Type 0 where
  pub window : AreLimits rows ps q.start q.end
  pub bounds : AreBounds rows ps q.area
  pub depth : AreNumberLimits rows ps (codes "mindepth") (codes "maxdepth") q.depth
  pub magnitude : AreNumberLimits rows ps (codes "minmagnitude") (codes "maxmagnitude") q.magnitude
  pub magnitude_kind_is : said rows (codes "magnitudetype") ps ≡ q.magnitude_kind
  pub id_is : said rows (codes "eventid") ps ≡ q.id
  pub catalog_is : said rows (codes "catalog") ps ≡ q.catalog
  pub contributor_is : said rows (codes "contributor") ps ≡ q.contributor
  pub order_is : event_order_of (said_or (codes "time") rows (codes "orderby") ps) ≡ Some q.order
  pub limit_is : IsCountLimit (said rows (codes "limit") ps) q.limit
  pub offset_is : IsCount (said_or (codes "1") rows (codes "offset") ps) q.offset
  pub nodata_is : nodata_of (said_or (codes "204") rows (codes "nodata") ps) ≡ Some q.nodata

-- no least limit is above its greatest
pub record IsEventInOrder (q : EventQuery) : Type 0 where
  pub in_time : IsWindowInOrder q.start q.end
  pub area : IsAreaInOrder q.area
  pub depth : IsRange q.depth
  pub magnitude : IsRange q.magnitude

-- limits of two words from that place on
pub record AreNumberWords (words : List (Option ParameterValue)) (first : ℕ) (limits : Limits2) : Type 0 where
  pub least_is : limits.least ≡ number_word (get_or words first None)
  pub most_is : limits.most ≡ number_word (get_or words (first + 1) None)

-- a whole number, or 1
abbrev pub or_one : Option ℕ → ℕ
or_one None = 1
or_one (Some n) = n

abbrev pub offset_word : Option ParameterValue → ℕ
offset_word held = or_one (whole_word held)

-- the query of the words
pub record AreEventWords (words : List (Option ParameterValue)) (q : EventQuery) : Type 0 where
  pub start_is : q.start ≡ limit_word (get_or words 0 None)
  pub end_is : q.end ≡ limit_word (get_or words 1 None)
  pub nodata_is : q.nodata ≡ nodata_word (get_or words 2 None)
  pub area_is : AreAreaWords words 3 q.area
  pub depth_is : AreNumberWords words 7 q.depth
  pub magnitude_is : AreNumberWords words 9 q.magnitude
  pub magnitude_kind_is : q.magnitude_kind ≡ text_word (get_or words 11 None)
  pub id_is : q.id ≡ text_word (get_or words 12 None)
  pub catalog_is : q.catalog ≡ text_word (get_or words 13 None)
  pub contributor_is : q.contributor ≡ text_word (get_or words 14 None)
  pub order_is : q.order ≡ event_order_word (get_or words 15 None)
  pub limit_is : q.limit ≡ whole_word (get_or words 16 None)
  pub offset_is : q.offset ≡ offset_word (get_or words 17 None)
