-- The options of availability, and the words that give them (fdsnws-availability 1.0, query parameters).
use Rattle.std.specs.Prelude.{◌≡◌, ℕ, ◌+◌, List, get_or, Option, Some, None, codes}
use Rattle.dataselect.specs.declared.query.Selection.{Selection}
use Rattle.query_parameters.specs.Extracts.{nodata_word, minimum_word, whole_word, qualities_word, merges_word, avail_order_word, avail_form_word}
use Rattle.query_parameters.specs.Gets.{said, said_or}
use Rattle.query_parameters.specs.Listed.{qualities_of, IsMerges, spans_order_of, extent_order_of, avail_form_of}
use Rattle.query_parameters.specs.Parameters.{Parameter}
use Rattle.query_parameters.specs.Places.{IsCountLimit}
use Rattle.query_parameters.specs.Rows.{Text, Named}
use Rattle.query_parameters.specs.Values.{nodata_of, IsMinimum}
use Rattle.query_parameters.specs.declared.avail.AvailOrder.{AvailOrder}
use Rattle.query_parameters.specs.declared.words.ParameterValue.{ParameterValue}
use Rattle.query_words.specs.declared.avail.AvailChoices.{AvailChoices}
use Rattle.query_words.specs.declared.avail.AvailMethod.{AvailMethod}
use Rattle.query_words.specs.declared.avail.AvailMethod.TheVariants.{Spans, Extent}
use Rattle.query_words.specs.declared.avail.AvailQuery.{AvailQuery}

-- the orders that a method has
abbrev pub order_of : AvailMethod → Text → Option AvailOrder
order_of Spans text = spans_order_of text
order_of Extent text = extent_order_of text

-- the options of the query, each by its default where it isn't said; extents have no gaps
pub record AreAvailOptions (method : AvailMethod) (rows : List Named) (ps : List Parameter) (q : AvailQuery) : Type 0 where
  pub nodata_is : nodata_of (said_or (codes "204") rows (codes "nodata") ps) ≡ Some q.nodata
  pub qualities_are : qualities_of (said_or (codes "*") rows (codes "quality") ps) ≡ Some q.qualities
  pub merges_are : IsMerges (said rows (codes "merge") ps) (record { rate = q.merge_rate; quality = q.merge_quality; overlap = q.merge_overlap })
  pub order_is : order_of method (said_or (codes "nslc_time_quality_samplerate") rows (codes "orderby") ps) ≡ Some q.order
  pub limit_is : IsCountLimit (said rows (codes "limit") ps) q.limit
  pub form_is : avail_form_of (said_or (codes "text") rows (codes "format") ps) ≡ Some q.form
  pub gaps_are : IsMinimum (said_or (codes "0") rows (codes "mergegaps") ps) q.gaps

-- how many options a method has
abbrev pub option_count : AvailMethod → ℕ
option_count Spans = 9
option_count Extent = 8

abbrev pub gaps_word : AvailMethod → List (Option ParameterValue) → ℕ → ℕ
gaps_word Spans words place = minimum_word (get_or words place None)
gaps_word Extent words place = 0

-- the options of the words from that place on
pub record AreAvailWords (method : AvailMethod) (words : List (Option ParameterValue)) (first : ℕ) (o : AvailChoices) : Type 0 where
  pub nodata_is : o.nodata ≡ nodata_word (get_or words first None)
  pub qualities_are : o.qualities ≡ qualities_word (get_or words (first + 1) None)
  pub merges_are : o.merges ≡ merges_word (get_or words (first + 2) None)
  pub order_is : o.order ≡ avail_order_word (get_or words (first + 3) None)
  pub limit_is : o.limit ≡ whole_word (get_or words (first + 4) None)
  pub form_is : o.form ≡ avail_form_word (get_or words (first + 5) None)
  pub gaps_are : o.gaps ≡ gaps_word method words (first + 8)

-- the query of these selections and options
pub record IsAvailMade (selections : List Selection) (o : AvailChoices) (q : AvailQuery) : Type 0 where
  pub selections_are : q.selections ≡ selections
  pub qualities_are : q.qualities ≡ o.qualities
  pub rate_is : q.merge_rate ≡ o.merges.rate
  pub quality_is : q.merge_quality ≡ o.merges.quality
  pub overlap_is : q.merge_overlap ≡ o.merges.overlap
  pub gaps_are : q.gaps ≡ o.gaps
  pub order_is : q.order ≡ o.order
  pub limit_is : q.limit ≡ o.limit
  pub form_is : q.form ≡ o.form
  pub nodata_is : q.nodata ≡ o.nodata
