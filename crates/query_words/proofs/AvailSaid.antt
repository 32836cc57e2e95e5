-- What the words of a query for spans or extents give is what is said under their names.
use Rattle.std.proofs.Common.{◌≡◌, ◌≤◌, ℕ, true, false, List, [], ◌∷◌, Option, Some, None, length, get_or, sym, ap, subst, ◌∙◌, codes, arith}
use Rattle.exact_time.specs.declared.moment.Moment.{Moment}
use Rattle.channel_globs.specs.declared.nslc.Part.TheVariants.{Network, Station, Location, Channel}
use Rattle.dataselect.specs.declared.query.Selection.{Selection}
use Rattle.query_parameters.specs.Extracts.{limit_word, AreLists, is_backwards}
use Rattle.query_parameters.specs.Gets.{said, said_or, IsLimit, AreCodes, AreLimits}
use Rattle.query_parameters.specs.Listed.{IsMerges}
use Rattle.query_parameters.specs.Parameters.{Parameter, pairs_of, parameters_of}
use Rattle.query_parameters.specs.Places.{IsCountLimit}
use Rattle.query_parameters.specs.Rows.{Text}
use Rattle.query_parameters.specs.Values.{IsMinimum}
use Rattle.query_parameters.specs.Words.{AreHeld, HasReadParameters}
use Rattle.query_parameters.specs.declared.avail.Merges.{Merges}
use Rattle.query_parameters.specs.declared.words.ParameterValue.{ParameterValue}
use Rattle.query_parameters.proofs.AvailSaid.{qualities_said, merges_said, spans_order_said, extent_order_said, avail_form_said}
use Rattle.query_parameters.proofs.NumbersSaid.{count_said}
use Rattle.query_parameters.proofs.OneGet.{not_backwards}
use Rattle.query_parameters.proofs.Said.{limit_said, list_said, nodata_said, minimum_said, no_minimum, in_time, backwards}
use Rattle.query_words.specs.AvailGet.{IsAvailGet, IsAvailTurned}
use Rattle.query_words.specs.AvailOptions.{AreAvailOptions, AreAvailWords, IsAvailMade}
use Rattle.query_words.specs.AvailTables.{avail_names, avail_options}
use Rattle.query_words.specs.declared.avail.AvailChoices.{AvailChoices}
use Rattle.query_words.specs.declared.avail.AvailMethod.{AvailMethod}
use Rattle.query_words.specs.declared.avail.AvailMethod.TheVariants.{Spans, Extent}
use Rattle.query_words.specs.declared.avail.AvailQuery.{AvailQuery}

merges_made : (selections : List Selection) (o : AvailChoices) (q : AvailQuery) → IsAvailMade selections o q → o.merges ≡ record { rate = q.merge_rate; quality = q.merge_quality; overlap = q.merge_overlap }
merges_made selections o q k = λ i. record { rate = (sym k.rate_is) i; quality = (sym k.quality_is) i; overlap = (sym k.overlap_is) i }

options_said : (method : AvailMethod) (ps : List Parameter) (words : List (Option ParameterValue)) → AreHeld (avail_names method) ps words → (selections : List Selection) (o : AvailChoices) (q : AvailQuery)
    → AreAvailWords method words 6 o → IsAvailMade selections o q → AreAvailOptions method (avail_names method) ps q
options_said Spans ps words held selections o q h k = record {
  nodata_is = nodata_said _ _ (held.each 6 (omega arith)) ∙ ap Some (sym h.nodata_is ∙ sym k.nodata_is);
  qualities_are = qualities_said _ _ (held.each 7 (omega arith)) ∙ ap Some (sym h.qualities_are ∙ sym k.qualities_are);
  merges_are = subst (λ (m : Merges). IsMerges (said (avail_names Spans) (codes "merge") ps) m) (sym h.merges_are ∙ merges_made selections o q k) (merges_said _ _ (held.each 8 (omega arith)));
  order_is = spans_order_said _ _ (held.each 9 (omega arith)) ∙ ap Some (sym h.order_is ∙ sym k.order_is);
  limit_is = subst (λ (n : Option ℕ). IsCountLimit (said (avail_names Spans) (codes "limit") ps) n) (sym h.limit_is ∙ sym k.limit_is) (count_said _ _ (held.each 10 (omega arith)));
  form_is = avail_form_said _ _ (held.each 11 (omega arith)) ∙ ap Some (sym h.form_is ∙ sym k.form_is);
  gaps_are = subst (λ n. IsMinimum (said_or (codes "0") (avail_names Spans) (codes "mergegaps") ps) n) (sym h.gaps_are ∙ sym k.gaps_are) (minimum_said _ _ (held.each 14 (omega arith)));
}
options_said Extent ps words held selections o q h k = record {
  nodata_is = nodata_said _ _ (held.each 6 (omega arith)) ∙ ap Some (sym h.nodata_is ∙ sym k.nodata_is);
  qualities_are = qualities_said _ _ (held.each 7 (omega arith)) ∙ ap Some (sym h.qualities_are ∙ sym k.qualities_are);
  merges_are = subst (λ (m : Merges). IsMerges (said (avail_names Extent) (codes "merge") ps) m) (sym h.merges_are ∙ merges_made selections o q k) (merges_said _ _ (held.each 8 (omega arith)));
  order_is = extent_order_said _ _ (held.each 9 (omega arith)) ∙ ap Some (sym h.order_is ∙ sym k.order_is);
  limit_is = subst (λ (n : Option ℕ). IsCountLimit (said (avail_names Extent) (codes "limit") ps) n) (sym h.limit_is ∙ sym k.limit_is) (count_said _ _ (held.each 10 (omega arith)));
  form_is = avail_form_said _ _ (held.each 11 (omega arith)) ∙ ap Some (sym h.form_is ∙ sym k.form_is);
  gaps_are = subst (λ n. IsMinimum (codes "0") n) (sym h.gaps_are ∙ sym k.gaps_are) no_minimum;
}

pub options_posted : (method : AvailMethod) (ps : List Parameter) (words : List (Option ParameterValue)) → AreHeld (avail_options method) ps words → (selections : List Selection) (o : AvailChoices) (q : AvailQuery)
    → AreAvailWords method words 0 o → IsAvailMade selections o q → AreAvailOptions method (avail_options method) ps q
options_posted Spans ps words held selections o q h k = record {
  nodata_is = nodata_said _ _ (held.each 0 (omega arith)) ∙ ap Some (sym h.nodata_is ∙ sym k.nodata_is);
  qualities_are = qualities_said _ _ (held.each 1 (omega arith)) ∙ ap Some (sym h.qualities_are ∙ sym k.qualities_are);
  merges_are = subst (λ (m : Merges). IsMerges (said (avail_options Spans) (codes "merge") ps) m) (sym h.merges_are ∙ merges_made selections o q k) (merges_said _ _ (held.each 2 (omega arith)));
  order_is = spans_order_said _ _ (held.each 3 (omega arith)) ∙ ap Some (sym h.order_is ∙ sym k.order_is);
  limit_is = subst (λ (n : Option ℕ). IsCountLimit (said (avail_options Spans) (codes "limit") ps) n) (sym h.limit_is ∙ sym k.limit_is) (count_said _ _ (held.each 4 (omega arith)));
  form_is = avail_form_said _ _ (held.each 5 (omega arith)) ∙ ap Some (sym h.form_is ∙ sym k.form_is);
  gaps_are = subst (λ n. IsMinimum (said_or (codes "0") (avail_options Spans) (codes "mergegaps") ps) n) (sym h.gaps_are ∙ sym k.gaps_are) (minimum_said _ _ (held.each 8 (omega arith)));
}
options_posted Extent ps words held selections o q h k = record {
  nodata_is = nodata_said _ _ (held.each 0 (omega arith)) ∙ ap Some (sym h.nodata_is ∙ sym k.nodata_is);
  qualities_are = qualities_said _ _ (held.each 1 (omega arith)) ∙ ap Some (sym h.qualities_are ∙ sym k.qualities_are);
  merges_are = subst (λ (m : Merges). IsMerges (said (avail_options Extent) (codes "merge") ps) m) (sym h.merges_are ∙ merges_made selections o q k) (merges_said _ _ (held.each 2 (omega arith)));
  order_is = extent_order_said _ _ (held.each 3 (omega arith)) ∙ ap Some (sym h.order_is ∙ sym k.order_is);
  limit_is = subst (λ (n : Option ℕ). IsCountLimit (said (avail_options Extent) (codes "limit") ps) n) (sym h.limit_is ∙ sym k.limit_is) (count_said _ _ (held.each 4 (omega arith)));
  form_is = avail_form_said _ _ (held.each 5 (omega arith)) ∙ ap Some (sym h.form_is ∙ sym k.form_is);
  gaps_are = subst (λ n. IsMinimum (codes "0") n) (sym h.gaps_are ∙ sym k.gaps_are) no_minimum;
}

limits_said : (method : AvailMethod) (ps : List Parameter) (words : List (Option ParameterValue)) → AreHeld (avail_names method) ps words → AreLimits (avail_names method) ps (limit_word (get_or words 0 None)) (limit_word (get_or words 1 None))
limits_said Spans ps words held = record { start_is = limit_said _ _ (held.each 0 (omega arith)); end_is = limit_said _ _ (held.each 1 (omega arith)) }
limits_said Extent ps words held = record { start_is = limit_said _ _ (held.each 0 (omega arith)); end_is = limit_said _ _ (held.each 1 (omega arith)) }

codes_said : (method : AvailMethod) (ps : List Parameter) (words : List (Option ParameterValue)) → AreHeld (avail_names method) ps words → (s : Selection) → AreLists words 2 s → AreCodes (avail_names method) ps s
codes_said Spans ps words held s h = record {
  network_is = list_said Network _ _ _ (held.each 2 (omega arith)) h.network_is;
  station_is = list_said Station _ _ _ (held.each 3 (omega arith)) h.station_is;
  location_is = list_said Location _ _ _ (held.each 4 (omega arith)) h.location_is;
  channel_is = list_said Channel _ _ _ (held.each 5 (omega arith)) h.channel_is;
}
codes_said Extent ps words held s h = record {
  network_is = list_said Network _ _ _ (held.each 2 (omega arith)) h.network_is;
  station_is = list_said Station _ _ _ (held.each 3 (omega arith)) h.station_is;
  location_is = list_said Location _ _ _ (held.each 4 (omega arith)) h.location_is;
  channel_is = list_said Channel _ _ _ (held.each 5 (omega arith)) h.channel_is;
}

module _ (method : AvailMethod) (query : Text) (words : List (Option ParameterValue)) (few : length (pairs_of query) ≤ 1000) (read : HasReadParameters (avail_names method) (parameters_of query) (parameters_of query) [] words)
    (start end : Option Moment) (start_is : start ≡ limit_word (get_or words 0 None)) (end_is : end ≡ limit_word (get_or words 1 None)) where
  window : AreLimits (avail_names method) (parameters_of query) start end
  window =
      let told = limits_said method (parameters_of query) words read.held in
      record { start_is = subst (λ (m : Option Moment). IsLimit (said (avail_names method) (codes "starttime") (parameters_of query)) m) (sym start_is) told.start_is; end_is = subst (λ (m : Option Moment). IsLimit (said (avail_names method) (codes "endtime") (parameters_of query)) m) (sym end_is) told.end_is }

  -- the parts that the words give make the query
  pub asked : is_backwards start end ≡ false → (s : Selection) (o : AvailChoices) (q : AvailQuery) → AreLists words 2 s → s.start ≡ start → s.end ≡ end → AreAvailWords method words 6 o → IsAvailMade (s ∷ []) o q → IsAvailGet method query q
  asked forwards s o q lists start_at end_at options made = record {
    right = record { few = few; taken = read.taken };
    selection = s;
    only = made.selections_are;
    names = codes_said method (parameters_of query) words read.held s lists;
    window = record { start_is = subst (λ (m : Option Moment). IsLimit (said (avail_names method) (codes "starttime") (parameters_of query)) m) (sym start_at) window.start_is; end_is = subst (λ (m : Option Moment). IsLimit (said (avail_names method) (codes "endtime") (parameters_of query)) m) (sym end_at) window.end_is };
    in_time = in_time s.start s.end (ap (λ (m : Option Moment). is_backwards m s.end) start_at ∙ ap (λ (m : Option Moment). is_backwards start m) end_at ∙ forwards);
    options = options_said method (parameters_of query) words read.held (s ∷ []) o q options made;
  }

  pub turned : is_backwards start end ≡ true → IsAvailTurned method query
  turned h =
      let b = backwards start end h in
      record { right = record { few = few; taken = read.taken }; start = start; end = end; window = window; turned = λ forwards. not_backwards start end b.0 b.1 b.2 b.3 forwards b.4 }
