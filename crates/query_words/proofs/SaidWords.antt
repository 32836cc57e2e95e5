-- What a word gives is what is said under its name.
use Rattle.std.proofs.Common.{◌≡◌, ◌≤◌, true, false, List, [], ◌∷◌, Option, Some, None, length, get_or, sym, ap, subst, ◌∙◌, codes, arith}
use Rattle.exact_time.specs.declared.moment.Moment.{Moment}
use Rattle.channel_globs.specs.declared.nslc.Part.TheVariants.{Network, Station, Location, Channel}
use Rattle.dataselect.specs.declared.query.Selection.{Selection}
use Rattle.dataselect.specs.declared.query.DataQuery.{DataQuery}
use Rattle.query_words.specs.DataGet.{AreOptions, IsDataGet, IsBackwards}
use Rattle.query_parameters.specs.Gets.{said, said_or, IsLimit, AreCodes, AreLimits}
use Rattle.query_parameters.specs.Extracts.{limit_word, AreLists, is_backwards}
use Rattle.query_words.specs.Options.{AreOptionWords, IsMade}
use Rattle.query_parameters.specs.Parameters.{Parameter, pairs_of, parameters_of}
use Rattle.query_parameters.specs.Rows.{Text}
use Rattle.query_words.specs.Tables.{data_names}
use Rattle.query_parameters.specs.Values.{IsMinimum}
use Rattle.query_parameters.specs.Words.{AreHeld, HasReadParameters}
use Rattle.query_words.specs.declared.asked.Options.{Options}
use Rattle.query_parameters.specs.declared.words.ParameterValue.{ParameterValue}
use Rattle.query_parameters.proofs.Said.{backwards, flag_said, in_time, limit_said, list_said, minimum_said, nodata_said, quality_said}

module _ (ps : List Parameter) (words : List (Option ParameterValue)) (held : AreHeld data_names ps words) where
  pub limits_said : AreLimits data_names ps (limit_word (get_or words 0 None)) (limit_word (get_or words 1 None))
  limits_said = record { start_is = limit_said _ _ (held.each 0 (omega arith)); end_is = limit_said _ _ (held.each 1 (omega arith)) }

  pub codes_said : (s : Selection) → AreLists words 2 s → AreCodes data_names ps s
  codes_said s h = record {
    network_is = list_said Network _ _ _ (held.each 2 (omega arith)) h.network_is;
    station_is = list_said Station _ _ _ (held.each 3 (omega arith)) h.station_is;
    location_is = list_said Location _ _ _ (held.each 4 (omega arith)) h.location_is;
    channel_is = list_said Channel _ _ _ (held.each 5 (omega arith)) h.channel_is;
  }

  pub options_said : (selections : List Selection) (o : Options) (q : DataQuery) → AreOptionWords words 6 o → IsMade selections o q → AreOptions data_names ps q
  options_said selections o q h k = record {
    nodata_is = nodata_said _ _ (held.each 6 (omega arith)) ∙ ap Some (sym h.nodata_is ∙ sym k.nodata_is);
    quality_is = quality_said _ _ (held.each 7 (omega arith)) ∙ ap Some (sym h.quality_is ∙ sym k.quality_is);
    minimum_is = subst (λ n. IsMinimum (said_or (codes "0") data_names (codes "minimumlength") ps) n) (sym h.minimum_is ∙ sym k.minimum_is) (minimum_said _ _ (held.each 8 (omega arith)));
    longest_is = flag_said _ _ (held.each 9 (omega arith)) ∙ ap Some (sym h.longest_is ∙ sym k.longest_is);
  }

module _ (query : Text) (words : List (Option ParameterValue)) (few : length (pairs_of query) ≤ 1000) (read : HasReadParameters data_names (parameters_of query) (parameters_of query) [] words)
    (start end : Option Moment) (start_is : start ≡ limit_word (get_or words 0 None)) (end_is : end ≡ limit_word (get_or words 1 None)) where
  limits : AreLimits data_names (parameters_of query) start end
  limits =
      let told = limits_said (parameters_of query) words read.held in
      record { start_is = subst (λ (m : Option Moment). IsLimit (said data_names (codes "starttime") (parameters_of query)) m) (sym start_is) told.start_is; end_is = subst (λ (m : Option Moment). IsLimit (said data_names (codes "endtime") (parameters_of query)) m) (sym end_is) told.end_is }

  -- the parts that the words give make the query
  pub asked : is_backwards start end ≡ false → (s : Selection) (o : Options) (q : DataQuery) → AreLists words 2 s → s.start ≡ start → s.end ≡ end → AreOptionWords words 6 o → IsMade (s ∷ []) o q
      → IsDataGet query q
  asked forwards s o q lists start_at end_at options made = record {
    right = record { few = few; taken = read.taken };
    selection = s;
    only = made.selections_are;
    names = codes_said (parameters_of query) words read.held s lists;
    window = record { start_is = subst (λ (m : Option Moment). IsLimit (said data_names (codes "starttime") (parameters_of query)) m) (sym start_at) limits.start_is; end_is = subst (λ (m : Option Moment). IsLimit (said data_names (codes "endtime") (parameters_of query)) m) (sym end_at) limits.end_is };
    in_time = in_time s.start s.end (ap (λ (m : Option Moment). is_backwards m s.end) start_at ∙ ap (λ (m : Option Moment). is_backwards start m) end_at ∙ forwards);
    options = options_said (parameters_of query) words read.held (s ∷ []) o q options made;
  }

  pub turned : is_backwards start end ≡ true → IsBackwards query
  turned h =
      let b = backwards start end h in
      record {
        right = record { few = few; taken = read.taken };
        from = b.0;
        to = b.1;
        window = record { start_is = subst (λ (m : Option Moment). IsLimit (said data_names (codes "starttime") (parameters_of query)) m) b.2 limits.start_is; end_is = subst (λ (m : Option Moment). IsLimit (said data_names (codes "endtime") (parameters_of query)) m) b.3 limits.end_is };
        order = b.4;
      }
