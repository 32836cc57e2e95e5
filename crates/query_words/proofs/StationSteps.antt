-- What the words of a query for stations give is what is said under their names.
use Rattle.std.proofs.Common.{◌≡◌, ◌⊎◌, ◌≤◌, ◌+◌, true, false, List, [], ◌∷◌, Option, Some, None, length, get_or, sym, ap, subst, ◌∙◌, codes, arith}
use Rattle.exact_time.specs.declared.decimal.Decimal.{Decimal}
use Rattle.exact_time.specs.declared.moment.Moment.{Moment}
use Rattle.channel_globs.specs.declared.nslc.Part.TheVariants.{Network, Station, Location, Channel}
use Rattle.dataselect.specs.declared.query.Selection.{Selection}
use Rattle.query_parameters.specs.Extracts.{limit_word, AreAreaWords, AreLists, is_backwards}
use Rattle.query_words.specs.Options.{AreStationWords, IsStationMade}
use Rattle.query_parameters.specs.Gets.{said, IsLimit, IsWindowInOrder, AreCodes, AreLimits}
use Rattle.query_parameters.specs.Parameters.{Parameter, pairs_of, parameters_of}
use Rattle.query_parameters.specs.Places.{IsBound, AreBounds, IsAreaInOrder}
use Rattle.query_words.specs.StationOptions.{AreStationOptions}
use Rattle.query_parameters.specs.Rows.{Text}
use Rattle.query_words.specs.Tables.{station_names, station_options}
use Rattle.query_words.specs.StationGet.{IsStationGet, IsStationTurned}
use Rattle.query_parameters.specs.Values.{most_latitude, most_longitude}
use Rattle.query_parameters.specs.Words.{AreHeld, HasReadParameters}
use Rattle.query_words.specs.declared.places.StationOptions.{StationOptions}
use Rattle.query_parameters.specs.declared.area.Area.{Area}
use Rattle.query_words.specs.declared.station.StationQuery.{StationQuery}
use Rattle.query_parameters.specs.declared.words.ParameterValue.{ParameterValue}
use Rattle.query_parameters.proofs.OneGet.{not_backwards}
use Rattle.query_parameters.proofs.Said.{limit_said, list_said, nodata_said, in_time, backwards}
use Rattle.query_parameters.proofs.PlacesSaid.{latitude_said, level_said, longitude_said}

-- of a query string
module _ (ps : List Parameter) (words : List (Option ParameterValue)) (held : AreHeld station_names ps words) where
  pub limits_said : AreLimits station_names ps (limit_word (get_or words 0 None)) (limit_word (get_or words 1 None))
  limits_said = record { start_is = limit_said _ _ (held.each 0 (omega arith)); end_is = limit_said _ _ (held.each 1 (omega arith)) }

  pub codes_said : (s : Selection) → AreLists words 2 s → AreCodes station_names ps s
  codes_said s h = record {
    network_is = list_said Network _ _ _ (held.each 2 (omega arith)) h.network_is;
    station_is = list_said Station _ _ _ (held.each 3 (omega arith)) h.station_is;
    location_is = list_said Location _ _ _ (held.each 4 (omega arith)) h.location_is;
    channel_is = list_said Channel _ _ _ (held.each 5 (omega arith)) h.channel_is;
  }

  pub bounds_said : (area : Area) → AreAreaWords words (6 + 5) area → AreBounds station_names ps area
  bounds_said area h = record {
    south_is = subst (λ (d : Option Decimal). IsBound most_latitude (said station_names (codes "minlatitude") ps) d) (sym h.south_is) (latitude_said _ _ (held.each 11 (omega arith)));
    north_is = subst (λ (d : Option Decimal). IsBound most_latitude (said station_names (codes "maxlatitude") ps) d) (sym h.north_is) (latitude_said _ _ (held.each 12 (omega arith)));
    west_is = subst (λ (d : Option Decimal). IsBound most_longitude (said station_names (codes "minlongitude") ps) d) (sym h.west_is) (longitude_said _ _ (held.each 13 (omega arith)));
    east_is = subst (λ (d : Option Decimal). IsBound most_longitude (said station_names (codes "maxlongitude") ps) d) (sym h.east_is) (longitude_said _ _ (held.each 14 (omega arith)));
  }

  pub options_said : (selections : List Selection) (o : StationOptions) (q : StationQuery) → AreStationWords words 6 o → IsStationMade selections o q → AreStationOptions station_names ps q
  options_said selections o q h k = record {
    nodata_is = nodata_said _ _ (held.each 6 (omega arith)) ∙ ap Some (sym h.nodata_is ∙ sym k.nodata_is);
    start_before_is = subst (λ (m : Option Moment). IsLimit (said station_names (codes "startbefore") ps) m) (sym (k.start_before_is ∙ h.start_before_is)) (limit_said _ _ (held.each 7 (omega arith)));
    start_after_is = subst (λ (m : Option Moment). IsLimit (said station_names (codes "startafter") ps) m) (sym (k.start_after_is ∙ h.start_after_is)) (limit_said _ _ (held.each 8 (omega arith)));
    end_before_is = subst (λ (m : Option Moment). IsLimit (said station_names (codes "endbefore") ps) m) (sym (k.end_before_is ∙ h.end_before_is)) (limit_said _ _ (held.each 9 (omega arith)));
    end_after_is = subst (λ (m : Option Moment). IsLimit (said station_names (codes "endafter") ps) m) (sym (k.end_after_is ∙ h.end_after_is)) (limit_said _ _ (held.each 10 (omega arith)));
    bounds = subst (λ (a : Area). AreBounds station_names ps a) (sym k.area_is) (bounds_said o.area h.area_is);
    level_is = level_said _ _ (held.each 15 (omega arith)) ∙ ap Some (sym h.level_is ∙ sym k.level_is);
  }

-- of a body
module _ (ps : List Parameter) (words : List (Option ParameterValue)) (held : AreHeld station_options ps words) where
  pub bounds_posted : (area : Area) → AreAreaWords words (0 + 5) area → AreBounds station_options ps area
  bounds_posted area h = record {
    south_is = subst (λ (d : Option Decimal). IsBound most_latitude (said station_options (codes "minlatitude") ps) d) (sym h.south_is) (latitude_said _ _ (held.each 5 (omega arith)));
    north_is = subst (λ (d : Option Decimal). IsBound most_latitude (said station_options (codes "maxlatitude") ps) d) (sym h.north_is) (latitude_said _ _ (held.each 6 (omega arith)));
    west_is = subst (λ (d : Option Decimal). IsBound most_longitude (said station_options (codes "minlongitude") ps) d) (sym h.west_is) (longitude_said _ _ (held.each 7 (omega arith)));
    east_is = subst (λ (d : Option Decimal). IsBound most_longitude (said station_options (codes "maxlongitude") ps) d) (sym h.east_is) (longitude_said _ _ (held.each 8 (omega arith)));
  }

  pub options_posted : (selections : List Selection) (o : StationOptions) (q : StationQuery) → AreStationWords words 0 o → IsStationMade selections o q → AreStationOptions station_options ps q
  options_posted selections o q h k = record {
    nodata_is = nodata_said _ _ (held.each 0 (omega arith)) ∙ ap Some (sym h.nodata_is ∙ sym k.nodata_is);
    start_before_is = subst (λ (m : Option Moment). IsLimit (said station_options (codes "startbefore") ps) m) (sym (k.start_before_is ∙ h.start_before_is)) (limit_said _ _ (held.each 1 (omega arith)));
    start_after_is = subst (λ (m : Option Moment). IsLimit (said station_options (codes "startafter") ps) m) (sym (k.start_after_is ∙ h.start_after_is)) (limit_said _ _ (held.each 2 (omega arith)));
    end_before_is = subst (λ (m : Option Moment). IsLimit (said station_options (codes "endbefore") ps) m) (sym (k.end_before_is ∙ h.end_before_is)) (limit_said _ _ (held.each 3 (omega arith)));
    end_after_is = subst (λ (m : Option Moment). IsLimit (said station_options (codes "endafter") ps) m) (sym (k.end_after_is ∙ h.end_after_is)) (limit_said _ _ (held.each 4 (omega arith)));
    bounds = subst (λ (a : Area). AreBounds station_options ps a) (sym k.area_is) (bounds_posted o.area h.area_is);
    level_is = level_said _ _ (held.each 9 (omega arith)) ∙ ap Some (sym h.level_is ∙ sym k.level_is);
  }

module _ (query : Text) (words : List (Option ParameterValue)) (few : length (pairs_of query) ≤ 1000) (read : HasReadParameters station_names (parameters_of query) (parameters_of query) [] words)
    (start end : Option Moment) (start_is : start ≡ limit_word (get_or words 0 None)) (end_is : end ≡ limit_word (get_or words 1 None))
    (o : StationOptions) (options : AreStationWords words 6 o) where
  window : AreLimits station_names (parameters_of query) start end
  window =
      let told = limits_said (parameters_of query) words read.held in
      record { start_is = subst (λ (m : Option Moment). IsLimit (said station_names (codes "starttime") (parameters_of query)) m) (sym start_is) told.start_is; end_is = subst (λ (m : Option Moment). IsLimit (said station_names (codes "endtime") (parameters_of query)) m) (sym end_is) told.end_is }

  -- the parts that the words give make the query
  pub asked : is_backwards start end ≡ false → IsAreaInOrder o.area → (s : Selection) (q : StationQuery) → AreLists words 2 s → s.start ≡ start → s.end ≡ end → IsStationMade (s ∷ []) o q → IsStationGet query q
  asked forwards in_order s q lists start_at end_at made = record {
    right = record { few = few; taken = read.taken };
    selection = s;
    only = made.selections_are;
    names = codes_said (parameters_of query) words read.held s lists;
    window = record { start_is = subst (λ (m : Option Moment). IsLimit (said station_names (codes "starttime") (parameters_of query)) m) (sym start_at) window.start_is; end_is = subst (λ (m : Option Moment). IsLimit (said station_names (codes "endtime") (parameters_of query)) m) (sym end_at) window.end_is };
    in_time = in_time s.start s.end (ap (λ (m : Option Moment). is_backwards m s.end) start_at ∙ ap (λ (m : Option Moment). is_backwards start m) end_at ∙ forwards);
    options = options_said (parameters_of query) words read.held (s ∷ []) o q options made;
    in_order = subst (λ (a : Area). IsAreaInOrder a) (sym made.area_is) in_order;
  }

  pub turned : (¬ (IsWindowInOrder start end)) ⊎ (¬ (IsAreaInOrder o.area)) → IsStationTurned query
  turned why = record {
    right = record { few = few; taken = read.taken };
    start = start;
    end = end;
    window = window;
    area = o.area;
    bounds = bounds_said (parameters_of query) words read.held o.area options.area_is;
    turned = why;
  }

  -- a start after the end is in no order
  pub late : is_backwards start end ≡ true → ¬ (IsWindowInOrder start end)
  late h forwards =
      let b = backwards start end h in
      not_backwards start end b.0 b.1 b.2 b.3 forwards b.4
