-- What the words of a query for events give is what is said under their names.
use Rattle.std.proofs.Common.{◌≤◌, ℕ, List, [], Option, Some, None, length, refl, sym, ap, subst, ◌∙◌, codes, arith}
use Rattle.exact_time.specs.declared.decimal.Decimal.{Decimal}
use Rattle.exact_time.specs.declared.moment.Moment.{Moment}
use Rattle.query_parameters.specs.Extracts.{AreAreaWords}
use Rattle.query_parameters.specs.Gets.{text_or, said, IsLimit}
use Rattle.query_parameters.specs.Parameters.{Parameter, pairs_of, parameters_of}
use Rattle.query_parameters.specs.Places.{IsBound, AreBounds, IsNumberLimit, IsCountLimit}
use Rattle.query_parameters.specs.Rows.{Text}
use Rattle.query_parameters.specs.Values.{IsCount, most_latitude, most_longitude}
use Rattle.query_parameters.specs.Words.{IsHeld, AreHeld, HasReadParameters}
use Rattle.query_parameters.specs.declared.area.Area.{Area}
use Rattle.query_parameters.specs.declared.area.Limits2.{Limits2}
use Rattle.query_parameters.specs.declared.rows.ValueKind.TheVariants as kind
use Rattle.query_parameters.specs.declared.words.ParameterValue.{ParameterValue}
use Rattle.query_parameters.proofs.NumbersSaid.{number_said, count_said, text_said, event_order_said}
use Rattle.query_parameters.proofs.PlacesSaid.{latitude_said, longitude_said}
use Rattle.query_parameters.proofs.Said.{limit_said, nodata_said}
use Rattle.query_words.specs.EventGet.{IsEventGet, IsEventTurned}
use Rattle.query_words.specs.EventOptions.{AreEventOptions, AreNumberLimits, AreNumberWords, AreEventWords, IsEventInOrder, offset_word, or_one}
use Rattle.query_words.specs.Tables.{event_names}
use Rattle.query_words.specs.declared.event.EventQuery.{EventQuery}

pub from_one : IsCount (codes "1") 1
from_one = record { whole = refl; some = omega arith }

offset_said : (given : Option Text) (held : Option ParameterValue) → IsHeld kind.Count given held → IsCount (text_or (codes "1") given) (offset_word held)
offset_said None held h = subst (λ (o : Option ParameterValue). IsCount (codes "1") (offset_word o)) (sym h) from_one
offset_said (Some text) held h =
    let is = count_said (Some text) held h in
    subst (λ (o : Option ℕ). IsCount text (or_one o)) (sym is.1) is.2

module _ (ps : List Parameter) (words : List (Option ParameterValue)) (held : AreHeld event_names ps words) where
  bounds_said : (area : Area) → AreAreaWords words 3 area → AreBounds event_names ps area
  bounds_said area h = record {
    south_is = subst (λ (d : Option Decimal). IsBound most_latitude (said event_names (codes "minlatitude") ps) d) (sym h.south_is) (latitude_said _ _ (held.each 3 (omega arith)));
    north_is = subst (λ (d : Option Decimal). IsBound most_latitude (said event_names (codes "maxlatitude") ps) d) (sym h.north_is) (latitude_said _ _ (held.each 4 (omega arith)));
    west_is = subst (λ (d : Option Decimal). IsBound most_longitude (said event_names (codes "minlongitude") ps) d) (sym h.west_is) (longitude_said _ _ (held.each 5 (omega arith)));
    east_is = subst (λ (d : Option Decimal). IsBound most_longitude (said event_names (codes "maxlongitude") ps) d) (sym h.east_is) (longitude_said _ _ (held.each 6 (omega arith)));
  }

  depth_said : (limits : Limits2) → AreNumberWords words 7 limits → AreNumberLimits event_names ps (codes "mindepth") (codes "maxdepth") limits
  depth_said limits h = record {
    least_is = subst (λ (d : Option Decimal). IsNumberLimit (said event_names (codes "mindepth") ps) d) (sym h.least_is) (number_said _ _ (held.each 7 (omega arith)));
    most_is = subst (λ (d : Option Decimal). IsNumberLimit (said event_names (codes "maxdepth") ps) d) (sym h.most_is) (number_said _ _ (held.each 8 (omega arith)));
  }

  magnitude_said : (limits : Limits2) → AreNumberWords words 9 limits → AreNumberLimits event_names ps (codes "minmagnitude") (codes "maxmagnitude") limits
  magnitude_said limits h = record {
    least_is = subst (λ (d : Option Decimal). IsNumberLimit (said event_names (codes "minmagnitude") ps) d) (sym h.least_is) (number_said _ _ (held.each 9 (omega arith)));
    most_is = subst (λ (d : Option Decimal). IsNumberLimit (said event_names (codes "maxmagnitude") ps) d) (sym h.most_is) (number_said _ _ (held.each 10 (omega arith)));
  }

  pub options_said : (q : EventQuery) → AreEventWords words q → AreEventOptions event_names ps q
  options_said q h = record {
    window = record {
      start_is = subst (λ (m : Option Moment). IsLimit (said event_names (codes "starttime") ps) m) (sym h.start_is) (limit_said _ _ (held.each 0 (omega arith)));
      end_is = subst (λ (m : Option Moment). IsLimit (said event_names (codes "endtime") ps) m) (sym h.end_is) (limit_said _ _ (held.each 1 (omega arith)));
    };
    bounds = bounds_said q.area h.area_is;
    depth = depth_said q.depth h.depth_is;
    magnitude = magnitude_said q.magnitude h.magnitude_is;
    magnitude_kind_is = text_said _ _ (held.each 11 (omega arith)) ∙ sym h.magnitude_kind_is;
    id_is = text_said _ _ (held.each 12 (omega arith)) ∙ sym h.id_is;
    catalog_is = text_said _ _ (held.each 13 (omega arith)) ∙ sym h.catalog_is;
    contributor_is = text_said _ _ (held.each 14 (omega arith)) ∙ sym h.contributor_is;
    order_is = event_order_said _ _ (held.each 15 (omega arith)) ∙ ap Some (sym h.order_is);
    limit_is = subst (λ (n : Option ℕ). IsCountLimit (said event_names (codes "limit") ps) n) (sym h.limit_is) (count_said _ _ (held.each 16 (omega arith)));
    offset_is = subst (λ (n : ℕ). IsCount (text_or (codes "1") (said event_names (codes "offset") ps)) n) (sym h.offset_is) (offset_said _ _ (held.each 17 (omega arith)));
    nodata_is = nodata_said _ _ (held.each 2 (omega arith)) ∙ ap Some (sym h.nodata_is);
  }

module _ (query : Text) (words : List (Option ParameterValue)) (few : length (pairs_of query) ≤ 1000) (read : HasReadParameters event_names (parameters_of query) (parameters_of query) [] words) (q : EventQuery) (is : AreEventWords words q) where
  pub asked : IsEventInOrder q → IsEventGet query q
  asked in_order = record { right = record { few = few; taken = read.taken }; options = options_said (parameters_of query) words read.held q is; in_order = in_order }

  pub turned : ¬ (IsEventInOrder q) → IsEventTurned query
  turned off = record { right = record { few = few; taken = read.taken }; q = q; options = options_said (parameters_of query) words read.held q is; turned = off }
