-- The parts of a body that asks for stations.
use Rattle.std.proofs.Common.{◌<◌, List, Option, length, sym, subst}
use Rattle.dataselect.specs.declared.query.Selection.{Selection}
use Rattle.query_parameters.specs.Bodies.{parameter_lines, selection_lines, parameters_in, AreSelections}
use Rattle.query_words.specs.Options.{AreStationWords, IsStationMade}
use Rattle.query_parameters.specs.Places.{IsAreaInOrder}
use Rattle.query_parameters.specs.Posts.{IsRightFront}
use Rattle.query_parameters.specs.Rows.{Text}
use Rattle.query_words.specs.Tables.{station_options}
use Rattle.query_words.specs.StationPost.{IsStationPost, IsAreaTurned}
use Rattle.query_parameters.specs.Words.{AreHeld}
use Rattle.query_words.specs.declared.places.StationOptions.{StationOptions}
use Rattle.query_parameters.specs.declared.area.Area.{Area}
use Rattle.query_words.specs.declared.station.StationQuery.{StationQuery}
use Rattle.query_parameters.specs.declared.words.ParameterValue.{ParameterValue}
use Rattle.query_parameters.proofs.OnePlace.{one_area}
use Rattle.query_words.proofs.StationSteps.{bounds_posted, options_posted}

module _ (body : Text) (words : List (Option ParameterValue)) (held : AreHeld station_options (parameters_in (parameter_lines body)) words) (o : StationOptions) (options : AreStationWords words 0 o) where
  -- the place's limits are in no order
  pub area_turned : ¬ (IsAreaInOrder o.area) → IsAreaTurned body
  area_turned off = record { area = o.area; bounds = bounds_posted (parameters_in (parameter_lines body)) words held o.area options.area_is; turned = off }

  -- or they are
  pub area_ordered : IsAreaInOrder o.area → ¬ (IsAreaTurned body)
  area_ordered in_order k =
      let same = one_area station_options (parameters_in (parameter_lines body)) o.area k.area (bounds_posted (parameters_in (parameter_lines body)) words held o.area options.area_is) k.bounds in
      k.turned (subst (λ (a : Area). IsAreaInOrder a) same in_order)

-- the parts make the query
pub post_asked : (body : Text) (words : List (Option ParameterValue)) → IsRightFront station_options body → AreHeld station_options (parameters_in (parameter_lines body)) words → (ss : List Selection) → AreSelections (selection_lines body) ss
    → 0 < length (selection_lines body) → (o : StationOptions) (q : StationQuery) → AreStationWords words 0 o → IsAreaInOrder o.area → IsStationMade ss o q → IsStationPost body q
post_asked body words right held ss chosen some o q options in_order made = record {
  right = right;
  selections_are = subst (λ (xs : List Selection). AreSelections (selection_lines body) xs) (sym made.selections_are) chosen;
  some = some;
  options = options_posted (parameters_in (parameter_lines body)) words held ss o q options made;
  in_order = subst (λ (a : Area). IsAreaInOrder a) (sym made.area_is) in_order;
}
