-- What a query string asks of station, and its faults (FDSN Web Service Specifications 1.2, station).
use Rattle.std.specs.Prelude.{◌≡◌, ◌⊎◌, [], ◌∷◌, Option}
use Rattle.exact_time.specs.declared.moment.Moment.{Moment}
use Rattle.dataselect.specs.declared.query.Selection.{Selection}
use Rattle.query_parameters.specs.Gets.{IsWindowInOrder, AreCodes, AreLimits, IsRight, LacksNone, IsFaultBy, RefusesBy}
use Rattle.query_parameters.specs.Parameters.{parameters_of}
use Rattle.query_parameters.specs.Places.{AreBounds, IsAreaInOrder}
use Rattle.query_words.specs.StationOptions.{AreStationOptions}
use Rattle.query_parameters.specs.Rows.{Text}
use Rattle.query_words.specs.Tables.{station_names}
use Rattle.query_parameters.specs.declared.fault.QueryFault.{QueryFault}
use Rattle.query_parameters.specs.declared.area.Area.{Area}
use Rattle.query_words.specs.declared.station.StationQuery.{StationQuery}

-- the query string asks for this: one selection and the options, with limits that are in order
pub record IsStationGet (query : Text) (q : StationQuery) : Type 0 where
  pub right : IsRight station_names query
  pub selection : Selection
  pub only : q.selections ≡ selection ∷ []
  pub names : AreCodes station_names (parameters_of query) selection
  pub window : AreLimits station_names (parameters_of query) selection.start selection.end
  pub in_time : IsWindowInOrder selection.start selection.end
  pub options : AreStationOptions station_names (parameters_of query) q
  pub in_order : IsAreaInOrder q.area

-- each parameter is right, and the start is after the end, or a least limit is above its greatest
pub record IsStationTurned (query : Text) : Type 0 where
  pub right : IsRight station_names query
  pub start : Option Moment
  pub end : Option Moment
  pub window : AreLimits station_names (parameters_of query) start end
  pub area : Area
  pub bounds : AreBounds station_names (parameters_of query) area
  pub turned : (¬ (IsWindowInOrder start end)) ⊎ (¬ (IsAreaInOrder area))

-- the fault of a query string
abbrev pub IsStationGetFault : Text → QueryFault → Type 0
IsStationGetFault query fault = IsFaultBy station_names LacksNone IsStationTurned query fault

-- why a query string gave no query; want of memory is free
abbrev pub RefusesStationGet : Text → QueryFault → Type 0
RefusesStationGet query fault = RefusesBy station_names LacksNone IsStationTurned query fault
