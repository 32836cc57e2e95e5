-- What a body asks of station, and its faults (FDSN Web Service Specifications 1.2, station, POST).
use Rattle.std.specs.Prelude.{◌<◌, length}
use Rattle.query_parameters.specs.Bodies.{parameter_lines, selection_lines, parameters_in, AreSelections}
use Rattle.query_parameters.specs.Places.{AreBounds, IsAreaInOrder}
use Rattle.query_words.specs.StationOptions.{AreStationOptions}
use Rattle.query_parameters.specs.Posts.{IsRightFront, IsBodyFaultBy, RefusesBodyBy}
use Rattle.query_parameters.specs.Rows.{Text}
use Rattle.query_words.specs.Tables.{station_options}
use Rattle.query_parameters.specs.declared.fault.QueryFault.{QueryFault}
use Rattle.query_parameters.specs.declared.area.Area.{Area}
use Rattle.query_words.specs.declared.station.StationQuery.{StationQuery}

-- the body asks for this: its selections and options, with limits that are in order
pub record IsStationPost (body : Text) (q : StationQuery) : Type 0 where
  pub right : IsRightFront station_options body
  pub selections_are : AreSelections (selection_lines body) q.selections
  pub some : 0 < length (selection_lines body)
  pub options : AreStationOptions station_options (parameters_in (parameter_lines body)) q
  pub in_order : IsAreaInOrder q.area

-- a least limit is above its greatest
pub record IsAreaTurned (body : Text) : Type 0 where
  pub area : Area
  pub bounds : AreBounds station_options (parameters_in (parameter_lines body)) area
  pub turned : ¬ (IsAreaInOrder area)

-- the fault of a body
abbrev pub IsStationPostFault : Text → QueryFault → Type 0
IsStationPostFault body fault = IsBodyFaultBy station_options IsAreaTurned body fault

-- why a body gave no query; want of memory is free
abbrev pub RefusesStationPost : Text → QueryFault → Type 0
RefusesStationPost body fault = RefusesBodyBy station_options IsAreaTurned body fault
