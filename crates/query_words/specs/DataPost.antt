-- What a body asks of dataselect, and its faults (FDSN Web Service Specifications 1.2, dataselect,
-- POST).
use Rattle.std.specs.Prelude.{◌<◌, length}
use Rattle.dataselect.specs.declared.query.DataQuery.{DataQuery}
use Rattle.query_parameters.specs.Bodies.{parameter_lines, selection_lines, parameters_in, AreSelections}
use Rattle.query_words.specs.DataGet.{AreOptions}
use Rattle.query_parameters.specs.Posts.{IsRightFront, IsBodyFaultBy, RefusesBodyBy}
use Rattle.query_parameters.specs.Rows.{Text}
use Rattle.query_words.specs.Tables.{data_options}
use Rattle.query_parameters.specs.declared.fault.QueryFault.{QueryFault}

-- the body asks for this: its selections and options
pub record IsDataPost (body : Text) (q : DataQuery) : Type 0 where
  pub right : IsRightFront data_options body
  pub selections_are : AreSelections (selection_lines body) q.selections
  pub some : 0 < length (selection_lines body)
  pub options : AreOptions data_options (parameters_in (parameter_lines body)) q

-- no body's limits are in no order: a window that is makes its selection line wrong
abbrev pub IsTurned : Text → Type 0
IsTurned body = ⊥

-- the fault of a body
abbrev pub IsPostFault : Text → QueryFault → Type 0
IsPostFault body fault = IsBodyFaultBy data_options IsTurned body fault

-- why a body gave no query; want of memory is free
abbrev pub RefusesPost : Text → QueryFault → Type 0
RefusesPost body fault = RefusesBodyBy data_options IsTurned body fault
