-- What a body asks of availability, and its faults (fdsnws-availability 1.0, POST).
use Rattle.std.specs.Prelude.{◌<◌, length}
use Rattle.query_parameters.specs.Bodies.{parameter_lines, selection_lines, parameters_in, AreSelections}
use Rattle.query_parameters.specs.Posts.{IsRightFront, IsBodyFaultBy, RefusesBodyBy}
use Rattle.query_parameters.specs.Rows.{Text}
use Rattle.query_parameters.specs.declared.fault.QueryFault.{QueryFault}
use Rattle.query_words.specs.AvailOptions.{AreAvailOptions}
use Rattle.query_words.specs.AvailTables.{avail_options}
use Rattle.query_words.specs.DataPost.{IsTurned}
use Rattle.query_words.specs.declared.avail.AvailMethod.{AvailMethod}
use Rattle.query_words.specs.declared.avail.AvailQuery.{AvailQuery}

-- the body asks for this: its selections and options
pub record IsAvailPost (method : AvailMethod) (body : Text) (q : AvailQuery) : Type 0 where
  pub right : IsRightFront (avail_options method) body
  pub selections_are : AreSelections (selection_lines body) q.selections
  pub some : 0 < length (selection_lines body)
  pub options : AreAvailOptions method (avail_options method) (parameters_in (parameter_lines body)) q

-- the fault of a body
abbrev pub IsAvailPostFault : AvailMethod → Text → QueryFault → Type 0
IsAvailPostFault method body fault = IsBodyFaultBy (avail_options method) IsTurned body fault

-- why a body gave no query; want of memory is free
abbrev pub RefusesAvailPost : AvailMethod → Text → QueryFault → Type 0
RefusesAvailPost method body fault = RefusesBodyBy (avail_options method) IsTurned body fault
