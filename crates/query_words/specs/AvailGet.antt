-- What a query string asks of availability, and its faults (fdsnws-availability 1.0).
use Rattle.std.specs.Prelude.{◌≡◌, [], ◌∷◌, Option}
use Rattle.exact_time.specs.declared.moment.Moment.{Moment}
use Rattle.dataselect.specs.declared.query.Selection.{Selection}
use Rattle.query_parameters.specs.Gets.{IsWindowInOrder, AreCodes, AreLimits, IsRight, LacksNone, IsFaultBy, RefusesBy}
use Rattle.query_parameters.specs.Parameters.{parameters_of}
use Rattle.query_parameters.specs.Rows.{Text}
use Rattle.query_parameters.specs.declared.fault.QueryFault.{QueryFault}
use Rattle.query_words.specs.AvailOptions.{AreAvailOptions}
use Rattle.query_words.specs.AvailTables.{avail_names}
use Rattle.query_words.specs.declared.avail.AvailMethod.{AvailMethod}
use Rattle.query_words.specs.declared.avail.AvailQuery.{AvailQuery}

-- the query string asks for this: one selection and the options
pub record IsAvailGet (method : AvailMethod) (query : Text) (q : AvailQuery) : Type 0 where
  pub right : IsRight (avail_names method) query
  pub selection : Selection
  pub only : q.selections ≡ selection ∷ []
  pub names : AreCodes (avail_names method) (parameters_of query) selection
  pub window : AreLimits (avail_names method) (parameters_of query) selection.start selection.end
  pub in_time : IsWindowInOrder selection.start selection.end
  pub options : AreAvailOptions method (avail_names method) (parameters_of query) q

-- each parameter is right, and the start is after the end
pub record IsAvailTurned (method : AvailMethod) (query : Text) : Type 0 where
  pub right : IsRight (avail_names method) query
  pub start : Option Moment
  pub end : Option Moment
  pub window : AreLimits (avail_names method) (parameters_of query) start end
  pub turned : ¬ (IsWindowInOrder start end)

-- the fault of a query string
abbrev pub IsAvailGetFault : AvailMethod → Text → QueryFault → Type 0
IsAvailGetFault method query fault = IsFaultBy (avail_names method) LacksNone (IsAvailTurned method) query fault

-- why a query string gave no query; want of memory is free
abbrev pub RefusesAvailGet : AvailMethod → Text → QueryFault → Type 0
RefusesAvailGet method query fault = RefusesBy (avail_names method) LacksNone (IsAvailTurned method) query fault
