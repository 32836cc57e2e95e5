-- What a query string asks of event, and its faults (FDSN Web Service Specifications 1.2, event).
use Rattle.query_parameters.specs.Gets.{IsRight, LacksNone, IsFaultBy, RefusesBy}
use Rattle.query_parameters.specs.Parameters.{parameters_of}
use Rattle.query_parameters.specs.Rows.{Text}
use Rattle.query_parameters.specs.declared.fault.QueryFault.{QueryFault}
use Rattle.query_words.specs.EventOptions.{AreEventOptions, IsEventInOrder}
use Rattle.query_words.specs.Tables.{event_names}
use Rattle.query_words.specs.declared.event.EventQuery.{EventQuery}

-- the query string asks for this, with limits that are in order
pub record IsEventGet (query : Text) (q : EventQuery) : Type 0 where
  pub right : IsRight event_names query
  pub options : AreEventOptions event_names (parameters_of query) q
  pub in_order : IsEventInOrder q

-- each parameter is right, and a least limit is above its greatest
pub record IsEventTurned (query : Text) : Type 0 where
  pub right : IsRight event_names query
  pub q : EventQuery
  pub options : AreEventOptions event_names (parameters_of query) q
  pub turned : ¬ (IsEventInOrder q)

-- the fault of a query string
abbrev pub IsEventGetFault : Text → QueryFault → Type 0
IsEventGetFault query fault = IsFaultBy event_names LacksNone IsEventTurned query fault

-- why a query string gave no query; want of memory is free
abbrev pub RefusesEventGet : Text → QueryFault → Type 0
RefusesEventGet query fault = RefusesBy event_names LacksNone IsEventTurned query fault
