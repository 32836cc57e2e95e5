-- What a reader of selection lines gives.
use Rattle.std.specs.Prelude.{ℕ, List, Option, ⊤}
use Rattle.exact_time.specs.declared.moment.Moment.{Moment}
use Rattle.query_parameters.specs.Bodies.{Numbered, Fields, IsWindow, TakesSelection, RefusesSelection}
use Rattle.query_parameters.specs.FirstRefusals.{IsFirstRefusal}
use Rattle.query_parameters.specs.declared.fault.QueryFault.{QueryFault}
use Rattle.query_parameters.specs.declared.fault.QueryFault.TheVariants.{Line, OutOfMemory}
use Rattle.query_parameters.specs.declared.selections.FieldTexts.{FieldTexts}
use Rattle.query_parameters.specs.declared.words.ValueFault.{ValueFault}
use Rattle.query_parameters.specs.declared.words.ValueFault.TheVariants as fault

-- fields, without where they lie in memory
abbrev pub texts : FieldTexts → Fields
texts f = record {
  network = f.network.now;
  station = f.station.now;
  location = f.location.now;
  channel = f.channel.now;
  start = f.start.now;
  end = f.end.now;
}

-- why nothing with a property was read: nothing has it; want of memory is free
abbrev pub HasNone : {X : Type 0} → (X → Type 0) → ValueFault → Type 0
HasNone {X} P fault.Value = (x : X) → ¬ (P x)
HasNone P fault.OutOfScope = ⊥
HasNone P fault.OutOfMemory = ⊤

abbrev pub IsWindowPair : Fields → Option Moment × Option Moment → Type 0
IsWindowPair f w = IsWindow f w.0 w.1

-- how a fault of a line's value is a fault of a query
abbrev pub line_fault : ValueFault → ℕ → QueryFault
line_fault fault.Value number = Line number
line_fault fault.OutOfScope number = Line number
line_fault fault.OutOfMemory number = OutOfMemory

-- why the selections of some lines weren't read; want of memory is free
abbrev pub RefusesRest : List Numbered → QueryFault → Type 0
RefusesRest ls OutOfMemory = ⊤
RefusesRest ls fault = IsFirstRefusal TakesSelection RefusesSelection ls fault
