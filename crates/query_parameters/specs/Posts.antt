-- The lines of a body that are right, and its faults, whatever its method makes of it (FDSN Web Service
-- Specifications 1.2, dataselect and station, POST).
use Rattle.std.specs.Prelude.{◌≡◌, ◌⊎◌, ◌≤◌, ◌<◌, List, [], length, ⊤}
use Rattle.query_parameters.specs.Bodies.{parameter_lines, selection_lines, TakesLine, RefusesLine, TakesSelection, RefusesSelection}
use Rattle.query_parameters.specs.FirstRefusals.{AreTaken, IsFirstRefusal}
use Rattle.query_parameters.specs.Rows.{Text, Named}
use Rattle.query_parameters.specs.declared.fault.QueryFault.{QueryFault}
use Rattle.query_parameters.specs.declared.fault.QueryFault.TheVariants.{TooMany, Unknown, Repeated, OutOfScope, Value, Line, Order, NoLine, OutOfMemory}

-- there are at most 1000 parameter lines and at most 10,000 selection lines
pub record AreFew (body : Text) : Type 0 where
  pub parameters : length (parameter_lines body) ≤ 1000
  pub selections : length (selection_lines body) ≤ 10_000

-- there are few enough, and each parameter line is right
pub record IsRightFront (options : List Named) (body : Text) : Type 0 where
  pub few : AreFew body
  pub taken : AreTaken (TakesLine options) [] (parameter_lines body)

-- and each selection line is right
pub record IsRightBody (options : List Named) (body : Text) : Type 0 where
  pub right : IsRightFront options body
  pub rest : AreTaken TakesSelection [] (selection_lines body)

-- the first wrong line is a parameter line
abbrev pub IsWrongFront : List Named → Text → QueryFault → Type 0
IsWrongFront options body fault = IsFirstRefusal (TakesLine options) (RefusesLine options) (parameter_lines body) fault

-- each parameter line is right, and a selection line is the first wrong one
pub record IsWrongRest (options : List Named) (body : Text) (fault : QueryFault) : Type 0 where
  pub taken : AreTaken (TakesLine options) [] (parameter_lines body)
  pub first : IsFirstRefusal TakesSelection RefusesSelection (selection_lines body) fault

-- there are few enough, and the first wrong line has this fault
pub record IsFirstWrongLine (options : List Named) (body : Text) (fault : QueryFault) : Type 0 where
  pub few : AreFew body
  pub first : IsWrongFront options body fault ⊎ IsWrongRest options body fault

-- The fault of a body: too many lines, or else the first wrong line, or else that its limits are in no order, which
-- each method says for itself, or else that no line selects.
abbrev pub IsBodyFaultBy : List Named → (Text → Type 0) → Text → QueryFault → Type 0
IsBodyFaultBy options Turned body TooMany = (1000 < length (parameter_lines body)) ⊎ (10_000 < length (selection_lines body))
IsBodyFaultBy options Turned body (Unknown number) = IsFirstWrongLine options body (Unknown number)
IsBodyFaultBy options Turned body (Repeated number) = IsFirstWrongLine options body (Repeated number)
IsBodyFaultBy options Turned body (OutOfScope number) = IsFirstWrongLine options body (OutOfScope number)
IsBodyFaultBy options Turned body (Value number) = IsFirstWrongLine options body (Value number)
IsBodyFaultBy options Turned body (Line number) = IsFirstWrongLine options body (Line number)
IsBodyFaultBy options Turned body Order = IsRightBody options body × Turned body
IsBodyFaultBy options Turned body NoLine = IsRightBody options body × (¬ (Turned body)) × (selection_lines body ≡ [])
IsBodyFaultBy options Turned body OutOfMemory = ⊥

-- why a body gave no query; want of memory is free
abbrev pub RefusesBodyBy : List Named → (Text → Type 0) → Text → QueryFault → Type 0
RefusesBodyBy options Turned body OutOfMemory = ⊤
RefusesBodyBy options Turned body TooMany = IsBodyFaultBy options Turned body TooMany
RefusesBodyBy options Turned body (Unknown number) = IsBodyFaultBy options Turned body (Unknown number)
RefusesBodyBy options Turned body (Repeated number) = IsBodyFaultBy options Turned body (Repeated number)
RefusesBodyBy options Turned body (OutOfScope number) = IsBodyFaultBy options Turned body (OutOfScope number)
RefusesBodyBy options Turned body (Value number) = IsBodyFaultBy options Turned body (Value number)
RefusesBodyBy options Turned body (Line number) = IsBodyFaultBy options Turned body (Line number)
RefusesBodyBy options Turned body Order = IsBodyFaultBy options Turned body Order
RefusesBodyBy options Turned body NoLine = IsBodyFaultBy options Turned body NoLine
