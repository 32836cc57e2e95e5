-- What a query string says under the names of a method, and its faults (FDSN Web Service Specifications 1.2,
-- dataselect and station).
use Rattle.std.specs.Prelude.{◌≡◌, ◌⊎◌, ℕ, ◌≤◌, ◌<◌, ◌≤ℤ◌, List, [], length, Option, Some, None, codes, ⊤}
use Rattle.exact_time.specs.MomentText.{IsMoment}
use Rattle.exact_time.specs.declared.moment.Moment.{Moment}
use Rattle.channel_globs.specs.PatternText.{IsPatternList}
use Rattle.channel_globs.specs.declared.nslc.Part.TheVariants.{Network, Station, Location, Channel}
use Rattle.dataselect.specs.declared.query.Selection.{Selection}
use Rattle.query_parameters.specs.FirstRefusals.{AreTaken, IsFirstRefusal}
use Rattle.query_parameters.specs.Rows.{Text, Named, place_of_name}
use Rattle.query_parameters.specs.Parameters.{Parameter, pairs_of, parameters_of, given, TakesParameter, RefusesParameter}
use Rattle.query_parameters.specs.declared.fault.QueryFault.{QueryFault}
use Rattle.query_parameters.specs.declared.fault.QueryFault.TheVariants.{TooMany, Unknown, Repeated, OutOfScope, Value, Line, Order, NoLine, OutOfMemory}

abbrev pub given_at : List Named → Option ℕ → List Parameter → Option Text
given_at rows None ps = None
given_at rows (Some row) ps = given rows row ps

-- what is said under a name or its alias
abbrev pub said : List Named → Text → List Parameter → Option Text
said rows name ps = given_at rows (place_of_name rows name) ps

-- the text, or another where there is none
abbrev pub text_or : Text → Option Text → Text
text_or other None = other
text_or other (Some text) = text

-- what is said under a name, or its default
abbrev pub said_or : Text → List Named → Text → List Parameter → Text
said_or default rows name ps = text_or default (said rows name ps)

-- a text names the limit; no text, no limit
abbrev pub IsLimit : Option Text → Option Moment → Type 0
IsLimit None limit = limit ≡ None
IsLimit (Some text) limit = (moment : Moment) × (limit ≡ Some moment) × IsMoment text moment.micros

-- the end is not before the start
abbrev pub IsWindowInOrder : Option Moment → Option Moment → Type 0
IsWindowInOrder (Some start) (Some end) = start.micros ≤ℤ end.micros
IsWindowInOrder (Some start) None = ⊤
IsWindowInOrder None end = ⊤

-- the four codes, each any where it isn't said
pub record AreCodes (rows : List Named) (ps : List Parameter) (s : Selection) : Type 0 where
  pub network_is : IsPatternList Network (said_or (codes "*") rows (codes "network") ps) s.network
  pub station_is : IsPatternList Station (said_or (codes "*") rows (codes "station") ps) s.station
  pub location_is : IsPatternList Location (said_or (codes "*") rows (codes "location") ps) s.location
  pub channel_is : IsPatternList Channel (said_or (codes "*") rows (codes "channel") ps) s.channel

-- the window of the two times
pub record AreLimits (rows : List Named) (ps : List Parameter) (start end : Option Moment) : Type 0 where
  pub start_is : IsLimit (said rows (codes "starttime") ps) start
  pub end_is : IsLimit (said rows (codes "endtime") ps) end

-- the query string has at most 1000 parameters, and each is right
pub record IsRight (rows : List Named) (query : Text) : Type 0 where
  pub few : length (pairs_of query) ≤ 1000
  pub taken : AreTaken (TakesParameter rows) [] (parameters_of query)

-- there are few enough, and the first wrong parameter has this fault
pub record IsFirstWrong (rows : List Named) (query : Text) (fault : QueryFault) : Type 0 where
  pub few : length (pairs_of query) ≤ 1000
  pub first : IsFirstRefusal (TakesParameter rows) (RefusesParameter rows) (parameters_of query) fault

-- a method of which no parameter has to be given
abbrev pub LacksNone : Text → Type 0
LacksNone query = ⊥

-- The fault of a query string: too many parameters, or else the first wrong one, or else that one is lacking
-- that has to be given, which is told as a value of parameter 0, or that its limits are in no order. Of the last
-- two each method says for itself what they are.
abbrev pub IsFaultBy : List Named → (Text → Type 0) → (Text → Type 0) → Text → QueryFault → Type 0
IsFaultBy rows Lacks Turned query TooMany = 1000 < length (pairs_of query)
IsFaultBy rows Lacks Turned query (Unknown number) = IsFirstWrong rows query (Unknown number)
IsFaultBy rows Lacks Turned query (Repeated number) = IsFirstWrong rows query (Repeated number)
IsFaultBy rows Lacks Turned query (OutOfScope number) = IsFirstWrong rows query (OutOfScope number)
IsFaultBy rows Lacks Turned query (Value number) = IsFirstWrong rows query (Value number) ⊎ ((number ≡ 0) × Lacks query)
IsFaultBy rows Lacks Turned query (Line number) = ⊥
IsFaultBy rows Lacks Turned query Order = Turned query
IsFaultBy rows Lacks Turned query NoLine = ⊥
IsFaultBy rows Lacks Turned query OutOfMemory = ⊥

-- why a query string gave no query; want of memory is free
abbrev pub RefusesBy : List Named → (Text → Type 0) → (Text → Type 0) → Text → QueryFault → Type 0
RefusesBy rows Lacks Turned query OutOfMemory = ⊤
RefusesBy rows Lacks Turned query TooMany = IsFaultBy rows Lacks Turned query TooMany
RefusesBy rows Lacks Turned query (Unknown number) = IsFaultBy rows Lacks Turned query (Unknown number)
RefusesBy rows Lacks Turned query (Repeated number) = IsFaultBy rows Lacks Turned query (Repeated number)
RefusesBy rows Lacks Turned query (OutOfScope number) = IsFaultBy rows Lacks Turned query (OutOfScope number)
RefusesBy rows Lacks Turned query (Value number) = IsFaultBy rows Lacks Turned query (Value number)
RefusesBy rows Lacks Turned query (Line number) = IsFaultBy rows Lacks Turned query (Line number)
RefusesBy rows Lacks Turned query Order = IsFaultBy rows Lacks Turned query Order
RefusesBy rows Lacks Turned query NoLine = IsFaultBy rows Lacks Turned query NoLine
