-- What the lines of a body say by a table of names (FDSN Web Service Specifications 1.2, POST).
use Rattle.std.specs.Prelude.{◌⊎◌, ◌<◌, List, length, Option, ⊤}
use Rattle.dataselect.specs.declared.query.Selection.{Selection}
use Rattle.query_parameters.specs.Bodies.{parameter_lines, selection_lines, AreSelections}
use Rattle.query_parameters.specs.Fronts.{HasFront}
use Rattle.query_parameters.specs.Posts.{AreFew, IsFirstWrongLine}
use Rattle.query_parameters.specs.Rows.{Text, Named}
use Rattle.query_parameters.specs.declared.fault.QueryFault.{QueryFault}
use Rattle.query_parameters.specs.declared.fault.QueryFault.TheVariants.{TooMany, Order, NoLine, OutOfMemory}
use Rattle.query_parameters.specs.declared.words.ParameterValue.{ParameterValue}

-- there are few enough; these are the words of the parameter lines, and these the selections of the others
pub record HasBody (options : List Named) (body : Text) (words : List (Option ParameterValue)) (selections : List Selection) : Type 0 where
  pub few : AreFew body
  pub front : HasFront options (parameter_lines body) words
  pub selections_are : AreSelections (selection_lines body) selections

-- why the lines weren't read: too many, or the first wrong one; want of memory is free
abbrev pub RefusesLines : List Named → Text → QueryFault → Type 0
RefusesLines options body OutOfMemory = ⊤
RefusesLines options body TooMany = (1000 < length (parameter_lines body)) ⊎ (10_000 < length (selection_lines body))
RefusesLines options body Order = ⊥
RefusesLines options body NoLine = ⊥
RefusesLines options body fault = IsFirstWrongLine options body fault
