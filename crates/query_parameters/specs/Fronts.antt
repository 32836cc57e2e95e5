-- What the parameter lines of a body say.
use Rattle.std.specs.Prelude.{◌≡◌, List, [], Option, ⊤}
use Rattle.std.specs.Str.{IsAscii, IsNotAscii}
use Rattle.query_parameters.specs.Bodies.{Numbered, parameter_of, parameters_in, TakesLine, RefusesLine}
use Rattle.query_parameters.specs.FirstRefusals.{AreTaken, IsFirstRefusal}
use Rattle.query_parameters.specs.Rows.{Named}
use Rattle.query_parameters.specs.Words.{AreHeld, PutsValue, RefusesPut}
use Rattle.query_parameters.specs.declared.fault.QueryFault.{QueryFault}
use Rattle.query_parameters.specs.declared.fault.QueryFault.TheVariants.{Line, OutOfMemory}
use Rattle.query_parameters.specs.declared.words.ParameterValue.{ParameterValue}

-- a parameter line is ASCII, and its word is put
pub record PutsLine (rows : List Named) (l : Numbered) (words more : List (Option ParameterValue)) : Type 0 where
  pub ascii : IsAscii l.text
  pub put : PutsValue rows (parameter_of l).name (parameter_of l).value words more

-- why the word of a line isn't put; want of memory is free
abbrev pub RefusesPutLine : List Named → Numbered → List (Option ParameterValue) → QueryFault → Type 0
RefusesPutLine rows l words (Line n) = (n ≡ l.number) × IsNotAscii l.text
RefusesPutLine rows l words OutOfMemory = ⊤
RefusesPutLine rows l words fault = IsAscii l.text × RefusesPut rows l.number (parameter_of l).name (parameter_of l).value words fault

-- the lines are right, and these are their words
pub record HasFront (rows : List Named) (ls : List Numbered) (words : List (Option ParameterValue)) : Type 0 where
  pub taken : AreTaken (TakesLine rows) [] ls
  pub held : AreHeld rows (parameters_in ls) words

-- why the words of some lines weren't read; want of memory is free
abbrev pub RefusesFront : List Named → List Numbered → QueryFault → Type 0
RefusesFront rows ls OutOfMemory = ⊤
RefusesFront rows ls fault = IsFirstRefusal (TakesLine rows) (RefusesLine rows) ls fault
