-- What a query string asks for whose method has one parameter, the number of an entry; and its faults.
use Rattle.std.specs.Prelude.{◌≡◌, ℕ, Some, None, codes}
use Rattle.query_parameters.specs.Gets.{IsRight, IsFaultBy, RefusesBy}
use Rattle.query_parameters.specs.Parameters.{given, parameters_of}
use Rattle.query_parameters.specs.Rows.{Text}
use Rattle.query_parameters.specs.Values.{IsEntryNumber}
use Rattle.query_parameters.specs.declared.fault.QueryFault.{QueryFault}
use Rattle.query_words.specs.Tables.{number_names}

-- under the method's one name the query string gives this number
pub record IsNumberGet (name query : Text) (number : ℕ) : Type 0 where
  pub right : IsRight (number_names name) query
  pub text : Text
  pub given : given (number_names name) 0 (parameters_of query) ≡ Some text
  pub number_is : IsEntryNumber text number

-- each parameter is right, and there is no number
pub record LacksNumber (name query : Text) : Type 0 where
  pub right : IsRight (number_names name) query
  pub absent : given (number_names name) 0 (parameters_of query) ≡ None

-- there are no limits that could be in no order
abbrev pub HasNoOrder : Text → Type 0
HasNoOrder query = ⊥

-- the fault of a query string
abbrev pub IsNumberGetFault : (name query : Text) → QueryFault → Type 0
IsNumberGetFault name query fault = IsFaultBy (number_names name) (LacksNumber name) HasNoOrder query fault

-- why a query string gave no number; want of memory is free
abbrev pub RefusesNumberGet : (name query : Text) → QueryFault → Type 0
RefusesNumberGet name query fault = RefusesBy (number_names name) (LacksNumber name) HasNoOrder query fault

-- the number of a command among those of its author, for the feed of entries
abbrev pub seq : Text
seq = codes "seq"

-- the number of the first entry that a replica wants
abbrev pub from : Text
from = codes "from"
