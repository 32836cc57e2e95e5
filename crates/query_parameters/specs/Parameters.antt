-- The parameters of a query, and how a table takes them.
use Rattle.std.specs.Prelude.{◌≡◌, ℕ, ◌+◌, ◌==◌, Bool, false, List, [], ◌∷◌, map, Option, Some, None, if◌then◌else◌}
use Rattle.std.specs.Str.Lossy.{utf8_lossy}
use Rattle.form_urlencoded.specs.Form.{raw_pairs, decode}
use Rattle.query_parameters.specs.Rows.{Text, Named, place_of_name, kind_of}
use Rattle.query_parameters.specs.Values.{Reads, IsLeftOut}
use Rattle.query_parameters.specs.declared.fault.QueryFault.{QueryFault}
use Rattle.query_parameters.specs.declared.fault.QueryFault.TheVariants.{Unknown, Repeated, OutOfScope, Value}

-- the text of a name or a value: decoded, with U+FFFD for what isn't UTF-8
abbrev pub decoded_text : Text → Text
decoded_text bytes = utf8_lossy (decode bytes)

abbrev pub decoded : Text × Text → Text × Text
decoded pair = (decoded_text pair.0, decoded_text pair.1)

-- the names and the values of a query string, in order
abbrev pub pairs_of : Text → List (Text × Text)
pairs_of query = map decoded (raw_pairs query)

-- a name and its value, under the number that its faults have
pub record Parameter : Type 0 where
  pub number : ℕ
  pub name : Text
  pub value : Text

abbrev pub parameter : ℕ → Text × Text → Parameter
parameter number pair = record { number = number; name = pair.0; value = pair.1 }

-- the pairs, with numbers from this one on
abbrev pub numbered_from : ℕ → List (Text × Text) → List Parameter
numbered_from number [] = []
numbered_from number (pair ∷ pairs) = parameter number pair ∷ numbered_from (number + 1) pairs

-- the parameters of a query string, numbered from 1
abbrev pub parameters_of : Text → List Parameter
parameters_of query = numbered_from 1 (pairs_of query)

abbrev pub is_name : ℕ → Option ℕ → Bool
is_name row None = false
is_name row (Some found) = found == row

-- the value of the first parameter that names the row
abbrev pub given : List Named → ℕ → List Parameter → Option Text
given rows row [] = None
given rows row (p ∷ ps) = if is_name row (place_of_name rows p.name) then Some p.value else given rows row ps

-- behind the parameters before it, a parameter names a row that none of them does
pub record IsNew (rows : List Named) (before : List Parameter) (p : Parameter) (row : ℕ) : Type 0 where
  pub names : place_of_name rows p.name ≡ Some row
  pub free : given rows row before ≡ None

-- a parameter is right: its name is new, and its value is one of that name
pub record TakesParameter (rows : List Named) (before : List Parameter) (p : Parameter) : Type 0 where
  pub row : ℕ
  pub is_new : IsNew rows before p row
  pub reads : Reads (kind_of rows row) p.value

-- an earlier parameter has the name
pub record IsRepeated (rows : List Named) (before : List Parameter) (p : Parameter) : Type 0 where
  pub row : ℕ
  pub names : place_of_name rows p.name ≡ Some row
  pub earlier : Text
  pub taken : given rows row before ≡ Some earlier

-- the name is new, and the value is left out
pub record IsOutOfScope (rows : List Named) (before : List Parameter) (p : Parameter) : Type 0 where
  pub row : ℕ
  pub is_new : IsNew rows before p row
  pub out : IsLeftOut (kind_of rows row) p.value

-- the name is new, and the value is none of that name
pub record IsBadValue (rows : List Named) (before : List Parameter) (p : Parameter) : Type 0 where
  pub row : ℕ
  pub is_new : IsNew rows before p row
  pub inside : ¬ (IsLeftOut (kind_of rows row) p.value)
  pub bad : ¬ (Reads (kind_of rows row) p.value)

-- why a parameter is wrong behind those before it, tested in this order
abbrev pub RefusesParameter : List Named → List Parameter → Parameter → QueryFault → Type 0
RefusesParameter rows before p (Unknown number) = (number ≡ p.number) × (place_of_name rows p.name ≡ None)
RefusesParameter rows before p (Repeated number) = (number ≡ p.number) × IsRepeated rows before p
RefusesParameter rows before p (OutOfScope number) = (number ≡ p.number) × IsOutOfScope rows before p
RefusesParameter rows before p (Value number) = (number ≡ p.number) × IsBadValue rows before p
RefusesParameter rows before p _ = ⊥
