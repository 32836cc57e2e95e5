-- The names that a method has (FDSN Web Service Specifications 1.2, dataselect and station, query
-- parameters).
use Rattle.std.specs.Prelude.{ℕ, List, [], Bool, ◌||◌, Option, map, position, get_or}
use Rattle.std.specs.Char.{to_ascii_lowercase}
use Rattle.std.specs.Str.{bytes_eq}
use Rattle.query_parameters.specs.declared.rows.ParameterName.{ParameterName}
use Rattle.query_parameters.specs.declared.rows.ValueKind.{ValueKind}
use Rattle.query_parameters.specs.declared.rows.ValueKind.TheVariants.{Time}

abbrev pub Text : Type 0
Text = List ℕ

-- a row, without where its texts lie in memory
pub record Named : Type 0 where
  pub name : Text
  pub alias : Text
  pub kind : ValueKind

abbrev pub named : ParameterName → Named
named row = record { name = row.name.now; alias = row.alias.now; kind = row.kind }

abbrev pub names_of : List ParameterName → List Named
names_of table = map named table

abbrev pub with_alias : Text → Text → ValueKind → Named
with_alias name alias kind = record { name = name; alias = alias; kind = kind }

abbrev pub alone : Text → ValueKind → Named
alone name kind = with_alias name name kind

-- two texts are one but for the case of ASCII letters
abbrev pub same_name : Text → Text → Bool
same_name a b = bytes_eq (map to_ascii_lowercase a) (map to_ascii_lowercase b)

-- a row has two names, which are one
abbrev pub is_called : Named → Text → Bool
is_called row name = same_name name row.name || same_name name row.alias

-- the row of a name in a table
abbrev pub place_of_name : List Named → Text → Option ℕ
place_of_name rows name = position (λ row. is_called row name) rows

abbrev pub no_name : Named
no_name = record { name = []; alias = []; kind = Time }

-- the kind of value of a row
abbrev pub kind_of : List Named → ℕ → ValueKind
kind_of rows row = (get_or rows row no_name).kind
