-- The keys of lines, without where they lie in memory.
use Rattle.std.specs.Prelude.{List, [], ◌∷◌, ◌++◌, if◌then◌else◌}
use Rattle.epochs.specs.declared.kinds.LineKind.{LineKind}
use Rattle.epochs.specs.declared.kinds.LineKind.TheVariants as kind
use Rattle.epochs.specs.declared.key.Key.{Key}
use Rattle.epochs.specs.declared.key.Key.TheVariants as key
use Rattle.epochs.specs.declared.kinds.Head.{Head}
use Rattle.epochs.specs.declared.kinds.Head.TheVariants.{Says, Deletes}
use Rattle.epochs.specs.Kinds.{Field, fields_of}
use Rattle.epochs.specs.Fields.{Value, code, words}
use Rattle.epochs.specs.Lines.{LineValues, line_values}
use Rattle.epochs.specs.Values.{time_value, name_values, glob_values}

-- a key: its kind, and the values of the fields that make it
pub record KeyValues : Type 0 where
  pub kind : LineKind
  pub values : List Value

abbrev pub key_values : LineKind → List Value → KeyValues
key_values kind values = record { kind = kind; values = values }

abbrev pub values_of_key : Key → KeyValues
values_of_key (key.Net network start) = key_values kind.Net (code network ∷ time_value start ∷ [])
values_of_key (key.Sta network station start) =
    key_values kind.Sta (code network ∷ code station ∷ time_value start ∷ [])
values_of_key (key.Cha name start) = key_values kind.Cha (name_values name ++ time_value start ∷ [])
values_of_key (key.Evt id) = key_values kind.Evt (words id ∷ [])
values_of_key (key.Rst channels start) = key_values kind.Rst (glob_values channels ++ time_value start ∷ [])
values_of_key (key.Grt user channels start) =
    key_values kind.Grt (words user ∷ glob_values channels ++ time_value start ∷ [])
values_of_key (key.Usr name) = key_values kind.Usr (words name ∷ [])
values_of_key (key.Wdr channels start) = key_values kind.Wdr (glob_values channels ++ time_value start ∷ [])

abbrev pub deletes : KeyValues → LineValues
deletes key = line_values (Deletes key.kind) key.values

abbrev pub deletion_line : Key → LineValues
deletion_line key = deletes (values_of_key key)

-- the values of the fields that make a key
abbrev pub in_key : List Field → List Value → List Value
in_key [] values = []
in_key (field ∷ fields) [] = []
in_key (field ∷ fields) (value ∷ values) =
    if field.in_key then value ∷ in_key fields values else in_key fields values

-- the key of a line; a deletion's is the one that it deletes
abbrev pub key_of : LineValues → KeyValues
key_of e = key_behind e.head e.values
  where
    key_behind : Head → List Value → KeyValues
    key_behind (Says kind) values = key_values kind (in_key (fields_of kind) values)
    key_behind (Deletes kind) values = key_values kind values
