-- A field as its name and its value.
use Rattle.std.specs.Prelude.{ℕ, List}
use Rattle.http_wire.specs.declared.field.Field.{Field}

abbrev pub as_pair : Field → List ℕ × List ℕ
as_pair field = (field.name, field.value)
