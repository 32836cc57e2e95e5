-- Fields of a line as the program holds them.
use Rattle.std.specs.Prelude.{ℕ, List, decimal, ⊤}
use Rattle.std.specs.Str.{IsAscii}
use Rattle.exact_time.specs.Written.{IsWritable}
use Rattle.availability.specs.declared.fields.Field.{Field}
use Rattle.availability.specs.declared.fields.Field.TheVariants.{Code, Quality, Rate, Time, Count, Restriction}
use Rattle.availability.specs.declared.line.Line.{Line}
use Rattle.availability.specs.Texts.{code_text, quality_text, rate_text, time_text, restriction_text}

abbrev pub field_text : Field → List ℕ
field_text (Code c) = code_text c
field_text (Quality q) = quality_text q
field_text (Rate r) = rate_text r
field_text (Time t) = time_text t
field_text (Count n) = decimal n
field_text (Restriction b) = restriction_text b

-- a code is ASCII, and a time one that can be written
abbrev pub IsPrintable : Field → Type 0
IsPrintable (Code c) = IsAscii c
IsPrintable (Time t) = IsWritable t.micros
IsPrintable _ = ⊤

-- the same of a line
pub record IsPrintableLine (l : Line) : Type 0 where
  pub network : IsAscii l.name.network
  pub station : IsAscii l.name.station
  pub location : IsAscii l.name.location
  pub channel : IsAscii l.name.channel
  pub earliest : IsWritable l.earliest.micros
  pub latest : IsWritable l.latest.micros
  pub updated : IsWritable l.updated.micros
