-- What can be printed.
use Rattle.std.specs.Prelude.{ℤ, pos, neg_ℤ, ◌≤ℤ◌}
use Rattle.std.specs.Str.{IsAscii}
use Rattle.exact_time.specs.Written.{IsWritable}
use Rattle.channel_globs.specs.declared.nslc.Nslc.{Nslc}
use Rattle.coverage_report.specs.declared.line.Line.{Line}

-- the codes are ASCII
pub record IsPrintableName (name : Nslc) : Type 0 where
  pub network : IsAscii name.network
  pub station : IsAscii name.station
  pub location : IsAscii name.location
  pub channel : IsAscii name.channel

-- a moment isn't before 1800-01-01T00:00:00
abbrev pub IsSince1800 : ℤ → Type 0
IsSince1800 micros = neg_ℤ (pos 5_364_662_400_000_000) ≤ℤ micros

pub record IsPrintable (l : Line) : Type 0 where
  pub name : IsPrintableName l.name
  pub day : IsWritable l.day.micros
