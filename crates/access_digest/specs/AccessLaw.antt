-- Who may have which rows, in the subject's words.
use Rattle.std.specs.Prelude.{◌≡◌, ◌<◌, ◌≤◌, ◌<ℤ◌, ◌≤ℤ◌, ◌*ℤ◌, pos, ℤ, ◌⊎◌, List, Option, Some, None, IfSome, IsSomeAnd, All, Any, ⊤}
use Rattle.exact_time.specs.SampleTime.{sample_micros, sample_parts}
use Rattle.channel_globs.specs.Matching.{Matches}
use Rattle.channel_globs.specs.declared.nslc.Nslc.{Nslc}
use Rattle.epochs.specs.declared.line.Grant.{Grant}
use Rattle.epochs.specs.declared.line.Line.{Line}
use Rattle.epochs.specs.declared.line.Line.TheVariants.{Rst, Grt, Wdr}
use Rattle.epochs.specs.declared.line.Restriction.{Restriction}
use Rattle.epochs.specs.declared.line.Withdrawal.{Withdrawal}
use Rattle.epochs.specs.declared.parts.Glob.{Glob}
use Rattle.epochs.specs.declared.parts.Globs.{Globs}
use Rattle.epochs.specs.Kinds.{Text}
use Rattle.mseed_header.specs.Times.{last_index}
use Rattle.mseed_header.specs.declared.header.Header.{Header}
use Rattle.mseed_header.specs.declared.row.Row.{Row}
use Rattle.dataselect.specs.Law.{IsReached}

-- some pattern of each of the four lists matches the code
pub record MatchFour (channels : Globs) (name : Nslc) : Type 0 where
  pub by_network : Any (λ pattern. Matches pattern name.network) channels.network.list
  pub by_station : Any (λ pattern. Matches pattern name.station) channels.station.list
  pub by_location : Any (λ pattern. Matches pattern name.location) channels.location.list
  pub by_channel : Any (λ pattern. Matches pattern name.channel) channels.channel.list

-- the last sample is at that moment or earlier, as fractions with one divisor
abbrev pub IsOverBy : Header → ℤ → Type 0
IsOverBy h micros = sample_micros h.start.micros (last_index h) h.rate ≤ℤ (micros *ℤ pos (sample_parts h.rate))

-- the patterns match, the last sample isn't before the start, and the first isn't after the end
pub record Touches (r : Restriction) (row : Row) : Type 0 where
  pub named : MatchFour r.channels row.header.name
  pub reached : IsReached row.header r.times.start.micros
  pub started : IfSome r.times.end (λ t. row.header.start.micros ≤ℤ t.micros)

-- the patterns match, the first sample isn't before the start, and the last isn't after the end
pub record Covers (g : Grant) (row : Row) : Type 0 where
  pub named : MatchFour g.channels row.header.name
  pub started : g.times.start.micros ≤ℤ row.header.start.micros
  pub over : IfSome g.times.end (λ t. IsOverBy row.header t.micros)

-- The patterns match, the first sample isn't before the start, the last isn't after the end, and the entry isn't a later
-- one than the last that the withdrawal reaches.
pub record Withdraws (w : Withdrawal) (row : Row) : Type 0 where
  pub named : MatchFour w.channels row.header.name
  pub started : w.times.start.micros ≤ℤ row.header.start.micros
  pub over : IfSome w.times.end (λ t. IsOverBy row.header t.micros)
  pub early : row.entry ≤ w.upto

-- no pattern of the list matches the code
abbrev pub NoneMatches : Glob → Text → Type 0
NoneMatches patterns code = ¬ (Any (λ pattern. Matches pattern code) patterns.list)

-- some code isn't matched
abbrev pub MissesCode : Globs → Nslc → Type 0
MissesCode channels name =
    NoneMatches channels.network name.network ⊎ NoneMatches channels.station name.station
    ⊎ NoneMatches channels.location name.location ⊎ NoneMatches channels.channel name.channel

-- the last sample is after that moment, as fractions with one divisor
abbrev pub EndsAfter : Header → ℤ → Type 0
EndsAfter h micros = (micros *ℤ pos (sample_parts h.rate)) <ℤ sample_micros h.start.micros (last_index h) h.rate

-- Why a withdrawal spares a row: some code isn't matched, its start is later than the row's first sample, its end is earlier
-- than the last, or the row's entry is a later one than the last that it reaches.
abbrev pub Spares : Withdrawal → Row → Type 0
Spares w row =
    MissesCode w.channels row.header.name ⊎ (row.header.start.micros <ℤ w.times.start.micros)
    ⊎ IsSomeAnd w.times.end (λ t. EndsAfter row.header t.micros) ⊎ (w.upto < row.entry)

-- a line is a restriction that touches the row
abbrev pub IsTouching : Row → Line → Type 0
IsTouching row (Rst r) = Touches r row
IsTouching row _ = ⊥

-- a line is a grant of that user which covers the row
abbrev pub IsCovering : Text → Row → Line → Type 0
IsCovering user row (Grt g) = (g.user ≡ user) × Covers g row
IsCovering user row _ = ⊥

-- some line is a restriction that touches the row
abbrev pub IsTouched : List Line → Row → Type 0
IsTouched lines row = Any (IsTouching row) lines

-- some line is a grant of the caller that covers the row; a caller without a user has no grant
abbrev pub IsCovered : List Line → Option Text → Row → Type 0
IsCovered lines None row = ⊥
IsCovered lines (Some user) row = Any (IsCovering user row) lines

-- no restriction touches the row, or a grant of the user covers it
abbrev pub MayHave : List Line → Option Text → Row → Type 0
MayHave lines user row = (¬ (IsTouched lines row)) ⊎ IsCovered lines user row

-- a line is a withdrawal that covers the row
abbrev pub IsWithdrawing : Row → Line → Type 0
IsWithdrawing row (Wdr w) = Withdraws w row
IsWithdrawing row _ = ⊥

-- some line is a withdrawal that covers the row
abbrev pub IsWithdrawnBy : List Line → Row → Type 0
IsWithdrawnBy lines row = Any (IsWithdrawing row) lines

-- a line that is a withdrawal spares the row
abbrev pub IsSparing : Row → Line → Type 0
IsSparing row (Wdr w) = Spares w row
IsSparing row _ = ⊤

-- every line that is a withdrawal spares the row
abbrev pub IsSparedBy : List Line → Row → Type 0
IsSparedBy lines row = All (IsSparing row) lines
