-- The calls of a stream in memory, which fail by their numbers.
use Rattle.std.specs.Prelude.{◌≡◌, ℕ, ◌+◌, ◌-◌, ◌^◌, ◌==◌, min, nat_lt, ◌&&◌, Bool, List, Result, OnOk, OnErr}
use Rattle.std.specs.List.{list_any}
use Rattle.streams.specs.declared.tally.Tally.{Tally}

-- how many calls there were, the numbers of those that fail, and how many failed
abbrev pub calls_of : Tally → ℕ
calls_of tally = tally.calls

abbrev pub fails_of : Tally → List ℕ
fails_of tally = tally.fails

abbrev pub faults_of : Tally → ℕ
faults_of tally = tally.faults

-- no call yet
abbrev pub fresh : List ℕ → Tally
fresh fails = record { fails = fails; calls = 0; faults = 0 }

-- whether a number is one of these
abbrev pub is_numbered : ℕ → List ℕ → Bool
is_numbered call numbers = list_any (λ number. number == call) numbers

-- one more, up to the greatest number of the type
abbrev pub one_more : ℕ → ℕ
one_more n = min (n + 1) (2 ^ 64 - 1)

-- whether the next call is one of those that fail: calls are numbered from 1 to the greatest number, and
-- what comes after it has no number
abbrev pub is_to_fail : Tally → Bool
is_to_fail tally = nat_lt (calls_of tally) (2 ^ 64 - 1) && is_numbered (calls_of tally + 1) (fails_of tally)

-- Each call is counted, and each that fails is counted among the faults, up to the greatest number. The
-- numbers of the calls that fail stay.
pub record Counts {T E : Type 0} (old new : Tally) (result : Result T E) : Type 0 where
  pub fails_are : fails_of new ≡ fails_of old
  pub calls_are : calls_of new ≡ one_more (calls_of old)
  pub no_fault : OnOk result (faults_of new ≡ faults_of old)
  pub fault : OnErr result (faults_of new ≡ one_more (faults_of old))
