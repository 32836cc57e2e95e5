-- Bytes that are put together and written to a link when there is no more room for them. `held` was put together before, `kept`
-- is behind; `old` and `new` are what is told of the link.
use Rattle.std.specs.Prelude.{◌≡◌, ℕ, ◌≤◌, List, ◌++◌, Result, OnOk, OnErr}
use Rattle.exact_time.specs.Causes.{Rose}
use Rattle.streams.specs.Effects.{Grew, WritesPart}
use Rattle.streams.specs.View.{StreamView}

-- these bytes followed what was held: the first of all were written, and the others are kept
pub record Sent (old new : StreamView) (held kept bytes : List ℕ) : Type 0 where
  pub sent : List ℕ
  pub output : Grew old.written new.written sent
  pub split : held ++ bytes ≡ sent ++ kept
  pub left : new.left ≡ old.left
  pub later : old.faults ≤ new.faults

-- the link failed, and a first part of all was written
pub record Broke (old new : StreamView) (all : List ℕ) : Type 0 where
  pub part : WritesPart old.written new.written all
  pub left : new.left ≡ old.left
  pub later : old.faults ≤ new.faults
  pub rose : Rose old.faults new.faults

-- the one where it is done, the other where it failed
pub record Pushes {T E : Type 0} (old new : StreamView) (held kept : List ℕ) (result : Result T E) (bytes : List ℕ) : Type 0 where
  pub done : OnOk result (Sent old new held kept bytes)
  pub failed : OnErr result (Broke old new (held ++ bytes))
