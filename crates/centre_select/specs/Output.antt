-- Bytes that are written while some of them wait.
use Rattle.std.specs.Prelude.{◌≡◌, ℕ, List, ◌++◌, Result, OnOk, OnErr}
use Rattle.exact_time.specs.Causes.{HasCause}
use Rattle.streams.specs.View.{StreamView}
use Rattle.streams.specs.Effects.{Grew, WritesPart}

-- Done, a front of the bytes was written, and the rest waits; failed, a first part of them was written. What
-- is left stays. It failed only where the count of faults rose.
pub record PutsFront {T E : Type 0} (old new : StreamView) (result : Result T E) (bytes rest : List ℕ) : Type 0 where
  pub ok : OnOk result ((front : List ℕ) × (bytes ≡ front ++ rest) × Grew old.written new.written front)
  pub part : OnErr result (WritesPart old.written new.written bytes)
  pub kept : new.left ≡ old.left
  pub cause : HasCause old.faults new.faults result
