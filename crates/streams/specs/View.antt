-- What is told of a stream at one moment, and how this goes on from call to call.
use Rattle.std.specs.Prelude.{◌≡◌, ℕ, ◌≤◌, Bool, true, false, List, Option, None, IsSome}

-- What is told of a stream at one moment: the bytes that it has left to give, and the bytes that were written
-- to it, each where it tells them, and how often it has failed. Of what only gives no bytes are written, of
-- what only takes none are left, and nothing is told of them. Of a real stream only the faults say something.
pub record StreamView : Type 0 where
  pub left : Option (List ℕ)
  pub written : Option (List ℕ)
  pub faults : ℕ

-- bytes that are told, or not
abbrev pub told_if : Bool → Option (List ℕ) → Option (List ℕ)
told_if false bytes = None
told_if true bytes = bytes

-- Some calls of a stream, one after another, done or failed: its count of faults never falls. What it has left
-- is told for good, where it is told; what was written and isn't told is never told again.
pub record GoesOn (old new : StreamView) : Type 0 where
  pub later : old.faults ≤ new.faults
  pub told : IsSome old.left → IsSome new.left
  pub untold : old.written ≡ None → new.written ≡ None
