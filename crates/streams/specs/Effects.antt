-- What each call of a stream does to what is told of it, and what some calls do together. `old` is the view
-- before them, `new` the view after them.
use Rattle.std.specs.Prelude.{◌≡◌, ℕ, ◌<◌, ◌≤◌, List, ◌++◌, take, length, ⊤, Option, None, Some, Result, MatchResult, IfOk, OnOk, OnErr}
use Rattle.std.specs.Io.{ReadsAtMost}
use Rattle.std.specs.Io.KnownBytes.{ReadConsumes}
use Rattle.exact_time.specs.Causes.{Rose, HasCause}
use Rattle.streams.specs.View.{StreamView}

-- What was written grew by these bytes. A stream that no longer tells what was written never tells it again.
abbrev pub Grew : Option (List ℕ) → Option (List ℕ) → List ℕ → Type 0
Grew old None bytes = ⊤
Grew None (Some new) bytes = ⊥
Grew (Some old) (Some new) bytes = new ≡ old ++ bytes

-- A take into a slice. Done, it gave a first part of what was left, no more than fits; for a slice that
-- isn't empty, nothing only where nothing is left. Failed, what is left is as before. What was written stays.
-- It failed only where the count of faults rose.
pub record Takes {E : Type 0} (old new : StreamView) (result : Result ℕ E) (into : List ℕ) : Type 0 where
  pub bound : ReadsAtMost result into
  pub bytes : ReadConsumes old.left new.left result into
  pub kept : new.written ≡ old.written
  pub cause : HasCause old.faults new.faults result

-- A put of a piece. Done, a first part of it was written, at least one byte where there is one; failed,
-- none. What is left stays. It failed only where the count of faults rose.
pub record Puts {E : Type 0} (old new : StreamView) (result : Result ℕ E) (piece : List ℕ) : Type 0 where
  pub bound : IfOk result (λ count. count ≤ length piece)
  pub progress : IfOk result (λ count. 0 < length piece → 0 < count)
  pub bytes : MatchResult result (λ count. Grew old.written new.written (take count piece)) (λ _. new.written ≡ old.written)
  pub kept : new.left ≡ old.left
  pub cause : HasCause old.faults new.faults result

-- a first part of the bytes was written
pub record WritesPart (old new : Option (List ℕ)) (bytes : List ℕ) : Type 0 where
  pub part : List ℕ
  pub rest : List ℕ
  pub split : bytes ≡ part ++ rest
  pub output : Grew old new part

-- Some puts that were done, one after another: these bytes were written. What is left stays, and the count of
-- faults never fell.
pub record HasPut (old new : StreamView) (bytes : List ℕ) : Type 0 where
  pub output : Grew old.written new.written bytes
  pub kept : new.left ≡ old.left
  pub later : old.faults ≤ new.faults

-- Some puts, one after another: done, all the bytes were written; failed, a first part of them. What is left
-- stays. They failed only where the count of faults rose.
pub record PutsAll {T E : Type 0} (old new : StreamView) (result : Result T E) (bytes : List ℕ) : Type 0 where
  pub ok : OnOk result (Grew old.written new.written bytes)
  pub part : OnErr result (WritesPart old.written new.written bytes)
  pub kept : new.left ≡ old.left
  pub cause : HasCause old.faults new.faults result

-- Some takes, one after another, whatever they gave: nothing was written, and the count of faults never fell.
-- It rose where they say that the stream failed.
pub record OnlyTakes (old new : StreamView) (Failed : Type 0) : Type 0 where
  pub kept : new.written ≡ old.written
  pub later : old.faults ≤ new.faults
  pub cause : Failed → Rose old.faults new.faults
