-- What the calls of a disk do to its file, and what a crash may leave of it. A file is its list of
-- bytes; an image is a file that a crash may leave.
use Rattle.std.specs.Prelude.{◌≡◌, ℕ, ◌+◌, ◌-◌, ◌≤◌, min, max, List, ◌++◌, length, take, drop}

-- the file with these bytes at this offset
abbrev pub overwritten : List ℕ → ℕ → List ℕ → List ℕ
overwritten file at bytes = take at file ++ bytes ++ drop (at + length bytes) file

-- what a read at an offset gives: as many bytes as there are, up to the slice
pub record Gives (file : List ℕ) (at count : ℕ) (into : List ℕ) : Type 0 where
  pub count_is : count ≡ min (length into) (length file - at)
  pub bytes_are : take count into ≡ take count (drop at file)

-- after a write of n bytes of which any part was done: in the range, as far as the file reaches into
-- it, stands anything; what is before it and behind it is as it was
pub record Torn (at n : ℕ) (old new : List ℕ) : Type 0 where
  pub before : take at new ≡ take at old
  pub behind : drop (at + n) new ≡ drop (at + n) old
  pub no_shorter : length old ≤ length new
  pub no_longer : length new ≤ max (length old) (at + n)

-- after a cut to a length, of which any part was done: a first part, at least that long
pub record Shortened (len : ℕ) (old new : List ℕ) : Type 0 where
  pub front : take (length new) old ≡ new
  pub no_shorter : min len (length old) ≤ length new

-- each image of after is an image of before, one step on
abbrev pub Follows : (List ℕ → List ℕ → Type 0) → (List ℕ → Type 0) → (List ℕ → Type 0) → Type 0
Follows step old new = (image : List ℕ) → new image → (earlier : List ℕ) × old earlier × step earlier image

-- each image has P
abbrev pub Leaves : (List ℕ → Type 0) → (List ℕ → Type 0) → Type 0
Leaves images P = (image : List ℕ) → images image → P image

-- the one image is this file
abbrev pub LeavesOnly : (List ℕ → Type 0) → List ℕ → Type 0
LeavesOnly images file = Leaves images (λ image. image ≡ file)
