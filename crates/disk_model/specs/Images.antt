-- The images of a disk, stated outright.
use Rattle.std.specs.Prelude.{◌≡◌, ℕ, ◌+◌, ◌<◌, ◌≤◌, min, max, List, length, slice_index, Bool, true, false, if◌then◌else◌, nat_lt}

-- What is known of a disk since its last sync: the file at that sync, the least and the greatest length
-- since (that at the sync counts), and which bytes were written since.
pub record Images : Type 0 where
  pub base : List ℕ
  pub least : ℕ
  pub greatest : ℕ
  pub is_written : ℕ → Bool

-- A crash may leave this file: its length is between the least and the greatest, and each byte that
-- wasn't written and lies below the length at the last sync is as it was then. All other bytes are free.
pub record IsImage (images : Images) (image : List ℕ) : Type 0 where
  pub no_shorter : images.least ≤ length image
  pub no_longer : length image ≤ images.greatest
  pub kept : (k : ℕ) → k < length image → k < length images.base → images.is_written k ≡ false → slice_index image k ≡ slice_index images.base k

-- right after a sync there is one image
abbrev pub synced : List ℕ → Images
synced file = record { base = file; least = length file; greatest = length file; is_written = λ k. false }

-- k is one of the n bytes from `at` on
abbrev pub is_within : ℕ → ℕ → ℕ → Bool
is_within at n k = if nat_lt k at then false else nat_lt k (at + n)

-- after a write of n bytes, done or not
abbrev pub after_write : Images → ℕ → ℕ → Images
after_write images at n = record {
  base = images.base;
  least = images.least;
  greatest = max images.greatest (at + n);
  is_written = λ k. if is_within at n k then true else images.is_written k;
}

-- after a cut, done or not
abbrev pub after_cut : Images → ℕ → Images
after_cut images len = record {
  base = images.base;
  least = min images.least len;
  greatest = images.greatest;
  is_written = images.is_written;
}
