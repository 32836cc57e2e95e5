-- Which image of a disk in memory is asked for.
use Rattle.std.specs.Prelude.{◌≡◌, ℕ, ◌<◌, List, length, slice_index, Bool, true, if◌then◌else◌, nat_lt}
use Rattle.disk_model.specs.Images.{Images}
use Rattle.disk_model.specs.Changes.{State}
use Rattle.disk_model.specs.declared.choice.Choice.{Choice}
use Rattle.disk_model.specs.declared.choice.Choice.TheVariants.{Old, New, Fill}

-- the byte was written since the last sync, or lies past the length at that sync
abbrev pub is_free : Images → ℕ → Bool
is_free images k = if nat_lt k (length images.base) then images.is_written k else true

-- a file with the bytes that pass a test set to this one
pub record IsFilled (test : ℕ → Bool) (file : List ℕ) (byte : ℕ) (image : List ℕ) : Type 0 where
  pub as_long : length image ≡ length file
  pub each : (k : ℕ) → k < length image → slice_index image k ≡ (if test k then byte else slice_index file k)

-- the image that is asked for: the file at the last sync, the file as it reads, or the file as it reads
-- with each free byte set to this one
abbrev pub IsImageFor : State → Choice → List ℕ → Type 0
IsImageFor s Old image = image ≡ s.images.base
IsImageFor s New image = image ≡ s.content
IsImageFor s (Fill byte) image = IsFilled (is_free s.images) s.content byte image
