-- What a crash leaves of a file to which bytes are added and then one byte among them is set.
use Rattle.std.specs.Prelude.{◌≡◌, ◌⊎◌, ℕ, ◌≤◌, List, [], ◌∷◌, ◌++◌, length, take, Result, IsErr, OnOk}
use Rattle.disk_model.specs.Disk.{overwritten}
use Rattle.disk_model.specs.View.{DiskView, IsOnlyImage, AlwaysLeaves, DiskRun, file_of}

-- the file, and behind it anything, as long as the bytes or shorter
abbrev pub HasMoreBehind : List ℕ → List ℕ → List ℕ → Type 0
HasMoreBehind file bytes image = (rest : List ℕ) × (length rest ≤ length bytes) × (image ≡ file ++ rest)

-- the file and the bytes, with some byte at `at`
abbrev pub IsMarked : List ℕ → List ℕ → ℕ → List ℕ → Type 0
IsMarked file bytes at image = (byte : ℕ) × (image ≡ overwritten (file ++ bytes) at (byte ∷ []))

-- the bytes of before are there, and the image is one of these
pub record IsStaged (file bytes : List ℕ) (at : ℕ) (image : List ℕ) : Type 0 where
  pub old_bytes : take (length file) image ≡ file
  pub form : HasMoreBehind file bytes image ⊎ IsMarked file bytes at image

-- Bytes are added at the end of a synced disk, and then one byte among them is set: at every moment every
-- image is at one of these stages; and done, the one image is the file with the bytes and that byte.
pub record IsAddedAndMarked {T E : Type 0} (bytes : List ℕ) (at byte : ℕ) (old new : DiskView) (result : Result T E) : Type 0 where
  pub any_moment : AlwaysLeaves old new (IsStaged (file_of old) bytes at)
  pub done : OnOk result (IsOnlyImage new (overwritten (file_of old ++ bytes) at (byte ∷ [])))

-- the run that adds these bytes and sets this byte
abbrev pub AddsAndMarks : {T E : Type 0} → List ℕ → ℕ → ℕ → DiskView → DiskView → Result T E → Type 0
AddsAndMarks bytes at byte old new result = DiskRun old new (IsErr result) (IsAddedAndMarked bytes at byte old new result)
