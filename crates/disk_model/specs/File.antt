-- A disk over a real file: a sync that failed, and what a call passes on once it has sought its offset.
use Rattle.std.specs.Prelude.{◌≡◌, ℕ, Bool, true, false, Option, Some, IfSome, Result, IsErr, OnOk, OnErr}
use Rattle.disk_model.specs.declared.file.FileDisk.{FileDisk}

module _ {R F G : Type 0} where
  -- whether a sync failed: what was written before it may be lost, and a later sync may not tell
  abbrev pub is_spoiled : FileDisk R F G → Bool
  is_spoiled disk = disk.spoiled

  -- how often a call failed
  abbrev pub times_failed : FileDisk R F G → ℕ
  times_failed disk = disk.faults

-- a call that is no sync: it fails on a spoiled disk, and spoils none
pub record Endures {T E : Type 0} (was is : Bool) (result : Result T E) : Type 0 where
  pub fails : was ≡ true → IsErr result
  pub same : is ≡ was

-- a sync: it fails on a spoiled disk, and one that fails spoils the disk
pub record Spoils {T E : Type 0} (was is : Bool) (result : Result T E) : Type 0 where
  pub fails : was ≡ true → IsErr result
  pub spoiled : OnErr result (is ≡ true)
  pub unspoiled : OnOk result (is ≡ false)

-- The file was sought, and then this was done. Where its position is known, it was at that offset then.
pub record SeeksThen {F : Type 0} (position : F → Option ℕ) (at : ℕ) (old : F) (Does : F → Type 0) : Type 0 where
  pub sought : F
  pub placed : IfSome (position old) (λ _. position sought ≡ Some at)
  pub does : Does sought
