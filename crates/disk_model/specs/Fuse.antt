-- A disk in memory behind a fuse.
use Rattle.std.specs.Prelude.{◌≡◌, ℕ, ◌-◌, ◌<◌, Result, IsErr}
use Rattle.disk_model.specs.Calls.{IsUnreached}
use Rattle.disk_model.specs.Memory.{memory_view}
use Rattle.disk_model.specs.View.{DiskView}
use Rattle.disk_model.specs.declared.memory.MemoryDisk.{MemoryDisk}
use Rattle.disk_model.specs.declared.fuse.FuseDisk.{FuseDisk}

-- the disk behind the fuse
abbrev pub disk_of : FuseDisk → MemoryDisk
disk_of fuse = fuse.disk

-- what is told of it: all that is told of the disk behind it
abbrev pub fuse_view : FuseDisk → DiskView
fuse_view fuse = memory_view fuse.disk

-- how many calls it still passes
abbrev pub calls_left : FuseDisk → ℕ
calls_left fuse = fuse.left

-- One call uses up one of those that pass. While some are left, the disk behind the fuse makes the call as
-- if there were no fuse; then every call fails, and the disk stays but for the time and its faults.
pub record Burns {T E : Type 0} (makes : MemoryDisk → MemoryDisk → Result T E → Type 0) (old new : FuseDisk) (result : Result T E) : Type 0 where
  pub one_less : calls_left new ≡ calls_left old - 1
  pub passed : 0 < calls_left old → makes (disk_of old) (disk_of new) result
  pub blown : calls_left old ≡ 0 → IsErr result × IsUnreached (disk_of old) (disk_of new)
