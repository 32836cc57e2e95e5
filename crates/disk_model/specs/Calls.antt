-- What each call of a disk in memory does to it: what is counted, when it fails, and which change it
-- leaves. `old` is the disk before the call, `new` the disk after it. What a call answers, and what of
-- the file is read, is said of every disk (`Disk`).
use Rattle.std.specs.Prelude.{◌≡◌, ℕ, ◌+◌, ◌-◌, ◌^◌, min, Result, IsErr, OnOk, OnErr, IsTrue, ◌↔◌, Bool, true, false, ◌&&◌, ◌==◌, nat_lt, if◌then◌else◌, List, [], ◌∷◌, ◌++◌, length}
use Rattle.std.specs.List.{list_any}
use Rattle.disk_model.specs.Memory.{made_with, changes_of, moment_of, faults_of, calls_of, fails_of}
use Rattle.disk_model.specs.declared.change.Change.{Change}
use Rattle.disk_model.specs.declared.change.Change.TheVariants.{Wrote, Tore}
use Rattle.disk_model.specs.declared.memory.MemoryDisk.{MemoryDisk}

-- whether a number is one of these
abbrev pub is_numbered : ℕ → List ℕ → Bool
is_numbered call numbers = list_any (λ number. number == call) numbers

-- one more, up to the greatest number of the type
abbrev pub one_more : ℕ → ℕ
one_more n = min (n + 1) (2 ^ 64 - 1)

-- whether the next call is one of those that fail: calls are numbered from 1 to the greatest number, and
-- what comes after it has no number
abbrev pub is_to_fail : MemoryDisk → Bool
is_to_fail disk = nat_lt (calls_of disk) (2 ^ 64 - 1) && is_numbered (calls_of disk + 1) (fails_of disk)

-- whether there is a moment for one more change
abbrev pub is_in_time : MemoryDisk → Bool
is_in_time disk = nat_lt (moment_of disk) (2 ^ 64 - 1)

-- whether a write of n bytes can be made: it ends below 2^63, in time
abbrev pub is_possible : MemoryDisk → ℕ → ℕ → Bool
is_possible disk at n = nat_lt (at + n) (2 ^ 63) && is_in_time disk

-- Each call is counted, and each that fails is counted among the faults, up to the greatest number. The
-- first file and the numbers of the calls that fail stay.
pub record Counts {T E : Type 0} (old new : MemoryDisk) (result : Result T E) : Type 0 where
  pub first_is : made_with new ≡ made_with old
  pub fails_are : fails_of new ≡ fails_of old
  pub calls_are : calls_of new ≡ one_more (calls_of old)
  pub no_fault : OnOk result (faults_of new ≡ faults_of old)
  pub fault : OnErr result (faults_of new ≡ one_more (faults_of old))

-- A length or a read: it leaves the changes, and fails exactly where it is one of those that fail.
pub record ReadsOnly {T E : Type 0} (old new : MemoryDisk) (result : Result T E) : Type 0 where
  pub counts : Counts old new result
  pub changes_are : changes_of new ≡ changes_of old
  pub fails : IsErr result ↔ IsTrue (is_to_fail old)

-- A write: done, it leaves its bytes. One of those that fail leaves a torn range, where it is possible; any
-- other failure leaves the changes as they were. It is done only where it is possible and none of those
-- that fail. A write that could be done still fails where memory runs out: that alone is free.
pub record Writes {T E : Type 0} (at : ℕ) (bytes : List ℕ) (old new : MemoryDisk) (result : Result T E) : Type 0 where
  pub counts : Counts old new result
  pub done : OnOk result (changes_of new ≡ changes_of old ++ Wrote at bytes ∷ [])
  pub failed : OnErr result (changes_of new ≡ (if is_to_fail old && is_possible old at (length bytes) then changes_of old ++ Tore at (length bytes) ∷ [] else changes_of old))
  pub done_where : OnOk result ((is_to_fail old ≡ false) × (is_possible old at (length bytes) ≡ true))

-- A cut or a sync: done, it leaves this change; failed, it leaves the changes as they were. It is done
-- only in time, and where it is none of those that fail. Want of memory alone is free here too.
pub record Makes {T E : Type 0} (change : Change) (old new : MemoryDisk) (result : Result T E) : Type 0 where
  pub counts : Counts old new result
  pub done : OnOk result (changes_of new ≡ changes_of old ++ change ∷ [])
  pub failed : OnErr result (changes_of new ≡ changes_of old)
  pub done_where : OnOk result ((is_to_fail old ≡ false) × (is_in_time old ≡ true))

-- A call that a fuse kept from the disk: the disk counts it among its faults, and not among its calls.
pub record IsUnreached (old new : MemoryDisk) : Type 0 where
  pub first_is : made_with new ≡ made_with old
  pub fails_are : fails_of new ≡ fails_of old
  pub calls_are : calls_of new ≡ calls_of old
  pub changes_are : changes_of new ≡ changes_of old
  pub faults_are : faults_of new ≡ one_more (faults_of old)
