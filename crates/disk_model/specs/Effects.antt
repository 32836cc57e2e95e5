-- What each call of a disk does to what is told of it, and what some calls do together. `old` is the view
-- before them, `new` the view after them. Each page is a record, which says what is so where the disk
-- tells, and the relation that a contract names.
use Rattle.std.specs.Prelude.{◌≡◌, ℕ, List, length, take, Result, IsErr, OnOk, OnErr}
use Rattle.disk_model.specs.Disk.{overwritten, Torn, Shortened, Follows, Leaves}
use Rattle.disk_model.specs.View.{DiskView, IsSynced, Elapses, AlwaysLeaves, DiskRun, file_of}

-- A length or a read, done or failed: a read gives the same as before, and the images are the same, neither
-- more nor fewer. Only the time goes on.
pub record IsUnchanged (old new : DiskView) : Type 0 where
  pub content : file_of new ≡ file_of old
  pub crash : Leaves new.may_leave old.may_leave
  pub kept : Leaves old.may_leave new.may_leave
  pub time : Elapses old new

-- a length or a read
abbrev pub ChangesNothing : {T E : Type 0} → DiskView → DiskView → Result T E → Type 0
ChangesNothing old new result = DiskRun old new (IsErr result) (IsUnchanged old new)

-- A write: done, a read gives its bytes at that offset; failed, any part of it may have been done. Each image
-- is one of before, torn in that range.
pub record IsWrittenInto {T E : Type 0} (at : ℕ) (bytes : List ℕ) (old new : DiskView) (result : Result T E) : Type 0 where
  pub written : OnOk result (file_of new ≡ overwritten (file_of old) at bytes)
  pub failed : OnErr result (Torn at (length bytes) (file_of old) (file_of new))
  pub crash : Follows (Torn at (length bytes)) old.may_leave new.may_leave
  pub time : Elapses old new

-- a write of these bytes at this offset
abbrev pub WritesInto : {T E : Type 0} → ℕ → List ℕ → DiskView → DiskView → Result T E → Type 0
WritesInto at bytes old new result = DiskRun old new (IsErr result) (IsWrittenInto at bytes old new result)

-- A cut to a length: done, a read gives the first part of that length; failed, any part of the cut may have
-- been done. Each image is one of before, shortened to that length at most.
pub record IsShortenedTo {T E : Type 0} (len : ℕ) (old new : DiskView) (result : Result T E) : Type 0 where
  pub shorter : OnOk result (file_of new ≡ take len (file_of old))
  pub failed : OnErr result (Shortened len (file_of old) (file_of new))
  pub crash : Follows (Shortened len) old.may_leave new.may_leave
  pub time : Elapses old new

-- a cut to this length
abbrev pub ShortensTo : {T E : Type 0} → ℕ → DiskView → DiskView → Result T E → Type 0
ShortensTo len old new result = DiskRun old new (IsErr result) (IsShortenedTo len old new result)

-- A sync: a read gives the same as before. Done, the one image is what a read gives; failed, the images are
-- those of before, or fewer.
pub record IsMadeDurable {T E : Type 0} (old new : DiskView) (result : Result T E) : Type 0 where
  pub durable : OnOk result (IsSynced new)
  pub content : file_of new ≡ file_of old
  pub crash : Leaves new.may_leave old.may_leave
  pub time : Elapses old new

-- a sync
abbrev pub MakesDurable : {T E : Type 0} → DiskView → DiskView → Result T E → Type 0
MakesDurable old new result = DiskRun old new (IsErr result) (IsMadeDurable old new result)

-- Some lengths, reads and syncs: a read gives the same as before, and at every moment every image is one of
-- those before.
pub record IsNotWritten (old new : DiskView) : Type 0 where
  pub content : file_of new ≡ file_of old
  pub crash : Leaves new.may_leave old.may_leave
  pub any_moment : AlwaysLeaves old new old.may_leave

-- lengths, reads and syncs; what says that the disk failed is given
abbrev pub WritesNothing : DiskView → DiskView → Type 0 → Type 0
WritesNothing old new Failed = DiskRun old new Failed (IsNotWritten old new)

-- Some lengths and reads, with neither a write nor a sync: the images are the same, too.
pub record IsOnlyRead (old new : DiskView) : Type 0 where
  pub content : file_of new ≡ file_of old
  pub crash : Leaves new.may_leave old.may_leave
  pub kept : Leaves old.may_leave new.may_leave
  pub any_moment : AlwaysLeaves old new old.may_leave

-- lengths and reads; what says that the disk failed is given
abbrev pub OnlyReads : DiskView → DiskView → Type 0 → Type 0
OnlyReads old new Failed = DiskRun old new Failed (IsOnlyRead old new)

-- A write and a sync, on a synced disk: at every moment every image is the file of before, torn in the range
-- that is written. Done, a read gives the bytes there, and that file is the one image.
pub record IsWrittenThrough {T E : Type 0} (at : ℕ) (bytes : List ℕ) (old new : DiskView) (result : Result T E) : Type 0 where
  pub written : OnOk result (file_of new ≡ overwritten (file_of old) at bytes)
  pub durable : OnOk result (IsSynced new)
  pub now : Leaves new.may_leave (Torn at (length bytes) (file_of old))
  pub any_moment : AlwaysLeaves old new (Torn at (length bytes) (file_of old))

-- a write of these bytes at this offset, and a sync
abbrev pub WritesThrough : {T E : Type 0} → ℕ → List ℕ → DiskView → DiskView → Result T E → Type 0
WritesThrough at bytes old new result = DiskRun old new (IsErr result) (IsWrittenThrough at bytes old new result)
