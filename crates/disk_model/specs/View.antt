-- What is told of a disk at one moment, and how this goes on from call to call.
use Rattle.std.specs.Prelude.{◌≡◌, ◌⊎◌, ℕ, ◌≤◌, List, [], Bool, true, Option, is_some, unwrap_or}
use Rattle.exact_time.specs.Causes.{Rose}
use Rattle.disk_model.specs.Disk.{Leaves, LeavesOnly}

-- What is told of a disk at one moment: the bytes that a read gives, where it tells them; the images, each a
-- file that a crash now may leave; the time, which rises at each call (or stands at the greatest number of
-- its type); what a crash at some moment since a given time might have left; and how often the disk has
-- failed. Of a disk that doesn't tell its bytes, as a real file, only the faults say something.
pub record DiskView : Type 1 where
  pub content : Option (List ℕ)
  pub may_leave : List ℕ → Type 0
  pub moment : ℕ
  pub left_since : ℕ → List ℕ → Type 0
  pub faults : ℕ

-- whether the disk tells what it holds
abbrev pub is_told : DiskView → Bool
is_told view = is_some view.content

-- the bytes that a read gives; of a disk that doesn't tell them, none
abbrev pub file_of : DiskView → List ℕ
file_of view = unwrap_or view.content []

-- it is so, if the disk tells
abbrev pub WhereTold : DiskView → Type 0 → Type 0
WhereTold view Fact = is_told view ≡ true → Fact

-- the one image is this file
abbrev pub IsOnlyImage : DiskView → List ℕ → Type 0
IsOnlyImage view file = LeavesOnly view.may_leave file

-- all that a read gives is on the disk
abbrev pub IsSynced : DiskView → Type 0
IsSynced view = LeavesOnly view.may_leave (file_of view)

-- The disk as it reads is one of its images. This moment is one of those since an earlier one; and since
-- this moment there is no other.
pub record IsHonest (view : DiskView) : Type 0 where
  pub reads : view.may_leave (file_of view)
  pub counts_now : (t : ℕ) (image : List ℕ) → t ≤ view.moment → view.may_leave image → view.left_since t image
  pub only_now : (image : List ℕ) → view.left_since view.moment image → view.may_leave image

-- A call takes time. What a crash since a moment t might have left is what it might have left before
-- the call, or what it may leave now, and what it might have left before stays.
pub record Elapses (old new : DiskView) : Type 0 where
  pub later : old.moment ≤ new.moment
  pub rises : Rose old.moment new.moment
  pub nothing_else : (t : ℕ) (image : List ℕ) → t ≤ old.moment → new.left_since t image → old.left_since t image ⊎ new.may_leave image
  pub keeps : (t : ℕ) (image : List ℕ) → t ≤ old.moment → old.left_since t image → new.left_since t image

-- At every moment since old every image has P; and a run that began earlier goes on so.
pub record AlwaysLeaves (old new : DiskView) (P : List ℕ → Type 0) : Type 0 where
  pub later : old.moment ≤ new.moment
  pub each : Leaves (new.left_since old.moment) P
  pub before : (t : ℕ) (image : List ℕ) → t ≤ old.moment → new.left_since t image → old.left_since t image ⊎ P image

-- Some calls of a disk, one after another. It tells after them exactly if it told before. Its count of
-- faults never falls, and rose where they say that it failed. And this is so, where it tells: every
-- relation of two views says so here, and nowhere else.
pub record DiskRun (old new : DiskView) (Failed Told : Type 0) : Type 0 where
  pub tells : is_told new ≡ is_told old
  pub later : old.faults ≤ new.faults
  pub cause : Failed → Rose old.faults new.faults
  pub told : WhereTold old Told
