-- What a disk in memory tells, and what one call does to it.
use Rattle.std.specs.Prelude.{◌≡◌, ℕ, ◌<◌, ◌≤◌, List, [], ◌∷◌, ◌++◌, Some}
use Rattle.disk_model.specs.Images.{IsImage}
use Rattle.disk_model.specs.View.{DiskView}
use Rattle.disk_model.specs.Changes.{State, at_rest, state_after, changes_in, LeftSince}
use Rattle.disk_model.specs.declared.change.Change.{Change}
use Rattle.disk_model.specs.declared.memory.MemoryDisk.{MemoryDisk}

-- the file that it was made with
abbrev pub made_with : MemoryDisk → List ℕ
made_with disk = disk.first.value

-- what its calls did since, in order
abbrev pub changes_of : MemoryDisk → List Change
changes_of disk = changes_in disk.steps.items

-- the file as it reads
abbrev pub content_of : MemoryDisk → List ℕ
content_of disk = disk.current.items

-- what the changes made of the first file
abbrev pub state_of : MemoryDisk → State
state_of disk = state_after (at_rest (made_with disk)) (changes_of disk)

-- what a crash now may leave
abbrev pub images_now : MemoryDisk → List ℕ → Type 0
images_now disk = IsImage (state_of disk).images

-- what a crash since t might have left
abbrev pub images_since : MemoryDisk → ℕ → List ℕ → Type 0
images_since disk = LeftSince (at_rest (made_with disk)) disk.steps.items

-- the time
abbrev pub moment_of : MemoryDisk → ℕ
moment_of disk = disk.moment

-- how often it failed
abbrev pub faults_of : MemoryDisk → ℕ
faults_of disk = disk.faults

-- what is told of it: all
abbrev pub memory_view : MemoryDisk → DiskView
memory_view disk = record {
  content = Some (content_of disk);
  may_leave = images_now disk;
  moment = moment_of disk;
  left_since = images_since disk;
  faults = faults_of disk;
}

-- how many calls it had, and the numbers of those that fail
abbrev pub calls_of : MemoryDisk → ℕ
calls_of disk = disk.calls

abbrev pub fails_of : MemoryDisk → List ℕ
fails_of disk = disk.fails.items

-- neither the number of calls nor the numbers of those that fail changed
pub record SameCount (old new : MemoryDisk) : Type 0 where
  pub calls_are : calls_of new ≡ calls_of old
  pub fails_are : fails_of new ≡ fails_of old

-- a call that changed nothing but the time, which may have gone on
pub record IsSame (old new : MemoryDisk) : Type 0 where
  pub first_is : made_with new ≡ made_with old
  pub content_is : content_of new ≡ content_of old
  pub steps_are : new.steps.items ≡ old.steps.items
  pub later : old.moment ≤ new.moment

-- a call that made one change
pub record IsChanged (change : Change) (old new : MemoryDisk) : Type 0 where
  pub first_is : made_with new ≡ made_with old
  pub moment : ℕ
  pub steps_are : new.steps.items ≡ old.steps.items ++ record { change = change; moment = moment } ∷ []
  pub after : old.moment < moment
  pub by : moment ≤ new.moment
