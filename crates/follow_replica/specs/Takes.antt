-- What a take does to the archive of a replica.
use Rattle.std.specs.Prelude.{◌≡◌, ◌⊎◌, ℕ, ◌+◌, ◌≤◌, List, [], ◌∷◌, ◌++◌, length, true, false, None, Some, Result, Ok, Err}
use Rattle.exact_time.specs.Causes.{Rose}
use Rattle.disk_model.specs.View.{DiskView, WhereTold, AlwaysLeaves, is_told}
use Rattle.archive_entry.specs.declared.entry.Entry.{Entry}
use Rattle.archive_state.specs.Lawful.{is_next}
use Rattle.archive_log.specs.Archive.{Archived}
use Rattle.archive_log.specs.Histories.{Recovers}
use Rattle.archive_post.specs.declared.appending.AppendFault.{AppendFault}
use Rattle.archive_post.specs.declared.appending.AppendFault.TheVariants as append
use Rattle.entry_bodies.specs.Bodies.{IsBody, IsBadBody}
use Rattle.entry_bodies.specs.declared.reading.BodyFault.{BodyFault}
use Rattle.entry_bodies.specs.declared.reading.BodyFault.TheVariants as body
use Rattle.follow_replica.specs.Numbers.{coming_from, gap_in}
use Rattle.follow_replica.specs.declared.fault.TakeFault.{TakeFault}
use Rattle.follow_replica.specs.declared.fault.TakeFault.TheVariants.{Form, Gap, Unlawful, DiskFault, OutOfMemory}

-- the file is a journal of the history, followed by some of these entries in order, none skipped and none in part
pub record RecoversWithSome (h es : List Entry) (file : List ℕ) : Type 0 where
  pub some : List Entry
  pub others : List Entry
  pub split : es ≡ some ++ others
  pub journal : Recovers (h ++ some) file

-- From one moment to another a first part of these entries was added, and the rest not. At every moment every image is a
-- journal of the history of before, followed by some of these entries in order.
pub record Adds {D : Type 0} (view : D → DiskView) (old new : Archived D) (es rest : List Entry) : Type 0 where
  pub added : List Entry
  pub split : es ≡ added ++ rest
  pub counted : new.count ≡ old.count + length added
  pub opening : new.faults ≡ old.faults
  pub tells : is_told (view new.disk) ≡ is_told (view old.disk)
  pub later : (view old.disk).faults ≤ (view new.disk).faults
  pub history : WhereTold (view old.disk) (new.history ≡ old.history ++ added)
  pub any_moment : WhereTold (view old.disk) (old.stopped ≡ false → AlwaysLeaves (view old.disk) (view new.disk) (RecoversWithSome old.history es))
  pub silent : old.stopped ≡ true → (added ≡ []) × (new.disk ≡ old.disk) × (new.stopped ≡ true)

-- the disk failed now, or had failed since the archive was opened
abbrev pub HasFailed : {D : Type 0} → (D → DiskView) → Archived D → Archived D → Type 0
HasFailed view old new = Rose (view old.disk).faults (view new.disk).faults ⊎ Rose old.faults (view old.disk).faults

-- a fault at this entry: it isn't the next lawful one; or the disk failed, and refuses from now on
pub record IsRefused {D : Type 0} (view : D → DiskView) (old new : Archived D) (e : Entry) (n : ℕ) : Type 0 where
  pub number : e.number ≡ n
  pub unlawful : WhereTold (view old.disk) (is_next new.history e ≡ false)
  pub stopped : new.stopped ≡ old.stopped

pub record IsStopped {D : Type 0} (view : D → DiskView) (old new : Archived D) (e : Entry) : Type 0 where
  pub lawful : WhereTold (view old.disk) (is_next new.history e ≡ true)
  pub stopped : new.stopped ≡ true
  pub cause : HasFailed view old new

-- these entries come next: all were added, so many; or a first part was, up to the one at which a fault came
abbrev pub AddsSo : {D : Type 0} → (D → DiskView) → List Entry → Archived D → Archived D → Result ℕ TakeFault → Type 0
AddsSo view es old new (Ok n) = Adds view old new es [] × (n ≡ length es) × (new.stopped ≡ old.stopped)
AddsSo view es old new (Err (Form at)) = ⊥
AddsSo view es old new (Err (Gap n)) = ⊥
AddsSo view es old new (Err (Unlawful n)) = (e : Entry) × (rest : List Entry) × Adds view old new es (e ∷ rest) × IsRefused view old new e n
AddsSo view es old new (Err DiskFault) = (e : Entry) × (rest : List Entry) × Adds view old new es (e ∷ rest) × IsStopped view old new e
AddsSo view es old new (Err OutOfMemory) = (rest : List Entry) × Adds view old new es rest × (new.stopped ≡ old.stopped)

-- of a body's entries those whose numbers come next
abbrev pub AddsRow : {D : Type 0} → (D → DiskView) → List Entry → Archived D → Archived D → Result ℕ TakeFault → Type 0
AddsRow view es old new result = AddsSo view (coming_from (old.count + 1) es) old new result

-- one of them
abbrev pub as_count : {E : Type 0} → Result (Unit {0}) E → Result ℕ E
as_count (Ok done) = Ok 1
as_count (Err fault) = Err fault

abbrev pub AddsOne : {D : Type 0} → (D → DiskView) → Entry → Archived D → Archived D → Result (Unit {0}) TakeFault → Type 0
AddsOne view e old new result = AddsSo view (e ∷ []) old new (as_count result)

-- What a take of a body does. Form and Gap leave the replica as it was.
abbrev pub TakesRow : {D : Type 0} → (D → DiskView) → List ℕ → Archived D → Archived D → Result ℕ TakeFault → Type 0
TakesRow view body old new (Err (Form at)) = IsBadBody body at × (new ≡ old)
TakesRow view body old new (Err (Gap n)) = (es : List Entry) × IsBody body es × (gap_in (old.count + 1) es ≡ Some n) × (new ≡ old)
TakesRow view body old new (Err OutOfMemory) =
    (new ≡ old) ⊎ ((es : List Entry) × IsBody body es × (gap_in (old.count + 1) es ≡ None) × AddsRow view es old new (Err OutOfMemory))
TakesRow view body old new result = (es : List Entry) × IsBody body es × (gap_in (old.count + 1) es ≡ None) × AddsRow view es old new result

-- how a fault of a body is told
abbrev pub from_body : BodyFault → TakeFault
from_body (body.Form at) = Form at
from_body body.OutOfMemory = OutOfMemory

-- how a fault of appending the entry of a number is told
abbrev pub from_append : ℕ → AppendFault → TakeFault
from_append n append.NotNext = Unlawful n
from_append n append.Stopped = DiskFault
from_append n append.OutOfMemory = OutOfMemory
