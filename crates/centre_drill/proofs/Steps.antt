-- What is known of an archive from step to step while it is made.
use Rattle.std.proofs.Common.{◌≡◌, ◌∙◌, ℕ, false, List, length, Result, Ok, Err, refl, ap, subst, arith}
use Rattle.std.specs.Prelude.{OnOk, IsErrOf}
use Rattle.std.specs.Result.{IsErrAnd}
use Rattle.disk_model.specs.View.{DiskView, IsHonest, DiskRun, file_of}
use Rattle.archive_entry.specs.declared.entry.Entry.{Entry}
use Rattle.archive_log.specs.Archive.{Archived, Stands}
use Rattle.archive_log.specs.Founding.{MakesArchive}
use Rattle.archive_post.specs.Posts.{Commits}
use Rattle.archive_log.specs.declared.fault.FoundFault.{FoundFault}
use Rattle.archive_log.specs.declared.fault.FoundFault.TheVariants as found
use Rattle.centre_drill.specs.Drill.{HoldsHistory, stop_for_founding}
use Rattle.centre_drill.specs.Making.{Begins, ExplainsStop, IsMakingStop, IsSilentStop, Runs}
use Rattle.centre_drill.specs.declared.ending.DrillStop.{DrillStop}
use Rattle.centre_drill.specs.declared.ending.DrillStop.TheVariants.{WriteFault, DiskFault, NotEmpty, OutOfMemory}

same_fault : {A : Type 0} (fault other : FoundFault) (r : Result A FoundFault) → r ≡ Err fault → r ≡ Err other → fault ≡ other
same_fault fault other r is also = cc

same_stop : {A : Type 0} (stop other : DrillStop) (r : Result A DrillStop) → r ≡ Err stop → r ≡ Err other → stop ≡ other
same_stop stop other r is also = cc

-- ---- founding

-- an archive that wasn't founded
pub not_begun : {A B : Type 0} (e : Entry) (old new : DiskView) (fault : FoundFault) → MakesArchive {T = A} e old new (Err fault) → Begins {T = B} old new (Err (stop_for_founding fault))
not_begun e old new found.DiskFault run = record {
  tells = run.tells;
  later = run.later;
  cause = λ is. run.cause refl;
  told = λ told. record { empty = tt; fault = tt; kept = λ len is. absurd cc };
}
not_begun e old new (found.NotEmpty length) run = record {
  tells = run.tells;
  later = run.later;
  cause = λ is. absurd cc;
  told = λ told.
      let made = run.told told in
      let all = made.kept length refl in
      record { empty = tt; fault = made.fault; kept = λ len is. record { content = all.0; fewer = all.1; more = all.2 } };
}
not_begun e old new found.OutOfMemory run = record {
  tells = run.tells;
  later = run.later;
  cause = λ is. absurd cc;
  told = λ told. record { empty = tt; fault = tt; kept = λ len is. absurd cc };
}

-- one that was
pub begun : {A B : Type 0} (e : Entry) (old new : DiskView) (a : A) (b : B) → MakesArchive e old new (Ok a) → Begins old new (Ok b)
begun e old new a b run = record {
  tells = run.tells;
  later = run.later;
  cause = λ is. absurd cc;
  told = λ told. let made = run.told told in record { empty = made.empty; fault = tt; kept = λ len is. absurd cc };
}

-- memory ran out behind it
pub begun_short : {A B : Type 0} (e : Entry) (old new : DiskView) (a : A) → MakesArchive e old new (Ok a) → Begins {T = B} old new (Err OutOfMemory)
begun_short e old new a run = record {
  tells = run.tells;
  later = run.later;
  cause = λ is. absurd cc;
  told = λ told. record { empty = tt; fault = tt; kept = λ len is. absurd cc };
}

-- ---- one run and then another

-- a disk that isn't called
pub at_rest : (view : DiskView) (Failed : Type 0) → (Failed → ⊥) → Runs view view Failed
at_rest view Failed never = record { tells = refl; later = omega arith; cause = λ failed. absurd (never failed); told = λ told. tt }

-- a run that failed where this is so, failed only where that is so
pub runs_by : (old new : DiskView) (A B Told : Type 0) → DiskRun old new A Told → (B → A) → Runs old new B
runs_by old new A B Told run means = record { tells = run.tells; later = run.later; cause = λ b. run.cause (means b); told = λ told. tt }

pub runs_on : (old mid new : DiskView) (A B : Type 0) → Runs old mid A → Runs mid new B → Runs old new B
runs_on old mid new A B first second = record {
  tells = second.tells ∙ first.tells;
  later = omega (arith, first.later, second.later);
  cause = λ b. omega (arith, first.later, second.cause b);
  told = λ told. tt;
}

-- what was begun, and then some calls that ended so
pub begins_on : {A B C : Type 0} (old mid new : DiskView) (a : A) (r : Result B DrillStop) (stop : DrillStop) → Begins old mid (Ok a) → Runs mid new (IsErrOf r DiskFault) → r ≡ Err stop → IsMakingStop stop → Begins {T = C} old new (Err stop)
begins_on old mid new a r stop first second is may = record {
  tells = second.tells ∙ first.tells;
  later = omega (arith, first.later, second.later);
  cause = λ failed. let so = same_stop stop DiskFault (Err stop) refl failed in omega (arith, first.later, second.cause (is ∙ ap Err so));
  told = λ told. record { empty = tt; fault = explains stop may; kept = λ len failed. absurd (no_bytes stop len may (same_stop stop (NotEmpty len) (Err stop) refl failed)) };
}
  where
    explains : (stop : DrillStop) → IsMakingStop stop → ExplainsStop (file_of old) stop
    explains WriteFault may = absurd may
    explains DiskFault may = tt
    explains (NotEmpty len) may = absurd may
    explains OutOfMemory may = tt

    no_bytes : (stop : DrillStop) (len : ℕ) → IsMakingStop stop → stop ≡ NotEmpty len → ⊥
    no_bytes stop len may is = subst IsMakingStop is may

-- ---- what is on the disk

-- an archive that runs leaves its history, and reads as it
pub holds : {D : Type 0} (view : D → DiskView) (archive : Archived D) (h : List Entry) → IsHonest (view archive.disk) → Stands view archive → archive.stopped ≡ false → archive.history ≡ h → HoldsHistory (view archive.disk) h
holds view archive h honest stands running is =
    let images = stands.running running in
    subst (λ (l : List Entry). HoldsHistory (view archive.disk) l) is
    (record { history = record { history = stands.history; journal = images (file_of (view archive.disk)) honest.reads }; images = images })

pub silent_founding : (fault : FoundFault) → IsSilentStop (stop_for_founding fault)
silent_founding found.DiskFault = tt
silent_founding (found.NotEmpty length) = tt
silent_founding found.OutOfMemory = tt

pub silent_making : (stop : DrillStop) → IsMakingStop stop → IsSilentStop stop
silent_making WriteFault may = absurd may
silent_making DiskFault may = tt
silent_making (NotEmpty len) may = tt
silent_making OutOfMemory may = tt

-- ---- one entry more

-- a commit of an archive that ran
pub called_run : {D : Type 0} (view : D → DiskView) (old new : Archived D) (h : List Entry) (e : Entry) (A B : Type 0) → Commits view old new h e A → old.stopped ≡ false → (B → A) → Runs (view old.disk) (view new.disk) B
called_run view old new h e A B call running means = record { tells = call.tells; later = call.later; cause = λ b. call.failed (means b) running; told = λ told. tt }

pub not_disk : {T : Type 0} (r : Result T DrillStop) → IsErrAnd r (λ f. f ≡ OutOfMemory) → IsErrOf r DiskFault → ⊥
not_disk (Ok x) is so = is
not_disk (Err f) is so = absurd (cc (is, so))

pub on_ok : {T E : Type 0} (r : Result T E) (A B : Type 0) → OnOk r A → (A → B) → OnOk r B
on_ok (Ok x) A B a by = by a
on_ok (Err e) A B a by = tt
