-- A journal that was only read, and then only read again, was only read.
use Rattle.std.proofs.Common.{ap, refl, ◌∙◌}
use Rattle.disk_model.specs.View.{DiskView, WhereTold, IsHonest}
use Rattle.disk_model.specs.Effects.{IsOnlyRead}
use Rattle.disk_model.proofs.Runs.{no_run, run_on, no_read, only_read_on}
use Rattle.archive_journal.specs.Journal.{Opened, WasRead}

module _ {D : Type 0} (view : D → DiskView) where
  -- no call
  pub reads_none : (journal : Opened D) → WhereTold (view journal.disk) (IsHonest (view journal.disk)) → WasRead view journal journal ⊥
  reads_none journal honest = record {
    disk = record { tells = refl; later = (no_run (view journal.disk) (Unit {0}) tt).later; cause = λ failed. absurd failed; told = λ told. no_read (view journal.disk) (honest told) };
    payloads = λ told. refl;
    same = refl;
  }

  -- some reads, and then some more
  pub reads_then : (old mid new : Opened D) (First Second Failed : Type 0) → WasRead view old mid First → WasRead view mid new Second → (Failed → Second) → WasRead view old new Failed
  reads_then old mid new First Second Failed first second means = record {
    disk = run_on (view old.disk) (view mid.disk) (view new.disk) First Second Failed (IsOnlyRead (view old.disk) (view mid.disk)) (IsOnlyRead (view mid.disk) (view new.disk)) (IsOnlyRead (view old.disk) (view new.disk)) first.disk second.disk means (only_read_on (view old.disk) (view mid.disk) (view new.disk));
    payloads = λ told. second.payloads (first.disk.tells ∙ told) ∙ first.payloads told;
    same = second.same ∙ ap (λ (j : Opened D). record j { disk = new.disk; payloads = new.payloads }) first.same;
  }
