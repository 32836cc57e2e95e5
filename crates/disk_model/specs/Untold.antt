-- A disk that tells nothing: only its faults are known, and every law of those that tell is kept.
use Rattle.std.specs.Prelude.{◌≡◌, ℕ, None, true, false, ⊤}
use Rattle.std.proofs.lemmas.Bool.{false≢true}
use Rattle.disk_model.specs.View.{DiskView}

-- what is told of it, after so many faults
abbrev pub untold_view : ℕ → DiskView
untold_view faults = record {
  content = None;
  may_leave = λ image. ⊤;
  moment = 0;
  left_since = λ t image. ⊤;
  faults = faults;
}

pub untold : {A : Type 0} → false ≡ true → A
untold told = absurd (false≢true told)
