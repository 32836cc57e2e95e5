-- How runs of a disk's calls go on: one run and then another, and what a run is that writes nothing.
use Rattle.std.proofs.Common.{refl, ◌∙◌, arith}
use Rattle.disk_model.specs.View.{DiskView, IsHonest, DiskRun}
use Rattle.disk_model.specs.Effects.{IsUnchanged, IsNotWritten, IsOnlyRead}
use Rattle.disk_model.proofs.Moments.{at_rest_now, goes_on, and_then, weakened}

-- no call
pub no_run : (view : DiskView) (Told : Type 0) → Told → DiskRun view view ⊥ Told
no_run view Told told = record { tells = refl; later = omega arith; cause = λ failed. absurd failed; told = λ tells. told }

-- a run and then another: they say that the disk failed where the second one does
pub run_on : (old mid new : DiskView) (First Second Failed Told More Both : Type 0) → DiskRun old mid First Told → DiskRun mid new Second More → (Failed → Second) → (Told → More → Both) → DiskRun old new Failed Both
run_on old mid new First Second Failed Told More Both first second means both = record {
  tells = second.tells ∙ first.tells;
  later = omega (arith, first.later, second.later);
  cause = λ failed. omega (arith, first.later, second.cause (means failed));
  told = λ tells. both (first.told tells) (second.told (first.tells ∙ tells));
}

-- one length or read
pub one_read : (old new : DiskView) → IsHonest old → IsUnchanged old new → IsOnlyRead old new
one_read old new honest call = record {
  content = call.content;
  crash = call.crash;
  kept = call.kept;
  any_moment = goes_on old old new old.may_leave (at_rest_now old honest old.may_leave (λ image left. left)) call.time call.crash;
}

-- none
pub no_read : (view : DiskView) → IsHonest view → IsOnlyRead view view
no_read view honest = record {
  content = refl;
  crash = λ image left. left;
  kept = λ image left. left;
  any_moment = at_rest_now view honest view.may_leave (λ image left. left);
}

-- some that write nothing, and then some more
pub unwritten_on : (old mid new : DiskView) → IsNotWritten old mid → IsNotWritten mid new → IsNotWritten old new
unwritten_on old mid new first second = record {
  content = second.content ∙ first.content;
  crash = λ image left. first.crash image (second.crash image left);
  any_moment = and_then old mid new old.may_leave first.any_moment (weakened mid new mid.may_leave old.may_leave first.crash second.any_moment);
}

pub only_read_unwritten : (old new : DiskView) → IsOnlyRead old new → IsNotWritten old new
only_read_unwritten old new read = record { content = read.content; crash = read.crash; any_moment = read.any_moment }

-- some that only read, and then some more
pub only_read_on : (old mid new : DiskView) → IsOnlyRead old mid → IsOnlyRead mid new → IsOnlyRead old new
only_read_on old mid new first second =
    let both = unwritten_on old mid new (only_read_unwritten old mid first) (only_read_unwritten mid new second) in record {
      content = both.content;
      crash = both.crash;
      kept = λ image left. second.kept image (first.kept image left);
      any_moment = both.any_moment;
    }
