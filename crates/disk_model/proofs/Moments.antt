-- How a run of a disk's calls goes on, moment by moment: it begins with `started`, each call adds one
-- `goes_on`, each callee with a clause `AlwaysLeaves` one `and_then`.
use Rattle.std.proofs.Common.{inl, inr, ⊎_elim, ℕ, List, sym, subst, arith}
use Rattle.disk_model.specs.Disk.{Leaves, LeavesOnly}
use Rattle.disk_model.specs.View.{DiskView, IsHonest, Elapses, AlwaysLeaves}

-- before the first call: what a crash now may leave has P
pub started : (old : DiskView) (P : List ℕ → Type 0) → Leaves (old.left_since old.moment) P → AlwaysLeaves old old P
started old P here = record { later = omega arith; each = here; before = λ t image le left. inl left }

-- one call more, after which a crash leaves what has P
pub goes_on : (old mid new : DiskView) (P : List ℕ → Type 0) → AlwaysLeaves old mid P → Elapses mid new → Leaves new.may_leave P → AlwaysLeaves old new P
goes_on old mid new P so_far time here = record {
  later = omega (arith, so_far.later, time.later);
  each = λ image left. ⊎_elim (so_far.each image) (here image) (time.nothing_else old.moment image so_far.later left);
  before = λ t image le left. ⊎_elim (so_far.before t image le) (λ now. inr (here image now)) (time.nothing_else t image (omega (arith, le, so_far.later)) left);
}

-- a run and then another
pub and_then : (old mid new : DiskView) (P : List ℕ → Type 0) → AlwaysLeaves old mid P → AlwaysLeaves mid new P → AlwaysLeaves old new P
and_then old mid new P first second = record {
  later = omega (arith, first.later, second.later);
  each = λ image left. ⊎_elim (first.each image) (λ has. has) (second.before old.moment image first.later left);
  before = λ t image le left. ⊎_elim (first.before t image le) (λ has. inr has) (second.before t image (omega (arith, le, first.later)) left);
}

-- what has P has Q
pub weakened : (old new : DiskView) (P Q : List ℕ → Type 0) → Leaves P Q → AlwaysLeaves old new P → AlwaysLeaves old new Q
weakened old new P Q means run = record {
  later = run.later;
  each = λ image left. means image (run.each image left);
  before = λ t image le left. ⊎_elim (λ was. inl was) (λ has. inr (means image has)) (run.before t image le left);
}

-- on a disk at rest, what each image has
pub at_rest_now : (view : DiskView) → IsHonest view → (P : List ℕ → Type 0) → Leaves view.may_leave P → AlwaysLeaves view view P
at_rest_now view honest P here = started view P (λ image left. here image (honest.only_now image left))

-- before the first call on a synced disk: its file has P
pub started_synced : (old : DiskView) → IsHonest old → (file : List ℕ) (P : List ℕ → Type 0) → LeavesOnly old.may_leave file → P file → AlwaysLeaves old old P
started_synced old honest file P only has = at_rest_now old honest P (λ image now. subst P (sym (only image now)) has)

-- what was always so is so now: a crash at this moment is one of those since the start
pub leaves_now : (old new : DiskView) → IsHonest new → (P : List ℕ → Type 0) → AlwaysLeaves old new P → Leaves new.may_leave P
leaves_now old new honest P run image now = run.each image (honest.counts_now old.moment image run.later now)
