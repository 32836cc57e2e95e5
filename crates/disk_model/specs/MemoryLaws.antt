-- What a disk in memory tells keeps the laws of a disk.
use Rattle.std.specs.Prelude.{◌≡◌, ℕ, List, [], ◌∷◌, nat_le, true}
use Rattle.std.proofs.Common.{inl, inr, sym, subst}
use Rattle.std.proofs.Math.Nat.{not-le_of_lt}
use Rattle.std.proofs.lemmas.Bool.{and_parts, leb-true}
use Rattle.disk_model.specs.Images.{IsImage}
use Rattle.disk_model.specs.Changes.{State, at_rest, after, state_after, changes_in, LeftSince, all_by}
use Rattle.disk_model.specs.View.{IsHonest}
use Rattle.disk_model.specs.Memory.{made_with, state_of, memory_view}
use Rattle.disk_model.specs.declared.change.Step.{Step}
use Rattle.disk_model.specs.declared.memory.MemoryDisk.{MemoryDisk}

-- this moment is one of those since an earlier one
pub left_now : (s : State) (steps : List Step) (t : ℕ) (image : List ℕ) → IsImage (state_after s (changes_in steps)).images image → LeftSince s steps t image
left_now s [] t image is = is
left_now s (x ∷ xs) t image is = inr (left_now (after s x.change) xs t image is)

-- since a moment after the last change there is what is there now
pub left_only_now : (s : State) (steps : List Step) (moment : ℕ) (image : List ℕ) → all_by moment steps ≡ true → LeftSince s steps moment image → IsImage (state_after s (changes_in steps)).images image
left_only_now s [] moment image by left = left
left_only_now s (x ∷ xs) moment image by (inl early) = absurd (not-le_of_lt early.0 (leb-true x.moment moment (and_parts (nat_le x.moment moment) (all_by moment xs) by).0))
left_only_now s (x ∷ xs) moment image by (inr left) = left_only_now (after s x.change) xs moment image (and_parts (nat_le x.moment moment) (all_by moment xs) by).1 left

pub memory_honest : (disk : MemoryDisk) → IsHonest (memory_view disk)
memory_honest disk = record {
  reads = subst (IsImage (state_of disk).images) (sym disk.kept.content_is) disk.kept.sound.reads;
  counts_now = λ t image le now. left_now (at_rest (made_with disk)) disk.steps.items t image now;
  only_now = λ image left. left_only_now (at_rest (made_with disk)) disk.steps.items disk.moment image disk.kept.in_time left;
}
