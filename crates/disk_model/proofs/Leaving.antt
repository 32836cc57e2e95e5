-- From what a crash may leave before a call to what it may leave after it. `old` and `new` stand for a
-- disk's images before and after the call.
use Rattle.std.proofs.Common.{◌≡◌, ℕ, min, List, length, get_or, sym, ◌∙◌, ap, subst, inl, inr, arith}
use Rattle.std.proofs.lemmas.List.{get_or-take, length-take}
use Rattle.disk_model.specs.Disk.{Torn, Shortened, Follows, Leaves, LeavesOnly}
use Rattle.disk_model.specs.Images.{Images, IsImage, synced, after_write, after_cut}
use Rattle.disk_model.proofs.ImageSteps.{synced_is}
use Rattle.disk_model.proofs.Overwrites.{torn_before, torn_behind}
use Rattle.disk_model.proofs.Sound.{unwritten_at}

module _ (old new : List ℕ → Type 0) where
  -- a call that writes nothing: `len`, `read`, and a `sync` that failed
  pub after_no_write : (P : List ℕ → Type 0) → Leaves new old → Leaves old P → Leaves new P
  after_no_write P fewer has image left = has image (fewer image left)

  -- a write or a cut, done or not: what has P before it has Q after it
  pub after_step : (step : List ℕ → List ℕ → Type 0) (P Q : List ℕ → Type 0) → Follows step old new → ((earlier image : List ℕ) → P earlier → step earlier image → Q image) → Leaves old P → Leaves new Q
  after_step step P Q follows means has image left =
      let from = follows image left in means from.0 image (has from.0 from.1) from.2

  -- the same on a disk that is synced: the file is torn, or shortened, and nothing else
  pub after_synced_step : (step : List ℕ → List ℕ → Type 0) (file : List ℕ) → Follows step old new → LeavesOnly old file → Leaves new (step file)
  after_synced_step step file follows only image left =
      let from = follows image left in subst (λ f. step f image) (only from.0 from.1) from.2

  -- a sync: what the file has, the one image has
  pub after_sync : (P : List ℕ → Type 0) (file : List ℕ) → LeavesOnly new file → P file → Leaves new P
  after_sync P file only has image left = subst P (sym (only image left)) has

  -- in the words of the images: a write of n bytes, done or not
  pub images_after_write : (images : Images) (at n : ℕ) → Follows (Torn at n) old new → Leaves old (IsImage images) → Leaves new (IsImage (after_write images at n))
  images_after_write images at n follows bounded image left =
      let from = follows image left in
      let was = bounded from.0 from.1 in
      let torn = from.2 in record {
        no_shorter = omega (arith, was.no_shorter, torn.no_shorter);
        no_longer = omega (arith, was.no_longer, torn.no_longer);
        kept = λ k lt base free.
            let out = unwritten_at at n k (images.is_written k) free in
            elim out.0 [
              | inl below ↦ let same = torn_before at n from.0 image torn k below lt in same.1 ∙ was.kept k same.0 base out.1
              | inr above ↦ let same = torn_behind at n from.0 image torn k above lt in same.1 ∙ was.kept k same.0 base out.1
            ];
      }

  -- a cut, done or not
  pub images_after_cut : (images : Images) (len : ℕ) → Follows (Shortened len) old new → Leaves old (IsImage images) → Leaves new (IsImage (after_cut images len))
  images_after_cut images len follows bounded image left =
      let from = follows image left in
      let was = bounded from.0 from.1 in
      let cut = from.2 in
      let sizes : min (length image) (length from.0) ≡ length image = sym (length-take (length image) from.0) ∙ ap length cut.front in record {
        no_shorter = omega (arith, was.no_shorter, cut.no_shorter);
        no_longer = omega (arith, was.no_longer, sizes);
        kept = λ k lt base free.
            ap (λ l. get_or l k 0) (sym cut.front) ∙ get_or-take (length image) from.0 k 0 lt ∙ was.kept k (omega (arith, sizes, lt)) base free;
      }

  -- a sync
  pub images_after_sync : (file : List ℕ) → LeavesOnly new file → Leaves new (IsImage (synced file))
  images_after_sync file only image left = subst (IsImage (synced file)) (sym (only image left)) (synced_is file)
