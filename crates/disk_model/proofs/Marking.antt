-- The two stages of a run that adds bytes and then sets one among them.
use Rattle.std.proofs.Common.{◌≡◌, inl, inr, ℕ, ◌+◌, ◌<◌, ◌≤◌, List, ◌++◌, length, take, sym, ◌∙◌, ap, subst, refl, arith, length-append}
use Rattle.std.proofs.lemmas.List.{take_at, take-take}
use Rattle.disk_model.specs.Disk.{overwritten, Torn}
use Rattle.disk_model.specs.Marked.{IsStaged}
use Rattle.disk_model.proofs.Overwrites.{torn_past_end, torn_byte, overwritten_at_end}

module _ (file bytes : List ℕ) (end at : ℕ) (is_end : end ≡ length file) where
  pub staged_by_adding : (image : List ℕ) → Torn end (length bytes) file image → IsStaged file bytes at image
  staged_by_adding image torn =
      let parts = torn_past_end (length bytes) file image (subst (λ (e : ℕ). Torn e (length bytes) file image) is_end torn) in record {
        old_bytes = ap (take (length file)) parts.2 ∙ take_at file parts.0 (length file) refl;
        form = inl parts;
      }

  pub added : overwritten file end bytes ≡ file ++ bytes
  added = ap (λ (e : ℕ). overwritten file e bytes) is_end ∙ overwritten_at_end file bytes

  pub staged_by_marking : (mid image : List ℕ) → end ≤ at → at < end + length bytes → mid ≡ overwritten file end bytes → Torn at 1 mid image → IsStaged file bytes at image
  staged_by_marking mid image after before is torn =
      let whole : mid ≡ file ++ bytes = is ∙ added in
      let inside : at < length (file ++ bytes) = omega (arith, before, is_end, length-append file bytes) in
      let below : length file ≤ at = omega (arith, after, is_end) in record {
        old_bytes = sym (take-take (length file) at image below) ∙ ap (take (length file)) torn.before ∙ take-take (length file) at mid below ∙ ap (take (length file)) whole ∙ take_at file bytes (length file) refl;
        form = inr (torn_byte at (file ++ bytes) image inside (subst (λ (l : List ℕ). Torn at 1 l image) whole torn));
      }
