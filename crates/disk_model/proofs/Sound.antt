-- What a disk in memory keeps at each change.
use Rattle.std.proofs.Common.{◌≡◌, ◌⊎◌, inl, inr, ℕ, ◌+◌, ◌<◌, ◌≤◌, List, length, get_or, Bool, true, false, if◌then◌else◌, refl, ◌∙◌, arith}
use Rattle.std.proofs.lemmas.List.{get_or-take, length-take}
use Rattle.std.proofs.lemmas.Bool.{cases_lt, true≢false}
use Rattle.std.proofs.lemmas.Bool.Decides.{nat_tests}
use Rattle.disk_model.specs.Disk.{overwritten}
use Rattle.disk_model.specs.Images.{Images, IsImage, is_within, after_write}
use Rattle.disk_model.specs.Changes.{State, at_rest, after}
use Rattle.disk_model.specs.Sound.{IsSound}
use Rattle.disk_model.specs.declared.change.Change.{Change}
use Rattle.disk_model.specs.declared.change.Change.TheVariants.{Wrote, Tore, Cut, Synced}
use Rattle.disk_model.proofs.ImageSteps.{synced_is}
use Rattle.disk_model.proofs.Overwrites.{length-overwritten, overwritten_torn, torn_before, torn_behind}

-- outside the range: below it or above it
neither : (w b : Bool) → (if w then true else b) ≡ false → (w ≡ false) × (b ≡ false)
neither true b is = absurd (true≢false is)
neither false b is = (refl, is)

outside : (at n k : ℕ) → is_within at n k ≡ false → (k < at) ⊎ (at + n ≤ k)
outside at n k is = elim (cases_lt k at) [
  | inl below ↦ inl below
  | inr past ↦ elim (cases_lt k (at + n)) [
    | inl within ↦ absurd (grind (arith, nat_tests))
    | inr above ↦ inr above
  ]
]

-- what is said of a byte that wasn't written by this write nor before
pub unwritten_at : (at n k : ℕ) (b : Bool) → (if is_within at n k then true else b) ≡ false → ((k < at) ⊎ (at + n ≤ k)) × (b ≡ false)
unwritten_at at n k b is = let both = neither (is_within at n k) b is in (outside at n k both.0, both.1)

-- where the write begins in the file
abbrev pub Fits : State → Change → Type 0
Fits s (Wrote at bytes) = at ≤ length s.content
Fits s (Tore at len) = at ≤ length s.content
Fits s (Cut len) = len ≤ length s.content
Fits s Synced = Unit {0}

pub sound_at_rest : (file : List ℕ) → IsSound (at_rest file)
sound_at_rest file = record { reads = synced_is file; shortest = omega arith; longest = omega arith }

-- an image stays one after a write that tells nothing of it
image_stays : (i : Images) (at n : ℕ) (image : List ℕ) → IsImage i image → IsImage (after_write i at n) image
image_stays i at n image is = record {
  no_shorter = is.no_shorter;
  no_longer = omega (arith, is.no_longer);
  kept = λ k lt base free. is.kept k lt base (unwritten_at at n k (i.is_written k) free).1;
}

sound_write : (s : State) (at : ℕ) (bytes : List ℕ) → at ≤ length s.content → IsSound s → IsSound (after s (Wrote at bytes))
sound_write s at bytes inside sound =
    let size = length-overwritten s.content at bytes inside in
    let torn = overwritten_torn s.content at bytes inside in record {
      reads = record {
        no_shorter = omega (arith, size, sound.reads.no_shorter);
        no_longer = omega (arith, size, sound.reads.no_longer);
        kept = λ k lt base free.
            let out = unwritten_at at (length bytes) k (s.images.is_written k) free in
            let old : (k < length s.content) × (get_or (overwritten s.content at bytes) k 0 ≡ get_or s.content k 0) = elim out.0 [
              | inl below ↦ torn_before at (length bytes) s.content (overwritten s.content at bytes) torn k below lt
              | inr above ↦ torn_behind at (length bytes) s.content (overwritten s.content at bytes) torn k above lt
            ] in
            old.1 ∙ sound.reads.kept k old.0 base out.1;
      };
      shortest = sound.shortest;
      longest = omega (arith, sound.longest);
    }

sound_cut : (s : State) (len : ℕ) → IsSound s → IsSound (after s (Cut len))
sound_cut s len sound = record {
  reads = record {
    no_shorter = omega (arith, length-take len s.content, sound.reads.no_shorter);
    no_longer = omega (arith, length-take len s.content, sound.reads.no_longer);
    kept = λ k lt base free.
        let l = length-take len s.content in
        get_or-take len s.content k 0 (omega (arith, l, lt)) ∙ sound.reads.kept k (omega (arith, l, lt)) base free;
  };
  shortest = omega (arith, sound.shortest);
  longest = sound.longest;
}

-- each change keeps a disk sound
pub sound_after : (s : State) (change : Change) → Fits s change → IsSound s → IsSound (after s change)
sound_after s (Wrote at bytes) fits sound = sound_write s at bytes fits sound
sound_after s (Tore at len) fits sound = record {
  reads = image_stays s.images at len s.content sound.reads;
  shortest = sound.shortest;
  longest = omega (arith, sound.longest);
}
sound_after s (Cut len) fits sound = sound_cut s len sound
sound_after s Synced fits sound = sound_at_rest s.content
