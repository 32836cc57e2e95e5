-- What a write, a cut and a sync do to the images of a disk, in both directions: each image of after is
-- one of before, one step on, and where a disk's images are bounded before they are bounded after.
use Rattle.std.proofs.Common.{◌≡◌, inl, inr, ℕ, ◌+◌, ◌-◌, ◌<◌, ◌≤◌, min, max, List, ◌++◌, length, get_or, map, take, drop, Bool, true, false, if◌then◌else◌, refl, sym, ◌∙◌, ap, arith, length-drop, length-append}
use Rattle.std.proofs.lemmas.List.{ext_get_or, get_or-take, get_or-drop, length-take, get_or_append_left, get_or-append_right, take_at}
use Rattle.std.proofs.lemmas.List.FromFn.{length-map-range_with_len, get_or-map-range_with_len}
use Rattle.std.specs.List.{range_with_len}
use Rattle.std.proofs.lemmas.Bool.{cases_lt}
use Rattle.std.proofs.lemmas.Bool.Decides.{nat_tests}
use Rattle.disk_model.specs.Disk.{Torn, Shortened, Follows, LeavesOnly}
use Rattle.disk_model.specs.Images.{Images, IsImage, synced, is_within, after_write, after_cut}

-- the image before a write: the range as it was at the sync
abbrev mixed : Images → ℕ → ℕ → List ℕ → ℕ → ℕ
mixed i at n image k = if is_within at n k then get_or i.base k 0 else get_or image k 0

abbrev pub unwritten : Images → ℕ → ℕ → List ℕ → List ℕ
unwritten i at n image = map (mixed i at n image) (range_with_len 0 (min (length image) i.greatest))

get_or-unwritten : (i : Images) (at n : ℕ) (image : List ℕ) (k : ℕ) → k < min (length image) i.greatest → get_or (unwritten i at n image) k 0 ≡ mixed i at n image k
get_or-unwritten i at n image k lt = get_or-map-range_with_len (mixed i at n image) 0 (min (length image) i.greatest) k k 0 lt (omega arith)

length-unwritten : (i : Images) (at n : ℕ) (image : List ℕ) → length (unwritten i at n image) ≡ min (length image) i.greatest
length-unwritten i at n image = length-map-range_with_len (mixed i at n image) 0 (min (length image) i.greatest)

kept_unwritten : (i : Images) (at n : ℕ) (image : List ℕ) (k : ℕ) (b : Bool) → (k < length image → (if b then true else i.is_written k) ≡ false → get_or image k 0 ≡ get_or i.base k 0)
    → k < length image → i.is_written k ≡ false → (if b then get_or i.base k 0 else get_or image k 0) ≡ get_or i.base k 0
kept_unwritten i at n image k true h lt free = refl
kept_unwritten i at n image k false h lt free = h lt free

image_before_write : (i : Images) (at n : ℕ) (image : List ℕ) → i.least ≤ i.greatest → IsImage (after_write i at n) image → IsImage i (unwritten i at n image)
image_before_write i at n image bounds is = record {
  no_shorter = omega (arith, length-unwritten i at n image, is.no_shorter, bounds);
  no_longer = omega (arith, length-unwritten i at n image);
  kept = λ k lt base free.
      let here : k < min (length image) i.greatest = omega (arith, length-unwritten i at n image, lt) in
      get_or-unwritten i at n image k here ∙ kept_unwritten i at n image k (is_within at n k) (λ l f. is.kept k l base f) (omega (arith, here)) free;
}

outside_below : (at n k : ℕ) → k < at → is_within at n k ≡ false
outside_below at n k lt = grind (arith, nat_tests)

outside_above : (at n k : ℕ) → at + n ≤ k → is_within at n k ≡ false
outside_above at n k le = grind (arith, nat_tests)

mixed_outside : (i : Images) (at n : ℕ) (image : List ℕ) (k : ℕ) → is_within at n k ≡ false → mixed i at n image k ≡ get_or image k 0
mixed_outside i at n image k out = ap (λ b. if b then get_or i.base k 0 else get_or image k 0) out

torn_by_write : (i : Images) (at n : ℕ) (image : List ℕ) → at ≤ i.greatest → IsImage (after_write i at n) image → Torn at n (unwritten i at n image) image
torn_by_write i at n c inside is =
    let d = unwritten i at n c in
    let size = length-unwritten i at n c in
    let long = is.no_longer in
    let same : (k : ℕ) → k < min (length c) i.greatest → is_within at n k ≡ false → get_or c k 0 ≡ get_or d k 0 = λ k lt out. sym (get_or-unwritten i at n c k lt ∙ mixed_outside i at n c k out) in record {
      before = ext_get_or 0 (take at c) (take at d) (omega (arith, length-take at c, length-take at d, size))
          (λ k lt.
          let l = length-take at c in
          let under : k < at = omega (arith, l, lt) in
          get_or-take at c k 0 under ∙ same k (omega (arith, l, lt)) (outside_below at n k under) ∙ sym (get_or-take at d k 0 under));
      behind = ext_get_or 0 (drop (at + n) c) (drop (at + n) d) (omega (arith, length-drop (at + n) c, length-drop (at + n) d, size, long))
          (λ k lt.
          let l = length-drop (at + n) c in
          get_or-drop (at + n) c k 0 ∙ same (at + n + k) (omega (arith, l, lt, long)) (outside_above at n (at + n + k) (omega arith)) ∙ sym (get_or-drop (at + n) d k 0));
      no_shorter = omega (arith, size);
      no_longer = omega (arith, size, long);
    }

-- each image after a write of n bytes is one of before, torn in that range
pub write_follows : (i : Images) (at n : ℕ) → i.least ≤ i.greatest → at ≤ i.greatest → Follows (Torn at n) (IsImage i) (IsImage (after_write i at n))
write_follows i at n bounds inside image is = (unwritten i at n image, image_before_write i at n image bounds is, torn_by_write i at n image inside is)

-- the image before a cut: as long as every image is at least, with the bytes of the sync
abbrev pub uncut : Images → List ℕ → List ℕ
uncut i image = image ++ drop (length image) (take i.least i.base)

length-uncut : (i : Images) (image : List ℕ) → i.least ≤ length i.base → length (uncut i image) ≡ max (length image) i.least
length-uncut i image short =
    omega (arith, length-append image (drop (length image) (take i.least i.base)), length-drop (length image) (take i.least i.base), length-take i.least i.base)

image_before_cut : (i : Images) (len : ℕ) (image : List ℕ) → i.least ≤ length i.base → i.least ≤ i.greatest → IsImage (after_cut i len) image → IsImage i (uncut i image)
image_before_cut i len image short bounds is =
    let size = length-uncut i image short in
    let rest = drop (length image) (take i.least i.base) in record {
      no_shorter = omega (arith, size);
      no_longer = omega (arith, size, is.no_longer, bounds);
      kept = λ k lt base free. elim (cases_lt k (length image)) [
        | inl l ↦ get_or_append_left image rest 0 k l ∙ is.kept k l base free
        | inr l ↦
            let under : k < i.least = omega (arith, size, lt, l) in
            let e : length image + (k - length image) ≡ k = omega (arith, l) in
            get_or-append_right image rest (length image) k 0 refl l ∙ get_or-drop (length image) (take i.least i.base) (k - length image) 0 ∙ ap (λ m. get_or (take i.least i.base) m 0) e ∙ get_or-take i.least i.base k 0 under
      ];
    }

-- each image after a cut to a length is one of before, shortened to that length or less
pub cut_follows : (i : Images) (len : ℕ) → i.least ≤ length i.base → i.least ≤ i.greatest → Follows (Shortened len) (IsImage i) (IsImage (after_cut i len))
cut_follows i len short bounds image is = (
  uncut i image,
  image_before_cut i len image short bounds is,
  record {
    front = take_at image (drop (length image) (take i.least i.base)) (length image) refl;
    no_shorter = omega (arith, length-uncut i image short, is.no_shorter);
  },
)

-- right after a sync the one image is the file at the sync
pub synced_only : (file : List ℕ) → LeavesOnly (IsImage (synced file)) file
synced_only file image is =
    let size : length image ≡ length file = omega (arith, is.no_shorter, is.no_longer) in
    ext_get_or 0 image file size (λ k lt. is.kept k lt (omega (arith, size, lt)) refl)

pub synced_is : (file : List ℕ) → IsImage (synced file) file
synced_is file = record { no_shorter = omega arith; no_longer = omega arith; kept = λ k lt base free. refl }
