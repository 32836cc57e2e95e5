-- The bytes of the rows at one place more.
use Rattle.std.proofs.Common.{◌≡◌, ℕ, ◌+◌, ◌<◌, List, [], ◌∷◌, ◌++◌, length, take, get_or, Some, ap, ◌∙◌, append-nil, length-append}
use Rattle.std.specs.List.{slice_get}
use Rattle.std.proofs.lemmas.List.{take_more}
use Rattle.std.proofs.lemmas.Grind.{flat_map-append}
use Rattle.mseed_header.specs.declared.row.Row.{Row}
use Rattle.dataselect.specs.DataBody.{images_at, image_of}

pub images_more : (rows : List Row) (places : List ℕ) (i : ℕ) (row : Row) → i < length places → slice_get rows (get_or places i 0) ≡ Some row
    → images_at rows (take (i + 1) places) ≡ images_at rows (take i places) ++ row.image
images_more rows places i row within is =
    ap (images_at rows) (take_more places i 0 within)
    ∙ flat_map-append (λ k. image_of (slice_get rows k)) (take i places) (get_or places i 0 ∷ [])
    ∙ ap (λ (o : List ℕ). images_at rows (take i places) ++ o) (append-nil (image_of (slice_get rows (get_or places i 0))) ∙ ap image_of is)

pub size_more : (rows : List Row) (places : List ℕ) (i : ℕ) (row : Row) → i < length places → slice_get rows (get_or places i 0) ≡ Some row
    → length (images_at rows (take (i + 1) places)) ≡ length (images_at rows (take i places)) + length row.image
size_more rows places i row within is =
    ap length (images_more rows places i row within is) ∙ length-append (images_at rows (take i places)) row.image
