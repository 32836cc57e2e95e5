-- The body of a waveform answer: the bytes of the picked rows, one after another.
use Rattle.std.specs.Prelude.{◌≡◌, ℕ, Bool, List, [], ◌∷◌, length, Result, Ok, Err, nat_lt, if◌then◌else◌, Option, Some, None, ⊤}
use Rattle.std.specs.List.{slice_get, flat_map}
use Rattle.mseed_header.specs.declared.row.Row.{Row}
use Rattle.dataselect.specs.declared.query.DataQuery.{DataQuery}
use Rattle.dataselect.specs.declared.answers.DataRefusal.{DataRefusal}
use Rattle.dataselect.specs.declared.answers.DataRefusal.TheVariants.{Empty, TooLarge, OutOfMemory}
use Rattle.dataselect.specs.Picked.{picked_places}

abbrev pub image_of : Option Row → List ℕ
image_of None = []
image_of (Some row) = row.image

-- the bytes of the rows at these places, one after another
abbrev pub images_at : List Row → List ℕ → List ℕ
images_at rows places = flat_map (λ i. image_of (slice_get rows i)) places

-- the data body of a query over the rows
abbrev pub data_body : (Row → Bool) → DataQuery → List Row → List ℕ
data_body seen query rows = images_at rows (picked_places seen query rows)

abbrev pub body_within : ℕ → List ℕ → Result (List ℕ) DataRefusal
body_within max_bytes body = if nat_lt max_bytes (length body) then Err (TooLarge (length body)) else Ok body

abbrev pub body_or_empty : ℕ → List Row → List ℕ → Result (List ℕ) DataRefusal
body_or_empty max_bytes rows [] = Err Empty
body_or_empty max_bytes rows (place ∷ places) = body_within max_bytes (images_at rows (place ∷ places))

-- the data body, or why there is none: no row is picked, or the body is too long
abbrev pub answer_of : (Row → Bool) → DataQuery → ℕ → List Row → Result (List ℕ) DataRefusal
answer_of seen query max_bytes rows = body_or_empty max_bytes rows (picked_places seen query rows)

-- a refusal is that of the answer; want of memory is free
abbrev pub RefusesAs : Result (List ℕ) DataRefusal → DataRefusal → Type 0
RefusesAs answer Empty = answer ≡ Err Empty
RefusesAs answer (TooLarge n) = answer ≡ Err (TooLarge n)
RefusesAs answer OutOfMemory = ⊤
