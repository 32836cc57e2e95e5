-- The records that a walk over bytes has passed, as rows of any entry and moment.
use Rattle.std.proofs.Common.{◌≡◌, ◌==◌, true, ℕ, ◌+◌, pos, ◌≤ℤ◌, ◌<ℤ◌, List, [], ◌∷◌, ◌++◌, length, take, drop, Some, refl, arith, take-append-drop, length-take-le, length-append}
use Rattle.std.specs.List.{slice_get}
use Rattle.exact_time.specs.declared.moment.Moment.{Moment}
use Rattle.mseed_header.specs.declared.header.Header.{Header}
use Rattle.mseed_header.specs.declared.row.Row.{Row}
use Rattle.mseed_header.specs.Header.{HasHeader}
use Rattle.mseed_header.specs.Records.{images_of, IsPlaced, HasRecordCount}
use Rattle.mseed_header.proofs.Batches.{images_more, placed_more, none_left}
use Rattle.mseed_header.proofs.Fronts.{record_from}

-- rows whose images, and then what is left, are the bytes
pub record AreWalked (bytes rest : List ℕ) (entry : ℕ) (moment : Moment) (rows : List Row) : Type 0 where
  pub split : bytes ≡ images_of rows ++ rest
  pub placed : (i : ℕ) (row : Row) → slice_get rows i ≡ Some row → IsPlaced entry moment i row

-- so many of them
abbrev pub HasWalked : List ℕ → List ℕ → ℕ → Type 0
HasWalked bytes rest count =
    (entry : ℕ) (moment : Moment) → pos 0 ≤ℤ moment.micros → moment.micros <ℤ pos 19_880_899_200_000_000
    → (rows : List Row) × AreWalked bytes rest entry moment rows × (length rows ≡ count)

pub none_placed : (entry : ℕ) (moment : Moment) (i : ℕ) (row : Row) → slice_get [] i ≡ Some row → IsPlaced entry moment i row
none_placed entry moment i row e = cc

pub walk_begins : (bytes : List ℕ) → HasWalked bytes bytes 0
walk_begins bytes = λ entry moment since before. ([], record { split = refl; placed = none_placed entry moment }, refl)

-- the row of the record in front, with this number
pub record_row : (rest : List ℕ) (h : Header) → HasHeader rest h → (entry : ℕ) (moment : Moment) → pos 0 ≤ℤ moment.micros → moment.micros <ℤ pos 19_880_899_200_000_000
    → (place : ℕ) → (row : Row) × (row.header ≡ h) × (row.image ≡ take h.length rest) × IsPlaced entry moment place row
record_row rest h is entry moment since before place =
    let size : length (take h.length rest) ≡ h.length = length-take-le h.length rest is.whole in (
      record {
        header = h;
        image = take h.length rest;
        entry = entry;
        place = place;
        moment = moment;
        head = record_from rest (take h.length rest) h is refl size;
        since_1970 = since;
        before_2600 = before;
      },
      refl,
      refl,
      record { entry_is = refl; moment_is = refl; place_is = refl },
    )

-- one record more
pub walked_more : (bytes rest : List ℕ) (h : Header) (entry : ℕ) (moment : Moment) (rows : List Row) (row : Row) → row.image ≡ take h.length rest → IsPlaced entry moment (length rows) row
    → AreWalked bytes rest entry moment rows → AreWalked bytes (drop h.length rest) entry moment (rows ++ row ∷ [])
walked_more bytes rest h entry moment rows row image placed far = record {
  split = images_more bytes rest (take h.length rest) (drop h.length rest) rows row far.split image (take-append-drop h.length rest);
  placed = placed_more entry moment rows row far.placed placed;
}

pub walks : (bytes rest : List ℕ) (count : ℕ) (h : Header) → HasHeader rest h → HasWalked bytes rest count → HasWalked bytes (drop h.length rest) (count + 1)
walks bytes rest count h is walked = λ entry moment since before.
    let far = walked entry moment since before in
    let row = record_row rest h is entry moment since before (length far.0) in
    (far.0 ++ row.0 ∷ [], walked_more bytes rest h entry moment far.0 row.0 row.2 row.3 far.1, omega (arith, length-append far.0 (row.0 ∷ []), far.2))

-- at the end
pub walked_all : (bytes rest : List ℕ) (count : ℕ) → (length rest == 0) ≡ true → HasWalked bytes rest count → HasRecordCount bytes count
walked_all bytes rest count none walked = λ entry moment since before.
    let far = walked entry moment since before in
    (far.0, record { whole = none_left bytes rest far.0 far.1.split none; placed = far.1.placed }, far.2)
