-- Records end to end.
use Rattle.std.specs.Prelude.{◌≡◌, ◌≢◌, ℕ, pos, ◌≤ℤ◌, ◌<ℤ◌, List, [], ◌++◌, length, drop, Some, ⊤}
use Rattle.std.specs.List.{slice_get, flat_map}
use Rattle.exact_time.specs.declared.moment.Moment.{Moment}
use Rattle.mseed_header.specs.Header.{RefusesRecord}
use Rattle.mseed_header.specs.declared.header.RecordFault.{RecordFault}
use Rattle.mseed_header.specs.declared.row.Row.{Row}
use Rattle.mseed_header.specs.declared.cut.CutFault.{CutFault}
use Rattle.mseed_header.specs.declared.cut.CutFault.TheVariants.{Bad, OutOfMemory}

-- the bytes of the rows, one after another
abbrev pub images_of : List Row → List ℕ
images_of rows = flat_map (λ row. row.image) rows

-- the row stands at this place of the entry
pub record IsPlaced (entry : ℕ) (moment : Moment) (place : ℕ) (row : Row) : Type 0 where
  pub entry_is : row.entry ≡ entry
  pub moment_is : row.moment ≡ moment
  pub place_is : row.place ≡ place

-- the rows are the records that stand in the bytes end to end, numbered from 0
pub record AreRecords (bytes : List ℕ) (entry : ℕ) (moment : Moment) (rows : List Row) : Type 0 where
  pub whole : bytes ≡ images_of rows
  pub placed : (i : ℕ) (row : Row) → slice_get rows i ≡ Some row → IsPlaced entry moment i row

-- the bytes are so many records end to end: they have so many rows, whichever entry and moment of 1970 to
-- 2599 brings them
abbrev pub HasRecordCount : List ℕ → ℕ → Type 0
HasRecordCount bytes count =
    (entry : ℕ) (moment : Moment) → pos 0 ≤ℤ moment.micros → moment.micros <ℤ pos 19_880_899_200_000_000
    → (rows : List Row) × AreRecords bytes entry moment rows × (length rows ≡ count)

-- whole records stand before this offset, and the bytes from there on are refused
pub record IsFirstBad (bytes : List ℕ) (at : ℕ) (fault : RecordFault) : Type 0 where
  pub before : List Row
  pub split : bytes ≡ images_of before ++ drop at bytes
  pub offset : at ≡ length (images_of before)
  pub some : drop at bytes ≢ []
  pub refused : RefusesRecord (drop at bytes) fault

-- an offset and a fault are those of the first record that is refused
abbrev pub IsRefusedFirst : List ℕ → ℕ × RecordFault → Type 0
IsRefusedFirst bytes found = IsFirstBad bytes found.0 found.1

-- why bytes are no records end to end; want of memory is free
abbrev pub RefusesBatch : List ℕ → CutFault → Type 0
RefusesBatch bytes (Bad at fault) = IsFirstBad bytes at fault
RefusesBatch bytes OutOfMemory = ⊤

-- the fault of bytes that are no records end to end; want of memory is none
abbrev pub IsBatchFault : List ℕ → CutFault → Type 0
IsBatchFault bytes (Bad at fault) = IsFirstBad bytes at fault
IsBatchFault bytes OutOfMemory = ⊥
