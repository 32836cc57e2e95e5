-- What is taken of an input: the records that a query asks for, without those whose bytes equal an
-- earlier one's. The other rows don't change the query's answer.
use Rattle.std.specs.Prelude.{◌≡◌, ◌≢◌, ℕ, ◌+◌, ◌-◌, ◌<◌, ◌≤◌, List, [], ◌++◌, length, Some, None, if◌then◌else◌, ⊤}
use Rattle.std.specs.List.{slice_get}
use Rattle.std.specs.Io.KnownBytes.{Consumes, IsAtEnd}
use Rattle.std.specs.declared.option.Option.{Option}
use Rattle.exact_time.specs.Causes.{Rose}
use Rattle.streams.specs.View.{StreamView}
use Rattle.mseed_header.specs.Header.{RefusesRecord}
use Rattle.mseed_header.specs.Records.{AreRecords, IsPlaced, images_of}
use Rattle.mseed_header.specs.declared.header.RecordFault.{RecordFault}
use Rattle.mseed_header.specs.declared.header.RecordFault.TheVariants.{Short}
use Rattle.mseed_header.specs.declared.row.Row.{Row}
use Rattle.dataselect.specs.declared.query.DataQuery.{DataQuery}
use Rattle.dataselect.specs.Chosen.{asked_rows}
use Rattle.dataselect.specs.Query.{is_asked}
use Rattle.dataselect.specs.Rows.{held_rows, with_row}
use Rattle.centre_select.specs.Limits.{most_input}
use Rattle.centre_select.specs.declared.ending.SelectRefusal.TheVariants.{Record, InputTooLong}
use Rattle.centre_select.specs.declared.ending.SelectStop.{SelectStop}
use Rattle.centre_select.specs.declared.ending.SelectStop.TheVariants.{Refused, ReadFault, OutOfMemory}
use Rattle.centre_select.specs.Answers.{HasBadRecord, epoch}
use Rattle.centre_select.specs.Had.{Had, HadMore}

-- of the input's rows these are those that the query asks for, without doubles
pub record AreAsked (query : DataQuery) (input : List ℕ) (held : List Row) : Type 0 where
  pub rows : List Row
  pub records : AreRecords input 0 epoch rows
  pub held_are : held ≡ held_rows (asked_rows query rows)

-- the rows, and the row at their end where the query asks for it, unless its bytes are there
abbrev pub with_asked : DataQuery → List Row → Row → List Row
with_asked query rows row = if is_asked query row.header then with_row rows row else rows

-- The input so far is records end to end, this many, and then the rest. Of them the held rows are those that
-- the query asks for, without doubles.
pub record IsShelved (query : DataQuery) (input rest : List ℕ) (place : ℕ) (held : List Row) : Type 0 where
  pub rows : List Row
  pub split : input ≡ images_of rows ++ rest
  pub placed : (i : ℕ) (row : Row) → slice_get rows i ≡ Some row → IsPlaced 0 epoch i row
  pub place_is : place ≡ length rows
  pub held_are : held ≡ held_rows (asked_rows query rows)
  pub few : length held ≤ place
  pub fits : place + length rest ≤ length input

-- whatever came before these bytes, behind a first part of them it is still so
abbrev pub Passes : DataQuery → List ℕ → ℕ → List Row → List ℕ → ℕ → List Row → Type 0
Passes query bytes place held rest next new =
    (input : List ℕ) → IsShelved query input bytes place held → IsShelved query input rest next new

-- why no record more was cut off: nothing is left, or what is left is refused
abbrev pub IsCutTo : List ℕ → Option RecordFault → Type 0
IsCutTo rest None = rest ≡ []
IsCutTo rest (Some fault) = (rest ≢ []) × RefusesRecord rest fault

-- a refusal that stays, whatever bytes come behind: any but that for missing bytes
abbrev pub IsLasting : Option RecordFault → Type 0
IsLasting None = ⊥
IsLasting (Some fault) = fault ≢ Short

-- at the end of so many bytes the rest is refused, which begins at this offset
abbrev pub IsRestRefused : List ℕ → ℕ → SelectStop → Type 0
IsRestRefused rest total (Refused (Record at fault)) = (at ≡ total - length rest) × (rest ≢ []) × RefusesRecord rest fault
IsRestRefused rest total _ = ⊥

-- behind so many bytes the source was read to its end, within the limit
pub record HasCounted (left after : Option (List ℕ)) (total : ℕ) : Type 0 where
  pub bytes : List ℕ
  pub taken : Consumes left after bytes
  pub end : IsAtEnd after
  pub within : total + length bytes ≤ most_input

-- what was taken behind so many bytes makes them more than the limit
pub record HasTooMany (left after : Option (List ℕ)) (total : ℕ) : Type 0 where
  pub bytes : List ℕ
  pub taken : Consumes left after bytes
  pub above : most_input < total + length bytes

-- why no more is taken behind so many bytes
abbrev pub PieceStops : StreamView → StreamView → ℕ → SelectStop → Type 0
PieceStops old new total ReadFault = Rose old.faults new.faults
PieceStops old new total (Refused InputTooLong) = HasTooMany old.left new.left total
PieceStops old new total _ = ⊥

-- the source had this input and was read to its end, and the held rows are those that the query asks for
pub record HasTaken (query : DataQuery) (left after : Option (List ℕ)) (held : List Row) : Type 0 where
  pub input : List ℕ
  pub taken : Consumes left after input
  pub end : IsAtEnd after
  pub within : length input ≤ most_input
  pub asked : AreAsked query input held

-- the source had an input whose record at this offset is the first that is refused
pub record HadBadRecord (left : Option (List ℕ)) (at : ℕ) (fault : RecordFault) : Type 0 where
  pub input : List ℕ
  pub had : Had left input
  pub bad : HasBadRecord input at fault

-- why an input wasn't taken; want of memory is free
abbrev pub IntakeStops : StreamView → StreamView → SelectStop → Type 0
IntakeStops old new ReadFault = Rose old.faults new.faults
IntakeStops old new (Refused InputTooLong) = HadMore old.left most_input
IntakeStops old new (Refused (Record at fault)) = HadBadRecord old.left at fault
IntakeStops old new OutOfMemory = ⊤
IntakeStops old new _ = ⊥
