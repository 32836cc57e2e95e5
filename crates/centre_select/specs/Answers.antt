-- What the words of `select` and its input determine: the body that is written, or why there is none.
use Rattle.std.specs.Prelude.{◌≡◌, ◌≢◌, ◌⊎◌, ℕ, ◌<◌, ◌≤◌, Bool, true, pos, List, [], length, Result, Ok, Err}
use Rattle.exact_time.specs.declared.moment.Moment.{Moment}
use Rattle.mseed_header.specs.declared.header.RecordFault.{RecordFault}
use Rattle.mseed_header.specs.declared.row.Row.{Row}
use Rattle.mseed_header.specs.Records.{AreRecords, IsFirstBad}
use Rattle.dataselect.specs.declared.query.DataQuery.{DataQuery}
use Rattle.dataselect.specs.declared.answers.DataRefusal.{DataRefusal}
use Rattle.dataselect.specs.declared.answers.DataRefusal.TheVariants.{Empty, TooLarge as TooMuch, OutOfMemory as NoMemory}
use Rattle.dataselect.specs.Rows.{held_rows}
use Rattle.dataselect.specs.DataBody.{data_body}
use Rattle.dataselect.specs.Picked.{picked_places}
use Rattle.command_words.specs.Commands.{SelectWords}
use Rattle.centre_select.specs.Limits.{most_input}
use Rattle.centre_select.specs.Words.{IsSelectQuery, RefusesSelectWords}
use Rattle.centre_select.specs.declared.ending.SelectRefusal.{SelectRefusal}
use Rattle.centre_select.specs.declared.ending.SelectRefusal.TheVariants.{Record, NoData, TooLarge, InputTooLong}
use Rattle.centre_select.specs.declared.ending.SelectStop.{SelectStop}
use Rattle.centre_select.specs.declared.ending.SelectStop.TheVariants.{Refused, OutOfMemory}

abbrev pub epoch : Moment
epoch = record { micros = pos 0 }

-- every row is seen
abbrev pub all_seen : Row → Bool
all_seen row = true

-- the places of the rows that the query picks, and their bytes: over the rows without those whose
-- bytes equal an earlier one's
abbrev pub places_for : DataQuery → List Row → List ℕ
places_for query rows = picked_places all_seen query (held_rows rows)

abbrev pub body_for : DataQuery → List Row → List ℕ
body_for query rows = data_body all_seen query (held_rows rows)

-- The input is records end to end, and this is the data body of its rows, within the limit. The rows have
-- entry 0 and the moment 0, and some is picked.
pub record IsBodyOf (query : DataQuery) (limit : ℕ) (input body : List ℕ) : Type 0 where
  pub within : length input ≤ most_input
  pub rows : List Row
  pub records : AreRecords input 0 epoch rows
  pub some : places_for query rows ≢ []
  pub body_is : body ≡ body_for query rows
  pub fits : length body ≤ limit

-- the input is records end to end, and none is picked
pub record HasNoData (query : DataQuery) (input : List ℕ) : Type 0 where
  pub within : length input ≤ most_input
  pub rows : List Row
  pub records : AreRecords input 0 epoch rows
  pub none : places_for query rows ≡ []

-- the input is records end to end, and the picked ones have so many bytes, more than the limit
pub record HasTooMuch (query : DataQuery) (limit : ℕ) (input : List ℕ) (bytes told : ℕ) : Type 0 where
  pub within : length input ≤ most_input
  pub rows : List Row
  pub records : AreRecords input 0 epoch rows
  pub some : places_for query rows ≢ []
  pub bytes_is : bytes ≡ length (body_for query rows)
  pub limit_is : told ≡ limit
  pub above : limit < bytes

-- the input isn't too long, and the record at this offset is the first that is refused
pub record HasBadRecord (input : List ℕ) (at : ℕ) (fault : RecordFault) : Type 0 where
  pub within : length input ≤ most_input
  pub first : IsFirstBad input at fault

-- how a refusal of an answer stops a run
abbrev pub stop_for_data : ℕ → DataRefusal → SelectStop
stop_for_data limit Empty = Refused NoData
stop_for_data limit (TooMuch bytes) = Refused (TooLarge bytes limit)
stop_for_data limit NoMemory = OutOfMemory

-- why an input has no body for a query within a limit
abbrev pub RefusesInput : DataQuery → ℕ → List ℕ → SelectRefusal → Type 0
RefusesInput query limit input (Record at fault) = HasBadRecord input at fault
RefusesInput query limit input NoData = HasNoData query input
RefusesInput query limit input (TooLarge bytes told) = HasTooMuch query limit input bytes told
RefusesInput query limit input InputTooLong = most_input < length input
RefusesInput query limit input _ = ⊥

-- the words of `select` and the input give this body, or are refused: the words before the input
abbrev pub IsSelectAnswer : SelectWords → List ℕ → Result (List ℕ) SelectRefusal → Type 0
IsSelectAnswer w input (Ok body) = (query : DataQuery) × IsSelectQuery w query × IsBodyOf query w.limit input body
IsSelectAnswer w input (Err refusal) =
    RefusesSelectWords w refusal ⊎ ((query : DataQuery) × IsSelectQuery w query × RefusesInput query w.limit input refusal)
