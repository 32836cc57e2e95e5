-- The values of single parameters (FDSN Web Service Specifications 1.2, dataselect and station, query
-- parameters).
use Rattle.std.specs.Prelude.{◌≡◌, ℕ, ℤ, ◌≤◌, ◌==◌, ◌||◌, ◌&&◌, nat_le, pos, Bool, true, false, List, [], ◌∷◌, length, Option, Some, None, if◌then◌else◌, codes, unsigned_abs, IsTrue, ⊤}
use Rattle.std.specs.Char.{is_ascii_digit}
use Rattle.std.specs.Str.{bytes_eq, chars}
use Rattle.std.specs.List.{list_any, list_all}
use Rattle.exact_time.specs.MomentText.{IsMoment}
use Rattle.exact_time.specs.Decimals.{IsDecimal, whole_of}
use Rattle.channel_globs.specs.PatternText.{IsPatternList}
use Rattle.mseed_header.specs.declared.quality.Quality.{Quality}
use Rattle.mseed_header.specs.declared.quality.Quality.TheVariants.{D, M, Q, R}
use Rattle.dataselect.specs.declared.query.Nodata.{Nodata}
use Rattle.dataselect.specs.declared.query.Nodata.TheVariants.{Quiet, NotFound}
use Rattle.query_parameters.specs.Listed.{qualities_of, merges_of, spans_order_of, extent_order_of, avail_form_of, is_form_left_out}
use Rattle.query_parameters.specs.Rows.{Text, same_name}
use Rattle.query_parameters.specs.declared.avail.AvailForm.{AvailForm}
use Rattle.query_parameters.specs.declared.avail.AvailOrder.{AvailOrder}
use Rattle.query_parameters.specs.declared.avail.Merges.{Merges}
use Rattle.query_parameters.specs.declared.avail.QualitySet.{QualitySet}
use Rattle.query_parameters.specs.declared.level.Level.{Level}
use Rattle.query_parameters.specs.declared.level.Level.TheVariants as level
use Rattle.query_parameters.specs.declared.order.EventOrder.{EventOrder}
use Rattle.query_parameters.specs.declared.order.EventOrder.TheVariants as order
use Rattle.query_parameters.specs.declared.rows.ValueKind.{ValueKind}
use Rattle.query_parameters.specs.declared.rows.ValueKind.TheVariants as kind

-- the quality that a letter asks for: B, any, and each other its own
abbrev pub asked_of : ℕ → Option (Option Quality)
asked_of letter =
    if letter == 66 then Some None
    else (if letter == 68 then Some (Some D)
    else (if letter == 82 then Some (Some R)
    else (if letter == 81 then Some (Some Q)
    else (if letter == 77 then Some (Some M) else None))))

-- the quality that a text asks for
abbrev pub quality_of : Text → Option (Option Quality)
quality_of (letter ∷ []) = asked_of letter
quality_of _ = None

-- what a text says of an answer without data, by its HTTP status
abbrev pub nodata_of : Text → Option Nodata
nodata_of text =
    if bytes_eq text (codes "204") then Some Quiet
    else (if bytes_eq text (codes "404") then Some NotFound else None)

-- true or false, without regard to case
abbrev pub flag_of : Text → Option Bool
flag_of text =
    if same_name text (codes "true") || bytes_eq text (codes "1") then Some true
    else (if same_name text (codes "false") || bytes_eq text (codes "0") then Some false else None)

-- a decimal from 0 to 10^10, counted in millionths
pub record IsMinimum (text : Text) (micros : ℕ) : Type 0 where
  pub decimal : IsDecimal text (pos micros)
  pub small : micros ≤ 10_000_000_000_000_000

-- what an answer has a line for; `response` is left out
abbrev pub level_of : Text → Option Level
level_of text =
    if bytes_eq text (codes "station") then Some level.Station
    else (if bytes_eq text (codes "network") then Some level.Network
    else (if bytes_eq text (codes "channel") then Some level.Channel else None))

-- a decimal of degrees, counted in millionths, from -most to most
pub record IsDegrees (most : ℕ) (text : Text) (millionths : ℤ) : Type 0 where
  pub decimal : IsDecimal text millionths
  pub within : unsigned_abs millionths ≤ most

-- how many millionths of a degree a place has at most
abbrev pub most_latitude : ℕ
most_latitude = 90_000_000

abbrev pub most_longitude : ℕ
most_longitude = 180_000_000

-- a whole number from 1
pub record IsCount (text : Text) (n : ℕ) : Type 0 where
  pub whole : whole_of text ≡ Some n
  pub some : 1 ≤ n

-- a whole number from 1 to 10^18
pub record IsEntryNumber (text : Text) (n : ℕ) : Type 0 where
  pub count : IsCount text n
  pub small : n ≤ 1_000_000_000_000_000_000

-- the order of the events of an answer
abbrev pub event_order_of : Text → Option EventOrder
event_order_of text =
    if bytes_eq text (codes "time") then Some order.TimeDown
    else (if bytes_eq text (codes "time-asc") then Some order.TimeUp
    else (if bytes_eq text (codes "magnitude") then Some order.MagnitudeDown
    else (if bytes_eq text (codes "magnitude-asc") then Some order.MagnitudeUp else None)))

-- the text is a value of that kind
abbrev pub CanRead : ValueKind → Text → Type 0
CanRead kind.Time text = (micros : ℤ) × IsMoment text micros
CanRead (kind.Patterns part) text = (list : List Text) × IsPatternList part text list
CanRead kind.Nodata text = (nodata : Nodata) × (nodata_of text ≡ Some nodata)
CanRead kind.Quality text = (quality : Option Quality) × (quality_of text ≡ Some quality)
CanRead kind.Seconds text = (micros : ℕ) × IsMinimum text micros
CanRead kind.Flag text = (flag : Bool) × (flag_of text ≡ Some flag)
CanRead kind.Format text = text ≡ codes "miniseed"
CanRead kind.Decimal text = (millionths : ℤ) × IsDecimal text millionths
CanRead kind.Count text = (n : ℕ) × IsCount text n
CanRead kind.EntryNumber text = (n : ℕ) × IsEntryNumber text n
CanRead kind.Text text = ⊤
CanRead kind.EventOrder text = (order : EventOrder) × (event_order_of text ≡ Some order)
CanRead kind.Qualities text = (set : QualitySet) × (qualities_of text ≡ Some set)
CanRead kind.Merges text = (merges : Merges) × (merges_of text ≡ Some merges)
CanRead kind.SpansOrder text = (order : AvailOrder) × (spans_order_of text ≡ Some order)
CanRead kind.ExtentOrder text = (order : AvailOrder) × (extent_order_of text ≡ Some order)
CanRead kind.AvailForm text = (form : AvailForm) × (avail_form_of text ≡ Some form)
CanRead kind.Latitude text = (millionths : ℤ) × IsDegrees most_latitude text millionths
CanRead kind.Longitude text = (millionths : ℤ) × IsDegrees most_longitude text millionths
CanRead kind.Level text = (level : Level) × (level_of text ≡ Some level)
CanRead kind.TextForm text = text ≡ codes "text"
CanRead kind.Always text = flag_of text ≡ Some true
CanRead kind.Never text = flag_of text ≡ Some false
CanRead kind.LeftOut text = ⊥

-- the text has the character that stands for what isn't UTF-8, U+FFFD
abbrev pub is_garbled : Text → Bool
is_garbled text = list_any (λ c. c == 0xFFFD) (chars text)

-- the text is a value of that kind, in UTF-8
pub record Reads (kind : ValueKind) (text : Text) : Type 0 where
  pub plain : is_garbled text ≡ false
  pub can : CanRead kind text

-- the text is a value that this data centre leaves out, or stands under a name that it leaves out
abbrev pub IsLeftOut : ValueKind → Text → Type 0
IsLeftOut kind.Level text = text ≡ codes "response"
IsLeftOut kind.TextForm text = text ≡ codes "xml"
IsLeftOut kind.Always text = flag_of text ≡ Some false
IsLeftOut kind.Never text = flag_of text ≡ Some true
IsLeftOut kind.AvailForm text = IsTrue (is_form_left_out text)
IsLeftOut kind.LeftOut text = ⊤
IsLeftOut _ text = ⊥
