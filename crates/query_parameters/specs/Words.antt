-- A value that was read.
use Rattle.std.specs.Prelude.{◌≡◌, ℕ, ◌<◌, Bool, true, false, List, [], ◌++◌, length, get_or, set, codes, Option, Some, None, ⊤}
use Rattle.std.specs.Option.{is_some}
use Rattle.exact_time.specs.MomentText.{IsMoment}
use Rattle.channel_globs.specs.PatternText.{IsPatternList}
use Rattle.channel_globs.specs.declared.patterns.GlobFault.{GlobFault}
use Rattle.channel_globs.specs.declared.patterns.GlobFault.TheVariants as glob
use Rattle.query_parameters.specs.FirstRefusals.{AreTaken, IsFirstRefusal}
use Rattle.query_parameters.specs.Listed.{qualities_of, merges_of, spans_order_of, extent_order_of, avail_form_of}
use Rattle.query_parameters.specs.declared.avail.AvailForm.{AvailForm}
use Rattle.query_parameters.specs.declared.avail.AvailOrder.{AvailOrder}
use Rattle.query_parameters.specs.declared.avail.Merges.{Merges}
use Rattle.query_parameters.specs.declared.avail.QualitySet.{QualitySet}
use Rattle.query_parameters.specs.Parameters.{Parameter, given, TakesParameter, RefusesParameter}
use Rattle.query_parameters.specs.Rows.{Text, Named, place_of_name, kind_of}
use Rattle.query_parameters.specs.Values.{nodata_of, quality_of, flag_of, level_of, event_order_of, IsMinimum, IsDegrees, IsCount, IsEntryNumber, most_latitude, most_longitude, is_garbled, CanRead, Reads, IsLeftOut}
use Rattle.query_parameters.specs.declared.level.Level.{Level}
use Rattle.query_parameters.specs.declared.order.EventOrder.{EventOrder}
use Rattle.dataselect.specs.declared.query.Nodata.{Nodata}
use Rattle.mseed_header.specs.declared.quality.Quality.{Quality}
use Rattle.exact_time.specs.declared.decimal.Decimal.{Decimal}
use Rattle.exact_time.specs.declared.moment.Moment.{Moment}
use Rattle.exact_time.specs.Decimals.{IsDecimal}
use Rattle.query_parameters.specs.declared.fault.QueryFault.{QueryFault}
use Rattle.query_parameters.specs.declared.fault.QueryFault.TheVariants as query
use Rattle.query_parameters.specs.declared.rows.ValueKind.{ValueKind}
use Rattle.query_parameters.specs.declared.rows.ValueKind.TheVariants as kind
use Rattle.query_parameters.specs.declared.words.ParameterValue.{ParameterValue}
use Rattle.query_parameters.specs.declared.words.ParameterValue.TheVariants as word
use Rattle.query_parameters.specs.declared.words.ValueFault.{ValueFault}
use Rattle.query_parameters.specs.declared.words.ValueFault.TheVariants as fault

-- the text is this value of that kind
abbrev pub IsParameterValue : ValueKind → Text → ParameterValue → Type 0
IsParameterValue kind.Time text w = (moment : Moment) × (w ≡ word.Time moment) × IsMoment text moment.micros
IsParameterValue (kind.Patterns part) text w = (list : List Text) × (w ≡ word.Patterns list) × IsPatternList part text list
IsParameterValue kind.Nodata text w = (nodata : Nodata) × (w ≡ word.Nodata nodata) × (nodata_of text ≡ Some nodata)
IsParameterValue kind.Quality text w = (quality : Option Quality) × (w ≡ word.Quality quality) × (quality_of text ≡ Some quality)
IsParameterValue kind.Seconds text w = (micros : ℕ) × (w ≡ word.Micros micros) × IsMinimum text micros
IsParameterValue kind.Flag text w = (flag : Bool) × (w ≡ word.Flag flag) × (flag_of text ≡ Some flag)
IsParameterValue kind.Level text w = (level : Level) × (w ≡ word.Level level) × (level_of text ≡ Some level)
IsParameterValue kind.Decimal text w = (number : Decimal) × (w ≡ word.Number number) × IsDecimal text number.millionths
IsParameterValue kind.Latitude text w = (number : Decimal) × (w ≡ word.Number number) × IsDegrees most_latitude text number.millionths
IsParameterValue kind.Longitude text w = (number : Decimal) × (w ≡ word.Number number) × IsDegrees most_longitude text number.millionths
IsParameterValue kind.Count text w = (n : ℕ) × (w ≡ word.Whole n) × IsCount text n
IsParameterValue kind.EntryNumber text w = (n : ℕ) × (w ≡ word.Whole n) × IsEntryNumber text n
IsParameterValue kind.Text text w = w ≡ word.Text text
IsParameterValue kind.EventOrder text w = (order : EventOrder) × (w ≡ word.EventOrder order) × (event_order_of text ≡ Some order)
IsParameterValue kind.Qualities text w = (set : QualitySet) × (w ≡ word.Qualities set) × (qualities_of text ≡ Some set)
IsParameterValue kind.Merges text w = (merges : Merges) × (w ≡ word.Merges merges) × (merges_of text ≡ Some merges)
IsParameterValue kind.SpansOrder text w = (order : AvailOrder) × (w ≡ word.AvailOrder order) × (spans_order_of text ≡ Some order)
IsParameterValue kind.ExtentOrder text w = (order : AvailOrder) × (w ≡ word.AvailOrder order) × (extent_order_of text ≡ Some order)
IsParameterValue kind.AvailForm text w = (form : AvailForm) × (w ≡ word.AvailForm form) × (avail_form_of text ≡ Some form)
IsParameterValue kind.Format text w = (w ≡ word.Nothing) × (text ≡ codes "miniseed")
IsParameterValue kind.TextForm text w = (w ≡ word.Nothing) × (text ≡ codes "text")
IsParameterValue kind.Always text w = (w ≡ word.Nothing) × (flag_of text ≡ Some true)
IsParameterValue kind.Never text w = (w ≡ word.Nothing) × (flag_of text ≡ Some false)
IsParameterValue kind.LeftOut text w = ⊥

-- the text is this value of that kind, in UTF-8
pub record ReadsValue (k : ValueKind) (text : Text) (w : ParameterValue) : Type 0 where
  pub plain : is_garbled text ≡ false
  pub is_word : IsParameterValue k text w

-- the kinds of options
abbrev pub IsOption : ValueKind → Type 0
IsOption kind.Nodata = ⊤
IsOption kind.Quality = ⊤
IsOption kind.Seconds = ⊤
IsOption kind.Flag = ⊤
IsOption _ = ⊥

-- the kinds of which one value is taken alone
abbrev pub IsFixed : ValueKind → Type 0
IsFixed kind.Format = ⊤
IsFixed kind.TextForm = ⊤
IsFixed kind.Always = ⊤
IsFixed kind.Never = ⊤
IsFixed _ = ⊥

-- the kinds of whole numbers
abbrev pub IsWhole : ValueKind → Type 0
IsWhole kind.Count = ⊤
IsWhole kind.EntryNumber = ⊤
IsWhole _ = ⊥

-- why bytes are no value; want of memory is free
abbrev pub CannotRead : ValueKind → Text → ValueFault → Type 0
CannotRead k text fault.OutOfScope = ⊥
CannotRead k text fault.Value = ¬ (CanRead k text)
CannotRead k text fault.OutOfMemory = ⊤

-- why no value was read; want of memory is free
abbrev pub RefusesValue : ValueKind → Text → ValueFault → Type 0
RefusesValue k text fault.OutOfScope = IsLeftOut k text
RefusesValue k text fault.Value = (¬ (IsLeftOut k text)) × (¬ (Reads k text))
RefusesValue k text fault.OutOfMemory = ⊤

-- the word that stands for what is given under a name
abbrev pub IsHeld : ValueKind → Option Text → Option ParameterValue → Type 0
IsHeld k None held = held ≡ None
IsHeld k (Some text) held = (w : ParameterValue) × (held ≡ Some w) × IsParameterValue k text w

-- one word for each row: that of what the parameters say under its name
pub record AreHeld (rows : List Named) (ps : List Parameter) (words : List (Option ParameterValue)) : Type 0 where
  pub size : length words ≡ length rows
  pub each : (row : ℕ) → row < length rows → IsHeld (kind_of rows row) (given rows row ps) (get_or words row None)

-- the parameters so far are right, and these are their words
pub record HasReadParameters (rows : List Named) (all done rest : List Parameter) (words : List (Option ParameterValue)) : Type 0 where
  pub split : all ≡ done ++ rest
  pub taken : AreTaken (TakesParameter rows) [] done
  pub held : AreHeld rows done words

-- a parameter's name has no word yet, and its word is put there
pub record PutsValue (rows : List Named) (name value : Text) (words more : List (Option ParameterValue)) : Type 0 where
  pub row : ℕ
  pub names : place_of_name rows name ≡ Some row
  pub free : get_or words row None ≡ None
  pub w : ParameterValue
  pub reads : Reads (kind_of rows row) value
  pub is_word : IsParameterValue (kind_of rows row) value w
  pub put : more ≡ set words row (Some w)

-- why a parameter's word isn't put; want of memory is free
abbrev pub RefusesPut : List Named → ℕ → Text → Text → List (Option ParameterValue) → QueryFault → Type 0
RefusesPut rows number name value words (query.Unknown n) = (n ≡ number) × (place_of_name rows name ≡ None)
RefusesPut rows number name value words (query.Repeated n) =
    (n ≡ number) × ((row : ℕ) × (place_of_name rows name ≡ Some row) × (is_some (get_or words row None) ≡ true))
RefusesPut rows number name value words (query.OutOfScope n) =
    (n ≡ number) × ((row : ℕ) × (place_of_name rows name ≡ Some row) × (get_or words row None ≡ None) × IsLeftOut (kind_of rows row) value)
RefusesPut rows number name value words (query.Value n) =
    (n ≡ number) × ((row : ℕ) × (place_of_name rows name ≡ Some row) × (get_or words row None ≡ None)
    × (¬ (IsLeftOut (kind_of rows row) value)) × (¬ (Reads (kind_of rows row) value)))
RefusesPut rows number name value words query.OutOfMemory = ⊤
RefusesPut rows number name value words _ = ⊥

-- why the words of a query string weren't read; want of memory is free
abbrev pub RefusesParameters : List Named → List Parameter → QueryFault → Type 0
RefusesParameters rows ps query.OutOfMemory = ⊤
RefusesParameters rows ps fault = IsFirstRefusal (TakesParameter rows) (RefusesParameter rows) ps fault

-- how a fault of a pattern list is a fault of a value
abbrev pub list_fault : GlobFault → ValueFault
list_fault glob.OutOfMemory = fault.OutOfMemory
list_fault glob.TooMany = fault.Value
list_fault glob.Character = fault.Value
list_fault glob.Length = fault.Value
