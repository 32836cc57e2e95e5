-- The lines of a body, and how they are taken (FDSN Web Service Specifications 1.2, dataselect, POST).
use Rattle.std.specs.Prelude.{◌≡◌, ℕ, ◌+◌, ◌==◌, ◌||◌, IsTrue, Bool, List, [], ◌∷◌, map, filter, take, drop, Option, Some, None, if◌then◌else◌, codes, ⊤}
use Rattle.std.specs.List.{list_all, list_any, prefix_len, slice_split}
use Rattle.std.specs.Str.{bytes_eq, IsAscii, IsNotAscii}
use Rattle.std.specs.Str.Lines.{lines}
use Rattle.form_urlencoded.specs.Form.{split_pair, is_nonempty}
use Rattle.exact_time.specs.declared.moment.Moment.{Moment}
use Rattle.channel_globs.specs.PatternText.{without_spaces, space, IsPatternList}
use Rattle.channel_globs.specs.declared.nslc.Part.TheVariants.{Network, Station, Location, Channel}
use Rattle.dataselect.specs.declared.query.Selection.{Selection}
use Rattle.query_parameters.specs.Gets.{IsLimit, IsWindowInOrder}
use Rattle.query_parameters.specs.Parameters.{Parameter, parameter, TakesParameter, RefusesParameter}
use Rattle.query_parameters.specs.Rows.{Text, Named}
use Rattle.query_parameters.specs.declared.fault.QueryFault.{QueryFault}
use Rattle.query_parameters.specs.declared.fault.QueryFault.TheVariants.{Unknown, Repeated, OutOfScope, Value, Line}
use Rattle.query_parameters.specs.declared.lines.BodyLine.{BodyLine}

abbrev pub tab : ℕ
tab = 9

abbrev pub equals_sign : ℕ
equals_sign = 61

-- a space or a tab
abbrev pub is_gap : ℕ → Bool
is_gap byte = byte == space || byte == tab

-- there is nothing but spaces and tabs
abbrev pub is_blank_line : Text → Bool
is_blank_line text = list_all is_gap text

abbrev pub has_equals : Text → Bool
has_equals text = list_any (λ byte. byte == equals_sign) text

-- a line of a body, and its number
pub record Numbered : Type 0 where
  pub number : ℕ
  pub text : Text

abbrev pub numbered : ℕ → Text → Numbered
numbered number text = record { number = number; text = text }

-- a line, without where it lies in memory
abbrev pub numbered_line : BodyLine → Numbered
numbered_line line = numbered line.number line.text.now

-- the lines that aren't blank, with numbers from this one on
abbrev pub lines_from : ℕ → List Text → List Numbered
lines_from number [] = []
lines_from number (text ∷ texts) =
    if is_blank_line text then lines_from (number + 1) texts
    else numbered number text ∷ lines_from (number + 1) texts

-- the lines of a body that aren't blank, numbered from 1
abbrev pub lines_of : Text → List Numbered
lines_of body = lines_from 1 (lines body)

-- how many lines stand before the first without `=`
abbrev pub front_count : List Numbered → ℕ
front_count ls = prefix_len (λ l. has_equals l.text) ls

-- the parameter lines: those with `=` before the first line without
abbrev pub parameter_lines : Text → List Numbered
parameter_lines body = take (front_count (lines_of body)) (lines_of body)

-- the first selection line, and all behind it
abbrev pub selection_lines : Text → List Numbered
selection_lines body = drop (front_count (lines_of body)) (lines_of body)

-- the parameter of a line: the texts on the two sides of its first `=`, without the spaces round them
abbrev pub parameter_of : Numbered → Parameter
parameter_of l =
    parameter l.number (without_spaces (split_pair l.text).0, without_spaces (split_pair l.text).1)

abbrev pub parameters_in : List Numbered → List Parameter
parameters_in ls = map parameter_of ls

-- a parameter line is right: it is ASCII, and so is its parameter behind those before it
pub record TakesLine (rows : List Named) (before : List Numbered) (l : Numbered) : Type 0 where
  pub ascii : IsAscii l.text
  pub takes : TakesParameter rows (parameters_in before) (parameter_of l)

-- why a parameter line is wrong: a byte outside ASCII, tested first, or its parameter
abbrev pub RefusesLine : List Named → List Numbered → Numbered → QueryFault → Type 0
RefusesLine rows before l (Line number) = (number ≡ l.number) × IsNotAscii l.text
RefusesLine rows before l (Unknown number) = IsAscii l.text × RefusesParameter rows (parameters_in before) (parameter_of l) (Unknown number)
RefusesLine rows before l (Repeated number) = IsAscii l.text × RefusesParameter rows (parameters_in before) (parameter_of l) (Repeated number)
RefusesLine rows before l (OutOfScope number) = IsAscii l.text × RefusesParameter rows (parameters_in before) (parameter_of l) (OutOfScope number)
RefusesLine rows before l (Value number) = IsAscii l.text × RefusesParameter rows (parameters_in before) (parameter_of l) (Value number)
RefusesLine rows before l _ = ⊥

-- the fields of a line, between runs of spaces and tabs
abbrev pub selection_fields : Text → List Text
selection_fields text = filter is_nonempty (slice_split is_gap text)

-- a limit of a selection line; `*` is none
abbrev pub limit_text : Text → Option Text
limit_text text = if bytes_eq text (codes "*") then None else Some text

-- the six fields of a selection line
pub record Fields : Type 0 where
  pub network : Text
  pub station : Text
  pub location : Text
  pub channel : Text
  pub start : Text
  pub end : Text

-- the four codes are those of the fields
pub record AreCodeFields (f : Fields) (s : Selection) : Type 0 where
  pub network_is : IsPatternList Network f.network s.network
  pub station_is : IsPatternList Station f.station s.station
  pub location_is : IsPatternList Location f.location s.location
  pub channel_is : IsPatternList Channel f.channel s.channel

-- the window is that of the fields, and its end isn't before its start
pub record IsWindow (f : Fields) (start end : Option Moment) : Type 0 where
  pub start_is : IsLimit (limit_text f.start) start
  pub end_is : IsLimit (limit_text f.end) end
  pub in_time : IsWindowInOrder start end

-- the fields spell this selection
pub record AreFields (f : Fields) (s : Selection) : Type 0 where
  pub code_fields : AreCodeFields f s
  pub window : IsWindow f s.start s.end

-- these are the six fields
abbrev pub AreSix : List Text → Fields → Type 0
AreSix fields f = fields ≡ f.network ∷ f.station ∷ f.location ∷ f.channel ∷ f.start ∷ f.end ∷ []

-- a selection line spells this selection
pub record IsSelection (text : Text) (s : Selection) : Type 0 where
  pub ascii : IsAscii text
  pub no_equals : ¬ (IsTrue (has_equals text))
  pub fields : Fields
  pub fields_are : AreSix (selection_fields text) fields
  pub spells : AreFields fields s

-- a selection line is right, whatever those before it are
abbrev pub TakesSelection : List Numbered → Numbered → Type 0
TakesSelection before l = (s : Selection) × IsSelection l.text s

-- and else it is wrong
abbrev pub RefusesSelection : List Numbered → Numbered → QueryFault → Type 0
RefusesSelection before l (Line number) = (number ≡ l.number) × ((s : Selection) → ¬ (IsSelection l.text s))
RefusesSelection before l _ = ⊥

-- each line spells its selection
abbrev pub AreSelections : List Numbered → List Selection → Type 0
AreSelections [] [] = ⊤
AreSelections (l ∷ ls) (s ∷ ss) = IsSelection l.text s × AreSelections ls ss
AreSelections [] (s ∷ ss) = ⊥
AreSelections (l ∷ ls) [] = ⊥
