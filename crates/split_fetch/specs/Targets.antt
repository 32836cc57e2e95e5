-- How a query for one window is written (FDSN Web Service Specifications 1.2, dataselect).
use Rattle.std.specs.Prelude.{ℕ, List, [], ◌∷◌, ◌++◌, codes, false, None}
use Rattle.exact_time.specs.Written.{IsNameable, moment_text}
use Rattle.channel_globs.specs.PatternText.{IsPatternList}
use Rattle.channel_globs.specs.declared.nslc.Part.{Part}
use Rattle.channel_globs.specs.declared.nslc.Part.TheVariants.{Network, Station, Location, Channel}
use Rattle.dataselect.specs.declared.query.DataQuery.{DataQuery}
use Rattle.dataselect.specs.declared.query.Nodata.TheVariants.{Quiet}
use Rattle.dataselect.specs.declared.query.Selection.{Selection}
use Rattle.form_urlencoded.specs.Form.{extend_pairs, split_once}
use Rattle.split_fetch.specs.Windows.{IsWindow, selection_in}
use Rattle.split_fetch.specs.declared.asked.Codes.{Codes}
use Rattle.split_fetch.specs.declared.window.Window.{Window}

-- the names and the values of the codes
abbrev pub code_pairs : Codes → List (List ℕ × List ℕ)
code_pairs c =
    (codes "net", c.network) ∷ (codes "sta", c.station) ∷ (codes "loc", c.location) ∷ (codes "cha", c.channel) ∷ []

-- the names and the values of the times
abbrev pub time_pairs : Window → List (List ℕ × List ℕ)
time_pairs w = (codes "start", moment_text w.start.micros) ∷ (codes "end", moment_text w.end.micros) ∷ []

-- the path of the method and a question mark, and the codes and the times as a form has them
abbrev pub target_bytes : Codes → Window → List ℕ
target_bytes c w = codes "/fdsnws/dataselect/1/query?" ++ extend_pairs [] (code_pairs c ++ time_pairs w)

abbrev pub question_mark : ℕ
question_mark = 63

-- what stands behind the first question mark of a target
abbrev pub query_in : List ℕ → List ℕ
query_in target = (split_once question_mark target).1

-- a text is a list of patterns
abbrev pub IsList : Part → List ℕ → Type 0
IsList part text = (patterns : List (List ℕ)) × IsPatternList part text patterns

-- each code is a list of patterns
pub record AreLists (c : Codes) : Type 0 where
  pub network_is : IsList Network c.network
  pub station_is : IsList Station c.station
  pub location_is : IsList Location c.location
  pub channel_is : IsList Channel c.channel

-- the codes are lists of the patterns of this selection
pub record AreSpelt (c : Codes) (s : Selection) : Type 0 where
  pub network_is : IsPatternList Network c.network s.network
  pub station_is : IsPatternList Station c.station s.station
  pub location_is : IsPatternList Location c.location s.location
  pub channel_is : IsPatternList Channel c.channel s.channel

-- the window doesn't end before it begins, and lies in the years 1900 to 2599
pub record CanBeAsked (w : Window) : Type 0 where
  pub forward : IsWindow w
  pub start : IsNameable w.start.micros
  pub end : IsNameable w.end.micros

-- the query for these patterns in this window alone, and for nothing else that isn't the default
abbrev pub window_query : Selection → Window → DataQuery
window_query s w = record { selections = selection_in w s ∷ []; quality = None; minimum = 0; longest = false; nodata = Quiet }
