-- Windows that adjoin.
use Rattle.std.specs.Prelude.{◌≡◌, ℤ, pos, ◌+ℤ◌, ◌≤ℤ◌, List, [], ◌∷◌, map, Some, ⊤}
use Rattle.dataselect.specs.declared.query.DataQuery.{DataQuery}
use Rattle.dataselect.specs.declared.query.Selection.{Selection}
use Rattle.split_fetch.specs.declared.answer.WindowAnswer.{WindowAnswer}
use Rattle.split_fetch.specs.declared.window.Window.{Window}

abbrev pub windows_of : List WindowAnswer → List Window
windows_of answers = map (λ answer. answer.window) answers

-- a window doesn't end before it begins
abbrev pub IsWindow : Window → Type 0
IsWindow w = w.start.micros ≤ℤ w.end.micros

-- the second begins one microsecond after the first ends
abbrev pub IsNext : Window → Window → Type 0
IsNext first second = second.start.micros ≡ first.end.micros +ℤ pos 1

-- each window begins one microsecond after the one before it ends, and none ends before it begins
abbrev pub Adjoin : List Window → Type 0
Adjoin [] = ⊤
Adjoin (w ∷ []) = IsWindow w
Adjoin (w ∷ v ∷ windows) = IsWindow w × IsNext w v × Adjoin (v ∷ windows)

-- windows that adjoin and together are all the time from one moment to another, both in it
abbrev pub Make : ℤ → ℤ → List Window → Type 0
Make from to [] = from ≡ to +ℤ pos 1
Make from to (w ∷ windows) = (w.start.micros ≡ from) × (from ≤ℤ w.end.micros) × Make (w.end.micros +ℤ pos 1) to windows

-- the selection in this window alone
abbrev pub selection_in : Window → Selection → Selection
selection_in w s = record {
  network = s.network;
  station = s.station;
  location = s.location;
  channel = s.channel;
  start = Some w.start;
  end = Some w.end;
}

-- the query in this window alone
abbrev pub in_window : Window → DataQuery → DataQuery
in_window w q = record {
  selections = map (selection_in w) q.selections;
  quality = q.quality;
  minimum = q.minimum;
  longest = q.longest;
  nodata = q.nodata;
}
