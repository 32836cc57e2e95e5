-- What is counted of a history, and how it is told.
use Rattle.std.specs.Prelude.{ℕ, Bool, true, List, [], ◌∷◌, ◌++◌, length, None, false, codes, decimal}
use Rattle.std.specs.List.{flat_map}
use Rattle.mseed_header.specs.Records.{images_of}
use Rattle.mseed_header.specs.declared.row.Row.{Row}
use Rattle.dataselect.specs.DataBody.{data_body}
use Rattle.dataselect.specs.HeldNames.{names_of}
use Rattle.dataselect.specs.MergedSpans.{SpanValue, merged_spans_of}
use Rattle.dataselect.specs.declared.query.DataQuery.{DataQuery}
use Rattle.dataselect.specs.declared.query.Nodata.TheVariants.{Quiet}
use Rattle.dataselect.specs.declared.query.Selection.{Selection}
use Rattle.archive_entry.specs.declared.entry.Entry.{Entry}
use Rattle.archive_state.specs.History.{held_of}
use Rattle.centre_drill.specs.declared.figures.Figures.{Figures}

-- a network and a station by their patterns, with all their channels, at all times
abbrev pub selection_of : (network station : List ℕ) → Selection
selection_of network station = record {
  network = network ∷ [];
  station = station ∷ [];
  location = codes "*" ∷ [];
  channel = codes "*" ∷ [];
  start = None;
  end = None;
}

-- the dataselect query `net=XX&sta=S0`
abbrev pub one_station : DataQuery
one_station = record {
  selections = selection_of (codes "XX") (codes "S0") ∷ [];
  quality = None;
  minimum = 0;
  longest = false;
  nodata = Quiet;
}

-- every row is seen
abbrev pub all_seen : Row → Bool
all_seen row = true

-- the merged spans of all names
abbrev pub spans_of : List Row → List SpanValue
spans_of rows = flat_map (λ name. merged_spans_of name rows) (names_of (selection_of (codes "*") (codes "*")) rows)

-- The entries; some records, and their bytes; their merged spans; and the bytes that the query for the network XX and the
-- station S0 answers.
abbrev pub figures_with : List Entry → List Row → Figures
figures_with h rows = record {
  entries = length h;
  records = length rows;
  bytes = length (images_of rows);
  spans = length (spans_of rows);
  selected = length (data_body all_seen one_station rows);
}

-- those of the records that are held
abbrev pub figures_of : List Entry → Figures
figures_of h = figures_with h (held_of h)

-- each on a line
abbrev pub line_of : List ℕ → ℕ → List ℕ
line_of name number = name ++ (codes " " ++ (decimal number ++ codes "\n"))

abbrev pub figures_text : Figures → List ℕ
figures_text f =
    line_of (codes "entries") f.entries
    ++ (line_of (codes "records") f.records
    ++ (line_of (codes "bytes") f.bytes ++ (line_of (codes "spans") f.spans ++ line_of (codes "selected") f.selected)))
