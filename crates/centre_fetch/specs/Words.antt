-- What the words of `fetch` ask for. They are read as those of `select`.
use Rattle.std.specs.Prelude.{◌≡◌, ℕ, List, [], ◌∷◌, Some, codes, Result, Ok, Err, ⊤}
use Rattle.dataselect.specs.declared.query.DataQuery.{DataQuery}
use Rattle.dataselect.specs.declared.query.Selection.{Selection}
use Rattle.command_words.specs.Commands.{SelectWords, FetchWords}
use Rattle.centre_select.specs.Words.{IsSelectQuery, RefusesSelectWords}
use Rattle.centre_select.specs.declared.ending.SelectRefusal.TheVariants as select
use Rattle.split_fetch.specs.declared.asked.Codes.{Codes}
use Rattle.split_fetch.specs.declared.window.Window.{Window}
use Rattle.centre_fetch.specs.declared.ending.FetchRefusal.{FetchRefusal}
use Rattle.centre_fetch.specs.declared.ending.FetchRefusal.TheVariants.{Value, Order}
use Rattle.centre_fetch.specs.declared.ending.FetchStop.{FetchStop}
use Rattle.centre_fetch.specs.declared.ending.FetchStop.TheVariants.{Refused, OutOfMemory}

-- the words of `select` with the same positions and no option
abbrev pub as_select : FetchWords → SelectWords
as_select w = record {
  network = w.network;
  station = w.station;
  location = w.location;
  channel = w.channel;
  start = w.start;
  end = w.end;
  quality = codes "B";
  minimum = codes "0";
  longest = codes "false";
  limit = 268_435_456;
}

-- the codes are asked for as the words spell them
abbrev pub codes_of : FetchWords → Codes
codes_of w = record { network = w.network; station = w.station; location = w.location; channel = w.channel }

-- the query has one selection, with this window
pub record IsWindowOf (query : DataQuery) (window : Window) : Type 0 where
  pub selection : Selection
  pub only : query.selections ≡ selection ∷ []
  pub start_is : selection.start ≡ Some window.start
  pub end_is : selection.end ≡ Some window.end

-- the words spell a query of `select`, whose window is from the moment of START to that of END
pub record IsAsked (w : FetchWords) (window : Window) : Type 0 where
  pub query : DataQuery
  pub spelt : IsSelectQuery (as_select w) query
  pub window_is : IsWindowOf query window

-- why the words are refused: as those of `select` are
abbrev pub RefusesFetchWords : FetchWords → FetchRefusal → Type 0
RefusesFetchWords w (Value word) = RefusesSelectWords (as_select w) (select.Value word)
RefusesFetchWords w Order = RefusesSelectWords (as_select w) select.Order
RefusesFetchWords w _ = ⊥

-- the words are refused, and this is the answer
abbrev pub IsWordsAnswer : FetchWords → Result (List ℕ) FetchRefusal → Type 0
IsWordsAnswer w (Ok body) = ⊥
IsWordsAnswer w (Err refusal) = RefusesFetchWords w refusal

-- why no window was read; want of memory is free
abbrev pub StopsWith : (FetchRefusal → Type 0) → FetchStop → Type 0
StopsWith Why (Refused refusal) = Why refusal
StopsWith Why OutOfMemory = ⊤
StopsWith Why _ = ⊥
