-- The time and the place of an epoch against those that are asked for.
use Rattle.std.specs.Prelude.{ℕ, zero, suc, ℤ, pos, Bool, true, false, ◌&&◌, List, [], ◌∷◌, Option, Some, None, int_lt, int_le}
use Rattle.dataselect.specs.Query.{holds}
use Rattle.dataselect.specs.declared.query.Selection.{Selection}
use Rattle.query_parameters.specs.declared.area.Area.{Area}
use Rattle.query_parameters.specs.Places.{is_place_in}
use Rattle.query_words.specs.declared.station.StationQuery.{StationQuery}
use Rattle.epochs.specs.Fields.{Value, number}
use Rattle.epochs.specs.Lines.{LineValues, end_of}
use Rattle.epoch_rules.specs.Rules.{epoch_start}

-- an end is at a moment or after it, before it, after it; an absent end is after every moment
abbrev pub ends_from : ℤ → Option ℤ → Bool
ends_from moment None = true
ends_from moment (Some stop) = int_le moment stop

abbrev pub ends_before : ℤ → Option ℤ → Bool
ends_before moment None = false
ends_before moment (Some stop) = int_lt stop moment

abbrev pub ends_after : ℤ → Option ℤ → Bool
ends_after moment None = true
ends_after moment (Some stop) = int_lt moment stop

-- an epoch meets the window of a selection: it starts at the window's end or before, and ends at the
-- window's start or after
abbrev pub meets : Selection → ℤ → Option ℤ → Bool
meets s start stop =
    holds (λ t. int_le start t.micros) s.end && holds (λ t. ends_from t.micros stop) s.start

-- it passes the four comparisons of the query, each of which is strict
abbrev pub passes_comparisons : StationQuery → ℤ → Option ℤ → Bool
passes_comparisons q start stop =
    holds (λ t. int_lt start t.micros) q.start_before && holds (λ t. int_lt t.micros start) q.start_after
    && holds (λ t. ends_before t.micros stop) q.end_before && holds (λ t. ends_after t.micros stop) q.end_after

-- the epoch of a line
abbrev pub line_meets : Selection → LineValues → Bool
line_meets s e = meets s (epoch_start e) (end_of e.values)

abbrev pub line_passes : StationQuery → LineValues → Bool
line_passes q e = passes_comparisons q (epoch_start e) (end_of e.values)

-- the numbers among the values of a line: of a station or a channel latitude and longitude come first
abbrev pub numbers_in : List Value → List ℤ
numbers_in [] = []
numbers_in (number n ∷ values) = n ∷ numbers_in values
numbers_in (_ ∷ values) = numbers_in values

abbrev pub number_among : ℕ → List ℤ → ℤ
number_among n [] = pos 0
number_among zero (x ∷ xs) = x
number_among (suc n) (x ∷ xs) = number_among n xs

-- the place of a line is in the area
abbrev pub is_in_area : Area → LineValues → Bool
is_in_area area e = is_place_in area (number_among 0 (numbers_in e.values)) (number_among 1 (numbers_in e.values))
