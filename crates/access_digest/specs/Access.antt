-- Who may have which rows: restrictions hide rows, grants give them back to users, and withdrawals take them from all.
use Rattle.std.specs.Prelude.{ℕ, ℤ, nat_le, Bool, false, not, ◌&&◌, ◌||◌, List, [], ◌∷◌, filter, Option, Some, None, int_le}
use Rattle.std.specs.List.{list_any}
use Rattle.std.specs.Ordering.{is_le}
use Rattle.exact_time.specs.SampleTime.{compare_sample}
use Rattle.channel_globs.specs.Matching.{is_match_any}
use Rattle.channel_globs.specs.declared.nslc.Nslc.{Nslc}
use Rattle.epochs.specs.declared.kinds.LineKind.TheVariants.{Rst, Wdr}
use Rattle.epochs.specs.Kinds.{Text}
use Rattle.epochs.specs.Fields.{Value, patterns, entry_number}
use Rattle.epochs.specs.Lines.{LineValues, end_of}
use Rattle.epoch_rules.specs.Losses.{is_grant_of}
use Rattle.epoch_rules.specs.Rules.{is_line_of, epoch_start}
use Rattle.mseed_header.specs.Times.{last_index}
use Rattle.mseed_header.specs.declared.header.Header.{Header}
use Rattle.mseed_header.specs.declared.row.Row.{Row}
use Rattle.dataselect.specs.Query.{holds, reaches, starts_by}

-- the patterns among the values of a line, a list for each code
abbrev pub patterns_in : List Value → List (List Text)
patterns_in [] = []
patterns_in (patterns text list ∷ values) = list ∷ patterns_in values
patterns_in (_ ∷ values) = patterns_in values

-- the four lists match the four codes
abbrev pub match_codes : List (List Text) → Nslc → Bool
match_codes (network ∷ station ∷ location ∷ channel ∷ []) name =
    is_match_any network name.network && is_match_any station name.station
    && is_match_any location name.location && is_match_any channel name.channel
match_codes _ name = false

-- the patterns of a line match a name
abbrev pub matches_name : LineValues → Nslc → Bool
matches_name e name = match_codes (patterns_in e.values) name

-- the record's last sample is at that moment or earlier
abbrev pub is_over_by : Header → ℤ → Bool
is_over_by h micros = is_le (compare_sample h.start.micros (last_index h) h.rate micros)

-- the record's last sample is at the line's start or later, and its first at the line's end or earlier
abbrev pub meets_times : LineValues → Header → Bool
meets_times e h = reaches h (epoch_start e) && holds (λ stop. starts_by h stop) (end_of e.values)

-- the record's first sample is at the line's start or later, and its last at the line's end or earlier
abbrev pub keeps_times : LineValues → Header → Bool
keeps_times e h = int_le (epoch_start e) h.start.micros && holds (λ stop. is_over_by h stop) (end_of e.values)

-- a restriction whose patterns match the name
abbrev pub restricts : LineValues → Nslc → Bool
restricts e name = is_line_of Rst e && matches_name e name

-- a restriction touches a row: its patterns match, and the row has a sample no earlier than its start
-- and one no later than its end
abbrev pub touches : LineValues → Row → Bool
touches e row = restricts e row.header.name && meets_times e row.header

-- a user's grant covers a row: its patterns match, and the row lies between its start and its end
abbrev pub covers : Text → LineValues → Row → Bool
covers user e row = is_grant_of user e && matches_name e row.header.name && keeps_times e row.header

-- a live restriction touches the row
abbrev pub is_touched : List LineValues → Row → Bool
is_touched live row = list_any (λ e. touches e row) live

-- a live grant of the user covers the row; without a user there is no grant
abbrev pub is_covered : List LineValues → Option Text → Row → Bool
is_covered live None row = false
is_covered live (Some user) row = list_any (λ e. covers user e row) live

-- no live restriction touches the row, or a live grant of the user covers it
abbrev pub may_have : List LineValues → Option Text → Row → Bool
may_have live user row = not (is_touched live row) || is_covered live user row

-- no live restriction's patterns match the name
abbrev pub is_unrestricted : List LineValues → Nslc → Bool
is_unrestricted live name = not (list_any (λ e. restricts e name) live)

-- up to which entry a withdrawal reaches, among the values of its line
abbrev pub upto_in : List Value → ℕ
upto_in [] = 0
upto_in (entry_number n ∷ values) = n
upto_in (_ ∷ values) = upto_in values

-- a withdrawal whose patterns match the name
abbrev pub withdraws_some : LineValues → Nslc → Bool
withdraws_some e name = is_line_of Wdr e && matches_name e name

-- a withdrawal covers a row: its patterns match, the row lies between its start and its end, and the row's entry is no later
-- than the last one that it reaches
abbrev pub withdraws : LineValues → Row → Bool
withdraws e row = is_line_of Wdr e && matches_name e row.header.name && keeps_times e row.header && nat_le row.entry (upto_in e.values)

-- a live withdrawal covers the row
abbrev pub is_withdrawn : List LineValues → Row → Bool
is_withdrawn live row = list_any (λ e. withdraws e row) live

-- what a caller sees: what it may have, unless that is withdrawn
abbrev pub is_seen : List LineValues → Option Text → Row → Bool
is_seen live user row = may_have live user row && not (is_withdrawn live row)

-- no live restriction's patterns and no live withdrawal's match the name
abbrev pub is_whole : List LineValues → Nslc → Bool
is_whole live name = is_unrestricted live name && not (list_any (λ e. withdraws_some e name) live)

-- the live grants of a user; without a user there is none
abbrev pub grants_of : List LineValues → Option Text → List LineValues
grants_of live None = []
grants_of live (Some user) = filter (is_grant_of user) live

-- an element passes a test, where there is one
abbrev pub is_there : {X : Type 0} → (X → Bool) → Option X → Bool
is_there test None = false
is_there test (Some x) = test x
