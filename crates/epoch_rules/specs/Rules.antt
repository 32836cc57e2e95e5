-- The rules that a line has to keep over the live lines before it.
use Rattle.std.specs.Prelude.{ℕ, ℤ, Bool, true, false, not, ◌&&◌, ◌||◌, ◌==◌, List, [], ◌∷◌, ◌++◌, length, Option, Some, None, int_lt, int_le, nat_lt, if◌then◌else◌}
use Rattle.std.specs.List.{list_any}
use Rattle.std.specs.Str.{bytes_eq}
use Rattle.std.specs.Ordering.{is_eq}
use Rattle.epochs.specs.declared.kinds.LineKind.{LineKind}
use Rattle.epochs.specs.declared.kinds.LineKind.TheVariants.{Net, Sta, Cha, Grt, Usr}
use Rattle.epochs.specs.declared.kinds.Head.{Head}
use Rattle.epochs.specs.declared.kinds.Head.TheVariants.{Says, Deletes}
use Rattle.epochs.specs.Fields.{Value, roles}
use Rattle.epochs.specs.Lines.{LineValues, end_of}
use Rattle.epoch_rules.specs.declared.rule.Rule.{Rule}
use Rattle.epoch_rules.specs.declared.rule.Rule.TheVariants.{Overlap, NoStationEpoch, NoNetworkEpoch, NoUser, Absent, Orphans, NoOperator, TooMany}
use Rattle.epoch_rules.specs.KeyOrder.{rank_of, start_in, key_parts_of, family_cmp, have_one_key}
use Rattle.epoch_rules.specs.LiveLines.{is_said, live_lines}

-- a line that states something of that kind
abbrev pub is_of_kind : LineKind → Head → Bool
is_of_kind kind (Says k) = rank_of k == rank_of kind
is_of_kind kind (Deletes k) = false

abbrev pub is_line_of : LineKind → LineValues → Bool
is_line_of kind e = is_of_kind kind e.head

-- an epoch of a network, a station or a channel
abbrev pub is_epoch : LineValues → Bool
is_epoch e = is_line_of Net e || is_line_of Sta e || is_line_of Cha e

-- when the epoch of a line starts
abbrev pub epoch_start : LineValues → ℤ
epoch_start e = start_in e.values

-- a moment is before an end; an absent end is after every moment
abbrev pub is_before_end : ℤ → Option ℤ → Bool
is_before_end moment None = true
is_before_end moment (Some stop) = int_lt moment stop

-- an end is no later than another
abbrev pub ends_by : Option ℤ → Option ℤ → Bool
ends_by stop None = true
ends_by None (Some other) = false
ends_by (Some stop) (Some other) = int_le stop other

-- each of two epochs starts before the other's end
abbrev pub overlap : LineValues → LineValues → Bool
overlap a b = is_before_end (epoch_start a) (end_of b.values) && is_before_end (epoch_start b) (end_of a.values)

-- the lines are of one kind and have the same codes
abbrev pub have_one_family : LineValues → LineValues → Bool
have_one_family a b = is_eq (family_cmp (key_parts_of a) (key_parts_of b))

-- a live line is an epoch of the same codes with another start, and the two overlap
abbrev pub is_rival : LineValues → LineValues → Bool
is_rival e l = have_one_family e l && not (have_one_key e l) && overlap e l

-- the first epoch starts no later and ends no earlier
abbrev pub contains : LineValues → LineValues → Bool
contains outer inner = int_le (epoch_start outer) (epoch_start inner) && ends_by (end_of inner.values) (end_of outer.values)

-- a live line is an epoch of the channel's station that contains the channel's epoch
abbrev pub holds_channel : LineValues → LineValues → Bool
holds_channel e l =
    is_line_of Sta l && bytes_eq (key_parts_of l).first (key_parts_of e).first
    && bytes_eq (key_parts_of l).second (key_parts_of e).second && contains l e

-- a live line is an epoch of the station's network that contains the station's epoch
abbrev pub holds_station : LineValues → LineValues → Bool
holds_station e l = is_line_of Net l && bytes_eq (key_parts_of l).first (key_parts_of e).first && contains l e

-- a live line is the user to whom a line grants something
abbrev pub is_grantee : LineValues → LineValues → Bool
is_grantee e l = is_line_of Usr l && bytes_eq (key_parts_of l).first (key_parts_of e).first

-- the line of a channel, a station or a grant has no live line that it rests on
abbrev pub lacks_station : List LineValues → LineValues → Bool
lacks_station live e = is_line_of Cha e && not (list_any (holds_channel e) live)

abbrev pub lacks_network : List LineValues → LineValues → Bool
lacks_network live e = is_line_of Sta e && not (list_any (holds_station e) live)

abbrev pub lacks_user : List LineValues → LineValues → Bool
lacks_user live e = is_line_of Grt e && not (list_any (is_grantee e) live)

abbrev pub is_orphan : List LineValues → LineValues → Bool
is_orphan live e = lacks_station live e || lacks_network live e || lacks_user live e

abbrev pub is_operator_among : List Value → Bool
is_operator_among [] = false
is_operator_among (roles r ∷ values) = r.operator
is_operator_among (_ ∷ values) = is_operator_among values

-- a user with the role operator
abbrev pub is_operator : LineValues → Bool
is_operator e = is_line_of Usr e && is_operator_among e.values

-- an epoch overlaps a live one of the same codes with another start
abbrev pub has_rival : List LineValues → LineValues → Bool
has_rival live e = is_epoch e && list_any (is_rival e) live

-- a deletion's key isn't live
abbrev pub deletes_nothing : List LineValues → LineValues → Bool
deletes_nothing live e = not (is_said e) && not (list_any (have_one_key e) live)

-- how many lines may be live
abbrev pub most_lines : ℕ
most_lines = 100_000

-- the live lines after one more line
abbrev pub with_line : List LineValues → LineValues → List LineValues
with_line live e = live_lines (live ++ e ∷ [])

-- the first rule that a line breaks by itself over the live lines before it
abbrev pub own_rule : List LineValues → LineValues → Option Rule
own_rule live e =
    if has_rival live e then Some Overlap
    else (if lacks_station live e then Some NoStationEpoch
    else (if lacks_network live e then Some NoNetworkEpoch
    else (if lacks_user live e then Some NoUser
    else (if deletes_nothing live e then Some Absent
    else None))))

-- the first rule that the live lines with a line break
abbrev pub common_rule : List LineValues → Option Rule
common_rule after =
    if list_any (is_orphan after) after then Some Orphans
    else (if not (list_any is_operator after) then Some NoOperator
    else (if nat_lt most_lines (length after) then Some TooMany
    else None))

abbrev pub or_else : Option Rule → Option Rule → Option Rule
or_else (Some rule) other = Some rule
or_else None other = other

-- the first rule that a line breaks
abbrev pub broken_rule : List LineValues → LineValues → Option Rule
broken_rule live e = or_else (own_rule live e) (common_rule (with_line live e))
