-- Which live lines lose what they rest on by one line more, without a look at all lines: of a line's key
-- and its new end.
use Rattle.std.specs.Prelude.{ℕ, ℤ, pos, negsuc, ◌^◌, ◌-◌, Bool, not, ◌&&◌, ◌||◌, ◌==◌, List, [], Option, Some, if◌then◌else◌}
use Rattle.std.specs.List.{list_any}
use Rattle.std.specs.Str.{bytes_eq}
use Rattle.epochs.specs.declared.kinds.LineKind.{LineKind}
use Rattle.epochs.specs.declared.kinds.LineKind.TheVariants.{Net, Sta, Cha, Grt, Usr}
use Rattle.epochs.specs.Kinds.{Text}
use Rattle.epochs.specs.Lines.{LineValues, end_of}
use Rattle.epoch_rules.specs.Endings.{ending_of}
use Rattle.epoch_rules.specs.KeyOrder.{KeyParts, key_parts_of, rank_of, have_one_key}
use Rattle.epoch_rules.specs.KeyViews.{view_of}
use Rattle.epoch_rules.specs.LiveLines.{is_said}
use Rattle.epoch_rules.specs.Rules.{is_line_of, ends_by, epoch_start}

-- the end of what a line leaves of the epoch of its key; a deletion leaves none
abbrev pub new_end : LineValues → Option ℤ
new_end e = if is_said e then end_of e.values else Some (key_parts_of e).start

-- an epoch of the inner kind and of the line's codes ends behind the new end, and no later than the old one
abbrev pub is_cut : LineKind → (KeyParts → KeyParts → Bool) → List LineValues → LineValues → LineValues → Bool
is_cut inner codes live e x =
    is_line_of inner x && codes (key_parts_of e) (key_parts_of x) && not (ends_by (end_of x.values) (new_end e))
    && list_any (λ o. have_one_key e o && ends_by (end_of x.values) (end_of o.values)) live

abbrev pub loses : LineKind → LineKind → (KeyParts → KeyParts → Bool) → List LineValues → LineValues → Bool
loses outer inner codes live e = (key_parts_of e).rank == rank_of outer && list_any (is_cut inner codes live e) live

-- the codes of a network, and of a station, in a line of either kind
abbrev pub of_network : KeyParts → KeyParts → Bool
of_network outer inner = bytes_eq outer.first inner.first

abbrev pub of_station : KeyParts → KeyParts → Bool
of_station outer inner = bytes_eq outer.first inner.first && bytes_eq outer.second inner.second

-- a deleted user has a grant
abbrev pub loses_grants : List LineValues → LineValues → Bool
loses_grants live e =
    (key_parts_of e).rank == rank_of Usr && not (is_said e)
    && list_any (λ x. is_line_of Grt x && bytes_eq (key_parts_of e).first (key_parts_of x).first) live

-- with the line, some live line lacks what it rests on
abbrev pub makes_orphans : List LineValues → LineValues → Bool
makes_orphans live e = loses Sta Cha of_station live e || loses Net Sta of_network live e || loses_grants live e

-- where a line's network or station would stand that starts with the line
abbrev pub network_key : LineValues → KeyParts
network_key e = view_of 0 (key_parts_of e).first [] [] [] [] (epoch_start e)

abbrev pub station_key : LineValues → KeyParts
station_key e = view_of 1 (key_parts_of e).first (key_parts_of e).second [] [] [] (epoch_start e)

-- the key of the user of a grant
abbrev pub user_key : LineValues → KeyParts
user_key e = view_of 6 (key_parts_of e).first [] [] [] [] (pos 0)

-- before all grants of a user
abbrev pub grants_key : Text → KeyParts
grants_key user = view_of 5 user [] [] [] [] (negsuc (2 ^ 63 - 1))

abbrev pub is_grant_of : Text → LineValues → Bool
is_grant_of user x = is_line_of Grt x && bytes_eq user (key_parts_of x).first

-- an epoch of a container of that kind, with these codes, ends behind the line's new end, and no later than the old
abbrev pub is_cut_in : ℕ → (first second : Text) → List LineValues → LineValues → LineValues → Bool
is_cut_in rank first second live e x =
    (rank == (ending_of x).rank && (bytes_eq first (ending_of x).first && bytes_eq second (ending_of x).second))
    && (not (ends_by (end_of x.values) (new_end e)) && list_any (λ o. have_one_key e o && ends_by (end_of x.values) (end_of o.values)) live)
