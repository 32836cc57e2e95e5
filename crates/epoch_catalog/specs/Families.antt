-- The families of lines that callers read at once.
use Rattle.std.specs.Prelude.{Bool, ◌&&◌}
use Rattle.std.specs.declared.cmp.Ordering.{Ordering}
use Rattle.std.specs.Ordering.{nat_cmp, ordering_then}
use Rattle.std.specs.Str.{bytes_eq}
use Rattle.channel_globs.specs.declared.nslc.Nslc.{Nslc}
use Rattle.epochs.specs.declared.kinds.LineKind.TheVariants.{Net, Sta, Cha, Evt, Rst, Grt, Wdr}
use Rattle.epochs.specs.Kinds.{Text}
use Rattle.epochs.specs.Lines.{LineValues}
use Rattle.epoch_catalog.specs.declared.families.Family.{Family}
use Rattle.epoch_catalog.specs.declared.families.Family.TheVariants as family
use Rattle.epoch_rules.specs.KeyOrder.{KeyParts, key_parts_of, text_cmp, rank_of}
use Rattle.epoch_rules.specs.Rules.{is_line_of}

-- the first four texts of a key are the codes of a name, whose location is written as this text
abbrev pub is_named : Nslc → Text → KeyParts → Bool
is_named name location p =
    bytes_eq p.first name.network && bytes_eq p.second name.station
    && bytes_eq p.third location && bytes_eq p.fourth name.channel

-- a line belongs to a family
abbrev pub is_in : Family → LineValues → Bool
is_in family.Networks e = is_line_of Net e
is_in family.Stations e = is_line_of Sta e
is_in family.Channels e = is_line_of Cha e
is_in (family.StationsOf network) e = is_line_of Sta e && bytes_eq (key_parts_of e).first network
is_in (family.ChannelsOf network station) e =
    is_line_of Cha e && bytes_eq (key_parts_of e).first network && bytes_eq (key_parts_of e).second station
is_in family.Events e = is_line_of Evt e
is_in family.Restrictions e = is_line_of Rst e
is_in (family.RestrictionsOn network) e = is_line_of Rst e && bytes_eq (key_parts_of e).first network
is_in (family.GrantsOf user) e = is_line_of Grt e && bytes_eq (key_parts_of e).first user.now
is_in (family.GrantsOn user network) e =
    is_line_of Grt e && bytes_eq (key_parts_of e).first user.now && bytes_eq (key_parts_of e).second network
is_in family.Withdrawals e = is_line_of Wdr e
is_in (family.WithdrawalsOn name location) e = is_line_of Wdr e && is_named name location.now (key_parts_of e)

-- where the first four texts of a key stand to those of a name
abbrev pub name_place : Nslc → Text → KeyParts → Ordering
name_place name location p =
    ordering_then (text_cmp p.first name.network)
    (ordering_then (text_cmp p.second name.station)
    (ordering_then (text_cmp p.third location) (text_cmp p.fourth name.channel)))

-- where a key stands to a family: before it, in it or behind it
abbrev pub family_place : Family → KeyParts → Ordering
family_place family.Networks p = nat_cmp p.rank (rank_of Net)
family_place family.Stations p = nat_cmp p.rank (rank_of Sta)
family_place family.Channels p = nat_cmp p.rank (rank_of Cha)
family_place (family.StationsOf network) p = ordering_then (nat_cmp p.rank (rank_of Sta)) (text_cmp p.first network)
family_place (family.ChannelsOf network station) p =
    ordering_then (nat_cmp p.rank (rank_of Cha)) (ordering_then (text_cmp p.first network) (text_cmp p.second station))
family_place family.Events p = nat_cmp p.rank (rank_of Evt)
family_place family.Restrictions p = nat_cmp p.rank (rank_of Rst)
family_place (family.RestrictionsOn network) p = ordering_then (nat_cmp p.rank (rank_of Rst)) (text_cmp p.first network)
family_place (family.GrantsOf user) p = ordering_then (nat_cmp p.rank (rank_of Grt)) (text_cmp p.first user.now)
family_place (family.GrantsOn user network) p =
    ordering_then (nat_cmp p.rank (rank_of Grt)) (ordering_then (text_cmp p.first user.now) (text_cmp p.second network))
family_place family.Withdrawals p = nat_cmp p.rank (rank_of Wdr)
family_place (family.WithdrawalsOn name location) p = ordering_then (nat_cmp p.rank (rank_of Wdr)) (name_place name location.now p)
