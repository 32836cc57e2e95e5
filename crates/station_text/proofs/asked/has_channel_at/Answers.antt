use Rattle.std.proofs.Common.{◌∙◌, List, filter, ap, sym, subst, refl}
use Rattle.std.specs.List.Sorted.{IsStrictlySortedBy}
use Rattle.std.proofs.lemmas.List.Kept.{IsStrictlySortedBy-filter}
use Rattle.epochs.specs.declared.line.Line.TheVariants.{Sta}
use Rattle.epochs.specs.Lines.{LineValues}
use Rattle.epochs.specs.Views.{values_of_line}
use Rattle.epoch_catalog.specs.Families.{is_in}
use Rattle.epoch_catalog.specs.declared.families.Family.TheVariants.{ChannelsOf}
use Rattle.epoch_rules.specs.KeyOrder.{line_cmp}
use Rattle.station_text.specs.Asked.{is_inner_channel, channels_of}
use Rattle.station_text.specs.Sections.{stands_in}
use Rattle.station_text.specs.declared.sections.Section.{Section}
use Rattle.station_text.proofs.Inside.{any_seen}
use Rattle.station_text.proofs.SectionOrder.{section_decides}
use Rattle.station_text.proofs.asked.has_channel_at.Goals as goal

pub lines_in-requires : goal.lines_in-requires
lines_in-requires c =
    let live : List LineValues = c.args.catalog.now in
    subst (IsStrictlySortedBy line_cmp) (sym c.requires.lines) (IsStrictlySortedBy-filter line_cmp (is_in (ChannelsOf c.args.station.now.network c.args.station.now.station)) live c.lines.ensures.kept.rises)

pub returns : goal.returns
returns c =
    let live : List LineValues = c.args.catalog.now in
    let s = c.args.selection.now in
    let e : LineValues = values_of_line (Sta c.args.station.now) in
    let section : Section =
    record { place = record { network = c.args.station.now.network; station = c.args.station.now.station }; location = c.args.location; channel = c.single.result } in
    any_seen (is_inner_channel s e) c.lines_in.result.now (filter (stands_in section) (channels_of e live)) c.has_inner_channel.result (c.lines_in.ensures ∙ ap (filter (stands_in section)) c.requires.lines) c.has_inner_channel.ensures
    ∙ section_decides s e section refl refl c.requires.location c.single.ensures.code live
