use Rattle.std.proofs.Common.{rules, ◌≡◌, Some}
use Rattle.std.specs.BTreeMap.{get}
use Rattle.channel_globs.specs.Names.{name_cmp}
use Rattle.time_index.proofs.Singles.{names_its_name}
use Rattle.time_index.proofs.Whose.{of_channel}
use Rattle.time_index.proofs.windows.add_found.Goals as goal

pub add_channel-requires-clause-named : goal.add_channel-requires-clause-named
add_channel-requires-clause-named g c = names_its_name c.args.selection.now c.in-Some.name (search rules)

pub add_channel-requires-clause-of_it : goal.add_channel-requires-clause-of_it
add_channel-requires-clause-of_it g c =
    let at : get name_cmp c.args.channels.now c.in-Some.name ≡ Some c.in-Some-get.channel.now = search rules in
    of_channel c.args.rows.now c.args.channels.now c.in-Some.name c.in-Some-get.channel.now c.requires.index at
