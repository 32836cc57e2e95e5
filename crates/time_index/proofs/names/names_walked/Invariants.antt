use Rattle.std.proofs.Common.{◌≡◌, []}
use Rattle.list_laws.specs.InOrder.{in_order}
use Rattle.channel_globs.specs.Names.{name_cmp}
use Rattle.time_index.specs.Names.{names_in}
use Rattle.time_index.proofs.names.names_walked.Given as goal

abbrev pub invariant-channels : goal.invariant-channels
invariant-channels l = in_order name_cmp l.names.keys (names_in l.selection l.name-iterator) ≡ in_order name_cmp [] (names_in l.selection l.channels.entries)
