use Rattle.std.proofs.Common.{◌≡◌, drop}
use Rattle.list_laws.specs.InOrder.{in_order}
use Rattle.channel_globs.specs.Names.{name_cmp}
use Rattle.availability.proofs.channels.put_names.Given as goal

abbrev pub invariant-names : goal.invariant-names
invariant-names l = in_order name_cmp l.names.keys (drop l.name-index l.more) ≡ in_order name_cmp l.fn.names.keys l.more
