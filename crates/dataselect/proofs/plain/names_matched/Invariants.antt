use Rattle.std.proofs.Common.{◌≡◌, drop, map, filter}
use Rattle.list_laws.specs.InOrder.{in_order}
use Rattle.channel_globs.specs.Names.{name_cmp}
use Rattle.dataselect.specs.Query.{is_named}
use Rattle.dataselect.specs.HeldNames.{names_of}
use Rattle.dataselect.proofs.plain.names_matched.Given as goal

abbrev pub invariant-rows : goal.invariant-rows
invariant-rows l = in_order name_cmp l.names.keys (filter (is_named l.selection) (map (λ row. row.header.name) (drop l.row-index l.rows))) ≡ names_of l.selection l.rows
