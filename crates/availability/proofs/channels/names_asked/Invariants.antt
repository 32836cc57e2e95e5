use Rattle.std.proofs.Common.{◌≡◌, drop}
use Rattle.std.specs.List.{flat_map}
use Rattle.list_laws.specs.InOrder.{in_order}
use Rattle.channel_globs.specs.Names.{name_cmp}
use Rattle.dataselect.specs.HeldNames.{names_of}
use Rattle.availability.specs.Channels.{names_asked}
use Rattle.availability.proofs.channels.names_asked.Given as goal

abbrev pub invariant-selections : goal.invariant-selections
invariant-selections g l =
    in_order name_cmp l.names.keys (flat_map (λ s. names_of s (g.S.Shelf.rows l.shelf)) (drop l.selection-index l.selections))
    ≡ names_asked l.selections (g.S.Shelf.rows l.shelf)
