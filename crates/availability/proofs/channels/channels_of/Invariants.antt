use Rattle.std.proofs.Common.{◌≡◌, ◌++◌}
use Rattle.std.specs.List.{flat_map}
use Rattle.availability.specs.Channels.{spans_named, all_spans, AreNamed}
use Rattle.availability.proofs.channels.channels_of.Given as goal

abbrev pub invariant-names : goal.invariant-names
invariant-names g l = record {
  named : AreNamed l.channels;
  spans : all_spans l.channels ++ flat_map (spans_named (g.V.Sight.seen l.sight) (g.V.Sight.touched l.sight) l.query (g.S.Shelf.rows l.shelf)) l.name-iterator
      ≡ flat_map (spans_named (g.V.Sight.seen l.sight) (g.V.Sight.touched l.sight) l.query (g.S.Shelf.rows l.shelf)) l.names.keys;
}
