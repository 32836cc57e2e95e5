use Rattle.std.proofs.Common.{◌≡◌, map, filter, drop, length}
use Rattle.list_laws.specs.InOrder.{in_order}
use Rattle.channel_globs.specs.Names.{name_cmp}
use Rattle.coverage_report.specs.Lines.{names_of}
use Rattle.coverage_report.proofs.rows.names_seen.Given as goal

abbrev pub invariant-rows : goal.invariant-rows
invariant-rows g l = record {
  names : in_order name_cmp l.names.keys (map (λ row. row.header.name) (filter (g.V.Sight.seen l.sight) (drop l.place (g.S.Shelf.rows l.shelf))))
      ≡ names_of (filter (g.V.Sight.seen l.sight) (g.S.Shelf.rows l.shelf));
  all : l.place-end ≡ length (g.S.Shelf.rows l.shelf);
}
