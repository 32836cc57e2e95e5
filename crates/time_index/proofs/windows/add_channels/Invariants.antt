use Rattle.std.proofs.Common.{◌≡◌, ◌++◌, Some}
use Rattle.std.specs.List.{AllByRecursion}
use Rattle.std.specs.BTreeMap.{get}
use Rattle.channel_globs.specs.Names.{name_cmp}
use Rattle.time_index.specs.Windows.{passes_by, places_in, ranks_at}
use Rattle.time_index.proofs.windows.add_channels.Given as goal

abbrev pub invariant-channels : goal.invariant-channels
invariant-channels g l = record {
  sight : l.wholes.sight.now ≡ l.fn.wholes.sight.now;
  ranks :
      l.ranks ++ ranks_at (passes_by (g.V.Sight.seen l.fn.wholes.sight.now) l.query l.selection) l.rows (places_in l.selection l.name-iterator)
      ≡ l.fn.ranks ++ ranks_at (passes_by (g.V.Sight.seen l.fn.wholes.sight.now) l.query l.selection) l.rows (places_in l.selection l.channels.entries);
  there : AllByRecursion (λ e. get name_cmp l.channels e.0 ≡ Some e.1) l.name-iterator;
}
