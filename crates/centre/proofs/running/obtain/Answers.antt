use Rattle.std.proofs.Common.{map, refl}
use Rattle.centre.proofs.Ports.{behind, had_first, has_first}
use Rattle.centre.proofs.running.obtain.Goals as goal

pub returns : goal.returns
returns g c =
    let view = g.P.Port.view in
    record {
      row = record {
        outcome = c.fetch-ending.result;
        row = record {
          old = view c.index_mut.result.now;
          new = view c.fetch-ending.new.port;
          others = map view (behind c.args.ports.items);
          had = had_first view c.args.ports.items c.index_mut.result.now c.requires.some c.index_mut.ensures.value;
          has = has_first view c.args.ports.items c.fetch-ending.new.port c.requires.some;
          rest = refl;
          row = c.fetch-ending.ensures.row;
        };
        same = c.ending_of_fetch.ensures;
      };
    }
