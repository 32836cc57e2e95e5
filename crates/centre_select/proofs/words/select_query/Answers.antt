use Rattle.std.proofs.Common.{refl, arith}
use Rattle.std.proofs.lemmas.Int.{ints}
use Rattle.command_words.specs.Arguments.{words_at}
use Rattle.centre_select.proofs.OneQuery.{all_read}
use Rattle.centre_select.proofs.words.select_query.Goals as goal

pub returns-then-from-to-clause-err : goal.returns-then-from-to-clause-err
returns-then-from-to-clause-err c = record {
  all = all_read (words_at c.args.arguments.now) c.in_ok-selection.selection c.in-Ok.times.0 c.in-Ok.times.1 c.in-Ok-options.options.0 c.in-Ok-options.options.1 c.in-Ok-options.options.2
      c.in_ok-selection.ensures.ok c.in-Ok.ensures.from c.in-Ok.ensures.to c.in-Ok-options.ensures.ok;
  from = c.in-Ok.times.0.micros;
  to = c.in-Ok.times.1.micros;
  from_is = c.in-Ok.ensures.from;
  to_is = c.in-Ok.ensures.to;
  order = omega (arith, ints, c.if-from-to.true);
}

pub returns-clause-ok : goal.returns-clause-ok
returns-clause-ok c =
    let h = c.in_ok-selection.ensures.ok in
    record {
      selection = _;
      named = record { network_is = h.network_is; station_is = h.station_is; location_is = h.location_is; channel_is = h.channel_is };
      window = record {
        from = _;
        to = _;
        start_is = refl;
        end_is = refl;
        from_is = c.in-Ok.ensures.from;
        to_is = c.in-Ok.ensures.to;
        order = omega (arith, ints, c.if-from-to.false);
      };
      only = c.in_ok-selections.ensures.ok;
      options = c.in-Ok-options.ensures.ok;
      nodata = refl;
    }
