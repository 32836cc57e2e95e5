use Rattle.std.proofs.Common.{List, refl, sym, subst}
use Rattle.disk_model.specs.Effects.{WritesNothing}
use Rattle.archive_entry.specs.declared.entry.Entry.{Entry}
use Rattle.archive_state.specs.History.{held_of}
use Rattle.command_words.specs.Arguments.{coverage_words_at}
use Rattle.centre_coverage.specs.Table.{PutsReport}
use Rattle.centre_coverage.proofs.Decide.{are_days}
use Rattle.centre_coverage.proofs.Rows.{words_row, fault_row, opened_row}
use Rattle.centre_coverage.proofs.covering.coverage.Goals as goal

pub returns-in-Err : goal.returns-in-Err
returns-in-Err g c = record {
  row = words_row g.D.Disk.view (coverage_words_at c.args.arguments.now) (g.K.Stream.view c.args.sink.now) c.args.disk c.in-Err.refusal c.in-Err.ensures.err;
}

pub returns-in-Err-start : goal.returns-in-Err-start
returns-in-Err-start g c =
    let days = c.in-Ok.days in
    record {
      row =
          fault_row g.D.Disk.view (coverage_words_at c.args.arguments.now) (g.K.Stream.view c.args.sink.now) c.args.disk c.in-Err-start.disk c.in-Err-start.fault c.stop_for_start.result c.stop_for_start.ensures
          (record {
            first = days.first.micros;
            days = days.count;
            asked = c.in-Ok.ensures.ok;
            why = c.in-Err-start.ensures.fault;
            disk = c.in-Err-start.ensures.refused;
            kept = refl;
          });
    }

pub put_report-ending-requires : goal.put_report-ending-requires
put_report-ending-requires g c = are_days (coverage_words_at c.args.arguments.now) c.in-Ok.days.first.micros c.in-Ok.days.count c.in-Ok.ensures.ok

pub returns : goal.returns
returns g c =
    let view = g.D.Disk.view in
    let days = c.in-Ok.days in
    let old = g.K.Stream.view c.args.sink.now in
    let new = g.K.Stream.view c.put_report-ending.new.sink in
    let ending = c.put_report-ending.result in
    let puts = λ (h : List Entry). PutsReport (held_of h) days.first.micros days.count c.args.arguments.now.max_lines old new ending in
    record {
      row = opened_row view (coverage_words_at c.args.arguments.now) old c.args.disk new c.close.result ending (record {
        over = record {
          first = days.first.micros;
          days = days.count;
          asked = c.in-Ok.ensures.ok;
          history = c.in-Ok-start.desk.state;
          opens = λ told. record { history = c.in-Ok-start.ensures.seen told; some = c.in-Ok-start.ensures.some };
          disk = subst (λ d. WritesNothing (view c.args.disk) (view d) ⊥) (sym c.close.ensures.disk) c.in-Ok-start.ensures.kept;
        };
        puts = subst puts c.state.ensures.seen c.put_report-ending.ensures;
      });
    }
