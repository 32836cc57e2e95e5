use Rattle.std.proofs.Common.{None, Some, Err, Result, refl, sym, subst}
use Rattle.disk_model.specs.Effects.{WritesNothing}
use Rattle.desk_words.specs.Setting.{setting}
use Rattle.desk_words.specs.Stand.{Stand}
use Rattle.archive_post.specs.Leaving.{left_of}
use Rattle.owned_desk.specs.Owned.{counts, stand_over}
use Rattle.centre_talk.specs.Talk.{place, TalkRow}
use Rattle.centre_talk.specs.declared.ending.TalkStop.{TalkStop}
use Rattle.centre_talk.proofs.Rows.{Opens, start_row, memory_row, talk_row}
use Rattle.centre_talk.proofs.talking.talk.Goals as goal

pub returns-in-Err : goal.returns-in-Err
returns-in-Err g c =
    let s = setting c.args.secret.now c.args.limits.now in
    let before = place (g.S.Stream.view c.args.source.now) (g.T.Stream.view c.args.sink.now) (g.C.Clock.given c.args.clock.now) (g.D.Disk.view c.args.disk) in
    let after = place (g.S.Stream.view c.args.source.now) (g.T.Stream.view c.args.sink.now) (g.C.Clock.given c.args.clock.now) (g.D.Disk.view c.in-Err.disk) in
    record {
      row = subst (λ (stop : TalkStop). TalkRow s before after None (Err stop)) (sym c.stop_for_start.ensures) (start_row s before after c.in-Err.fault (record {
        no_trail = refl;
        source = refl;
        sink = refl;
        given = refl;
        disk = c.in-Err.ensures.refused;
        why = c.in-Err.ensures.fault;
      }));
    }

pub returns-in_default : goal.returns-in_default
returns-in_default g c =
    let s = setting c.args.secret.now c.args.limits.now in
    let before = place (g.S.Stream.view c.args.source.now) (g.T.Stream.view c.args.sink.now) (g.C.Clock.given c.args.clock.now) (g.D.Disk.view c.args.disk) in
    let after = place (g.S.Stream.view c.args.source.now) (g.T.Stream.view c.args.sink.now) (g.C.Clock.given c.args.clock.now) (g.D.Disk.view c.close.result) in
    record {
      row = memory_row s before after refl refl refl (subst (λ d. WritesNothing (g.D.Disk.view c.args.disk) (g.D.Disk.view d) ⊥) (sym c.close.ensures.disk) c.in-Ok.ensures.kept);
    }

pub returns : goal.returns
returns g c =
    let s = setting c.args.secret.now c.args.limits.now in
    let outcome = c.session_over-outcome.result in
    let before = place (g.S.Stream.view c.args.source.now) (g.T.Stream.view c.args.sink.now) (g.C.Clock.given c.args.clock.now) (g.D.Disk.view c.args.disk) in
    let after = place (g.S.Stream.view c.session_over-outcome.new.source) (g.T.Stream.view c.session_over-outcome.new.sink) (g.C.Clock.given c.session_over-outcome.new.clock) (g.D.Disk.view outcome.disk) in
    let opened = c.in-Ok.ensures in
    let desk = c.in-Ok.desk in
    let first : Stand = stand_over g.D.Disk.view desk.intake desk.state (counts desk.stops desk.caught desk.made) in
    let opens : Opens (g.D.Disk.view c.args.disk) first = record {
      fresh = record { alone = refl; left = λ i. left_of (opened.left.0 i) (opened.left.1 i); stops = opened.left.2 };
      history = opened.seen;
      some = opened.some;
      tells = opened.kept.tells;
      since = opened.since;
    } in
    record {
      row = subst (λ (r : Result (Unit {0}) TalkStop). TalkRow s before after (Some outcome.trail) r) (sym c.ending_of.ensures)
          (talk_row s first before after outcome.trail outcome.end outcome.stopped outcome.read outcome.write opens c.session_over-outcome.ensures.served c.session_over-outcome.ensures.read c.session_over-outcome.ensures.write);
    }
