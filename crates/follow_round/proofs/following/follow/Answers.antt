use Rattle.std.proofs.Common.{◌∙◌, ◌-◌, sym, arith}
use Rattle.follow_round.proofs.FollowSteps.{so_far_none, spent, port_failed, row_again, row_caught, row_ends, not_last}
use Rattle.follow_round.proofs.following.follow.Goals as goal

pub rounds-init : goal.rounds-init
rounds-init g c = record {
  so = so_far_none g.D.Disk.view c.args.user.now c.args.ha1.now c.args.follower.now (g.P.Port.view c.args.port.now) (g.met.D.Disk.honest c.args.follower.now.disk) c.wanted-first.ensures.stands;
  few = (let some = c.requires.rounds in omega (arith, some));
}

pub returns-in-Ok-None : goal.returns-in-Ok-None
returns-in-Ok-None g c =
    let view = g.D.Disk.view in
    let told = g.P.Port.view in
    let b = c.rounds.follower in
    let gives = rw c.in-Ok-None.field-0-is at c.in-Ok-None.ensures.gives in
    record { row = spent view c.args.user.now c.args.ha1.now c.args.follower.now b (told c.args.port.now) (told c.rounds.port) c.rounds.done c.args.rounds c.rounds.invariant.so c.rounds.invariant.few _ gives.0 gives.1 c.accept.ensures.back c.accept.ensures.cause.later }

pub returns-in-Err : goal.returns-in-Err
returns-in-Err g c =
    let view = g.D.Disk.view in
    let told = g.P.Port.view in
    let b = c.rounds.follower in
    record { row = port_failed view c.args.user.now c.args.ha1.now c.args.follower.now b (told c.args.port.now) (told c.rounds.port) c.rounds.done c.args.rounds c.rounds.invariant.so c.rounds.invariant.few _ c.in-Err.ensures.gives c.accept.ensures.back c.accept.ensures.cause.later c.in-Err.ensures.cause.failed }

pub rounds-preserved : goal.rounds-preserved
rounds-preserved g c =
    let view = g.D.Disk.view in
    let told = g.P.Port.view in
    let b = c.rounds.follower in
    let took = rw c.in-Ok-Some.field-0-is at c.in-Ok-Some.ensures.gives in
    let says = sym c.next_of.ensures ∙ c.in-Again.is in
    record {
      so = row_again view c.args.user.now c.args.ha1.now c.args.follower.now b (told c.args.port.now) (told c.rounds.port) c.rounds.done c.args.rounds c.rounds.invariant.so c.rounds.invariant.few
          c.round-answer.new.follower _ _ _ _ took c.accept.ensures.back c.accept.ensures.cause.later
          c.give_back.ensures.left c.give_back.ensures.back c.give_back.ensures.faults (g.met.D.Disk.honest b.disk) c.wanted-wanted.ensures.stands
          c.round-answer.result c.round-answer.ensures.row says;
      few = not_last view c.args.user.now c.args.ha1.now c.args.follower.now b (told c.args.port.now) (told c.rounds.port) c.rounds.done c.args.rounds c.rounds.invariant.so c.rounds.invariant.few
          c.round-answer.new.follower _ _ _ _ took c.accept.ensures.back c.accept.ensures.cause.later
          c.give_back.ensures.left c.give_back.ensures.back c.give_back.ensures.faults (g.met.D.Disk.honest b.disk) c.wanted-wanted.ensures.stands
          c.round-answer.result says;
    }

pub returns-in-CaughtUp : goal.returns-in-CaughtUp
returns-in-CaughtUp g c =
    let view = g.D.Disk.view in
    let told = g.P.Port.view in
    let b = c.rounds.follower in
    let took = rw c.in-Ok-Some.field-0-is at c.in-Ok-Some.ensures.gives in
    let says = sym c.next_of.ensures ∙ c.in-CaughtUp.is in
    let count = c.wanted.ensures.wanted in
    record {
      row = row_caught view c.args.user.now c.args.ha1.now c.args.follower.now b (told c.args.port.now) (told c.rounds.port) c.rounds.done c.args.rounds c.rounds.invariant.so c.rounds.invariant.few
          c.round-answer.new.follower _ _ _ _ took c.accept.ensures.back c.accept.ensures.cause.later
          c.give_back.ensures.left c.give_back.ensures.back c.give_back.ensures.faults (g.met.D.Disk.honest b.disk) c.wanted-wanted.ensures.stands
          c.round-answer.result (c.wanted.result - 1) (omega (arith, count)) c.round-answer.ensures.row says;
    }

pub returns-in-Ends : goal.returns-in-Ends
returns-in-Ends g c =
    let view = g.D.Disk.view in
    let told = g.P.Port.view in
    let b = c.rounds.follower in
    let took = rw c.in-Ok-Some.field-0-is at c.in-Ok-Some.ensures.gives in
    let says = sym c.next_of.ensures ∙ c.in-Ends.is in
    record {
      row = row_ends view c.args.user.now c.args.ha1.now c.args.follower.now b (told c.args.port.now) (told c.rounds.port) c.rounds.done c.args.rounds c.rounds.invariant.so c.rounds.invariant.few
          c.round-answer.new.follower _ _ _ _ took c.accept.ensures.back c.accept.ensures.cause.later
          c.give_back.ensures.left c.give_back.ensures.back c.give_back.ensures.faults (g.met.D.Disk.honest b.disk) c.wanted-wanted.ensures.stands
          c.round-answer.result c.in-Ends.fault c.round-answer.ensures.row says;
    }
