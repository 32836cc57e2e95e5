use Rattle.std.proofs.Common.{sym, subst, false, Some, Ok, Err}
use Rattle.desk_words.specs.Setting.{setting}
use Rattle.desk_words.specs.Stand.{SubmitRow}
use Rattle.desk_words.specs.declared.asking.SubmitFault.{SubmitFault}
use Rattle.centre_desk.specs.Answering.{HasSaid}
use Rattle.centre_desk.specs.Sources.{AloneSaid}
use Rattle.centre_desk.specs.declared.told.Said.{Said}
use Rattle.centre_desk.proofs.Posts.{judged_said, tells_verdict}
use Rattle.centre_desk.proofs.Sources.{judged_turn, stopped_turn, short_turn, runs_out}
use Rattle.centre_desk.proofs.posting.command_said.Goals as goal

pub returns-in-Ok-verdict_said-clause-says : goal.returns-in-Ok-verdict_said-clause-says
returns-in-Ok-verdict_said-clause-says g c =
    let old = g.K.Desk.stand c.args.desk.now in
    let new = g.K.Desk.stand c.submit.new.self in
    let s = setting c.args.secret.now c.args.limits.now in
    record {
      goes_on = c.submit.ensures.goes_on;
      row = subst (λ (x : Said). HasSaid old new (tells_verdict c.args.posted.now c.args.moment s) (Some c.args.posted.now) c.args.moment s x) (sym c.in-Ok-verdict_said.ensures)
          (judged_said old new c.args.posted.now c.args.moment s c.in-Ok.submitted c.submit.ensures.goes_on c.in-Ok.ensures.row);
    }

pub returns-in-Ok-verdict_said-clause-alone : goal.returns-in-Ok-verdict_said-clause-alone
returns-in-Ok-verdict_said-clause-alone g c is =
    let old = g.K.Desk.stand c.args.desk.now in
    let new = g.K.Desk.stand c.submit.new.self in
    let s = setting c.args.secret.now c.args.limits.now in
    subst (λ (x : Said). AloneSaid old new (Some c.args.posted.now) c.args.moment s (Ok x)) (sym c.in-Ok-verdict_said.ensures)
    (judged_turn old new c.args.posted.now c.args.moment s c.in-Ok.submitted _ c.in-Ok.ensures.row is)

pub returns-in-Err-clause-alone : goal.returns-in-Err-clause-alone
returns-in-Err-clause-alone g c is =
    let old = g.K.Desk.stand c.args.desk.now in
    let new = g.K.Desk.stand c.submit.new.self in
    let s = setting c.args.secret.now c.args.limits.now in
    runs_out old new (Some c.args.posted.now) c.args.moment s _ false (judged_turn old new c.args.posted.now c.args.moment s c.in-Ok.submitted false c.in-Ok.ensures.row is)

pub returns-in-Err-Stopped-clause-alone : goal.returns-in-Err-Stopped-clause-alone
returns-in-Err-Stopped-clause-alone g c is =
    let old = g.K.Desk.stand c.args.desk.now in
    let new = g.K.Desk.stand c.submit.new.self in
    let s = setting c.args.secret.now c.args.limits.now in
    let row = subst (λ (f : SubmitFault). SubmitRow old new c.args.posted.now c.args.moment s (Err f)) c.in-Err-Stopped.field-0-is c.in-Err-Stopped.ensures.row in
    subst (λ (x : Said). AloneSaid old new (Some c.args.posted.now) c.args.moment s (Ok x)) (sym c.refused.ensures) (stopped_turn old new c.args.posted.now c.args.moment s row is)

pub returns-in-Err-OutOfMemory-clause-alone : goal.returns-in-Err-OutOfMemory-clause-alone
returns-in-Err-OutOfMemory-clause-alone g c is =
    let old = g.K.Desk.stand c.args.desk.now in
    let new = g.K.Desk.stand c.submit.new.self in
    let s = setting c.args.secret.now c.args.limits.now in
    let row = subst (λ (f : SubmitFault). SubmitRow old new c.args.posted.now c.args.moment s (Err f)) c.in-Err-OutOfMemory.field-0-is c.in-Err-OutOfMemory.ensures.row in
    short_turn old new c.args.posted.now c.args.moment s row is
