use Rattle.std.proofs.Common.{sym, subst, false, Ok}
use Rattle.desk_words.specs.Setting.{setting}
use Rattle.centre_desk.specs.Queries.{seq_got}
use Rattle.centre_desk.specs.Sources.{AloneSaid}
use Rattle.centre_desk.specs.Turns.{posted_under}
use Rattle.centre_desk.specs.declared.told.Said.{Said}
use Rattle.centre_desk.proofs.Sources.{still_turn, failed_still}
use Rattle.centre_desk.proofs.posting.feed_said.Goals as goal

pub returns-in_err-seq-clause-alone : goal.returns-in_err-seq-clause-alone
returns-in_err-seq-clause-alone g c is =
    failed_still (g.K.Desk.stand c.args.desk.now) _ c.args.moment (setting c.args.secret.now c.args.limits.now) c.from_residual.result c.from_residual.ensures.0

pub returns-in-Err-clause-alone : goal.returns-in-Err-clause-alone
returns-in-Err-clause-alone g c is =
    let x = g.K.Desk.stand c.args.desk.now in
    let s = setting c.args.secret.now c.args.limits.now in
    let posts = posted_under c.args.request.now c.args.kind (seq_got c.args.query.now) in
    subst (λ (said : Said). AloneSaid x x posts c.args.moment s (Ok said)) (sym c.refused.ensures) (still_turn x posts c.args.moment s false false)

pub returns-in_err-posted-clause-alone : goal.returns-in_err-posted-clause-alone
returns-in_err-posted-clause-alone g c is =
    failed_still (g.K.Desk.stand c.args.desk.now) _ c.args.moment (setting c.args.secret.now c.args.limits.now) c.from_residual-in_err-posted.result c.from_residual-in_err-posted.ensures.0
