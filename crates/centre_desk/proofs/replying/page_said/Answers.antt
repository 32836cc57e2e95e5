use Rattle.std.proofs.Common.{sym, subst, false, Some}
use Rattle.desk_words.specs.Setting.{setting}
use Rattle.service_paths.specs.declared.page.Page.{Page}
use Rattle.centre_desk.specs.Sources.{AloneSaid}
use Rattle.centre_desk.specs.Turns.{posted_on}
use Rattle.centre_desk.proofs.Sources.{still_turn, failed_still, quiet_said}
use Rattle.centre_desk.proofs.replying.page_said.Goals as goal

pub returns-in_err-told-in-Version-clause-alone : goal.returns-in_err-told-in-Version-clause-alone
returns-in_err-told-in-Version-clause-alone g c is =
    failed_still (g.K.Desk.stand c.args.desk.now) _ c.args.moment (setting c.args.secret.now c.args.limits.now) c.from_residual.result c.from_residual.ensures.0

pub returns-in-Query-clause-alone : goal.returns-in-Query-clause-alone
returns-in-Query-clause-alone g c is =
    let old = g.K.Desk.stand c.args.desk.now in
    let new = g.K.Desk.stand c.query_said.new.desk in
    let s = setting c.args.secret.now c.args.limits.now in
    subst (λ (p : Page). AloneSaid old new (posted_on c.args.request.now (Some p)) c.args.moment s c.query_said.result) (sym c.in-Query.is)
    (quiet_said old new _ c.args.moment s c.query_said.result (c.query_said.ensures.quiet is) c.query_said.ensures.says)

pub returns-in_ok-told-in-Version-clause-alone : goal.returns-in_ok-told-in-Version-clause-alone
returns-in_ok-told-in-Version-clause-alone g c is = still_turn (g.K.Desk.stand c.args.desk.now) _ c.args.moment (setting c.args.secret.now c.args.limits.now) false _
