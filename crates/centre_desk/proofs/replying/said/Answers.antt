use Rattle.std.proofs.Common.{◌∙◌, sym, ap, subst, length, false, Some, Ok, OnOk}
use Rattle.desk_words.specs.Setting.{setting}
use Rattle.service_paths.specs.Paths.{page_of, methods_of, is_allowed, path_of}
use Rattle.centre_desk.specs.Answering.{Says}
use Rattle.centre_desk.specs.Replies.{told_of}
use Rattle.centre_desk.specs.Sources.{AloneSaid}
use Rattle.centre_desk.specs.Turns.{CaughtUpIf, asks_above_on, posted_on, posted_by}
use Rattle.centre_desk.specs.declared.told.Said.{Said}
use Rattle.centre_desk.proofs.Laws.{reached_at, on_page}
use Rattle.centre_desk.proofs.Sources.{still_turn, failed_still}
use Rattle.centre_desk.proofs.replying.said.Goals as goal

pub returns-clause-says : goal.returns-clause-says
returns-clause-says g c =
    let old = g.K.Desk.stand c.args.desk.now in
    let new = g.K.Desk.stand c.page_said.new.desk in
    let r = c.args.request.now in
    let m = c.args.moment in
    let s = setting c.args.secret.now c.args.limits.now in
    let p = c.in-Some.page in
    let path = sym (c.in_ok-page.ensures ∙ ap page_of (c.split_target-target.ensures.path ∙ ap path_of c.as_slice.ensures)) ∙ c.in-Some.is in
    let allowed = sym (c.is_allowed.ensures ∙ (ap (λ x. is_allowed x c.as_slice-2.result.now) c.methods-methods.ensures ∙ ap (is_allowed (methods_of p)) c.as_slice-2.ensures)) ∙ c.if-not-is_allowed.false in
    let at = reached_at r p path allowed in
    subst (λ posts. Says old new (λ h added. told_of h r m s added) posts m s c.page_said.result) (ap (posted_on r) (sym at))
    (subst (λ tells. Says old new tells (posted_on r (Some p)) m s c.page_said.result) (λ i h added. sym (on_page s h r m added p at) i) c.page_said.ensures.says)

pub returns-clause-caught : goal.returns-clause-caught
returns-clause-caught g c =
    let old = g.K.Desk.stand c.args.desk.now in
    let new = g.K.Desk.stand c.page_said.new.desk in
    let r = c.args.request.now in
    let p = c.in-Some.page in
    let path = sym (c.in_ok-page.ensures ∙ ap page_of (c.split_target-target.ensures.path ∙ ap path_of c.as_slice.ensures)) ∙ c.in-Some.is in
    let allowed = sym (c.is_allowed.ensures ∙ (ap (λ x. is_allowed x c.as_slice-2.result.now) c.methods-methods.ensures ∙ ap (is_allowed (methods_of p)) c.as_slice-2.ensures)) ∙ c.if-not-is_allowed.false in
    subst (λ o. OnOk c.page_said.result (CaughtUpIf (asks_above_on (length old.seen) r o) old.caught new.caught)) (sym (reached_at r p path allowed)) c.page_said.ensures.caught

pub returns-clause-alone : goal.returns-clause-alone
returns-clause-alone g c is =
    let old = g.K.Desk.stand c.args.desk.now in
    let new = g.K.Desk.stand c.page_said.new.desk in
    let r = c.args.request.now in
    let m = c.args.moment in
    let s = setting c.args.secret.now c.args.limits.now in
    let p = c.in-Some.page in
    let path = sym (c.in_ok-page.ensures ∙ ap page_of (c.split_target-target.ensures.path ∙ ap path_of c.as_slice.ensures)) ∙ c.in-Some.is in
    let allowed = sym (c.is_allowed.ensures ∙ (ap (λ x. is_allowed x c.as_slice-2.result.now) c.methods-methods.ensures ∙ ap (is_allowed (methods_of p)) c.as_slice-2.ensures)) ∙ c.if-not-is_allowed.false in
    subst (λ posts. AloneSaid old new posts m s c.page_said.result) (ap (posted_on r) (sym (reached_at r p path allowed))) (c.page_said.ensures.alone is)

pub returns-in_err-page-clause-alone : goal.returns-in_err-page-clause-alone
returns-in_err-page-clause-alone g c is =
    failed_still (g.K.Desk.stand c.args.desk.now) _ c.args.moment (setting c.args.secret.now c.args.limits.now) c.from_residual.result c.from_residual.ensures.0

pub returns-in_default-clause-alone : goal.returns-in_default-clause-alone
returns-in_default-clause-alone g c is =
    let x = g.K.Desk.stand c.args.desk.now in
    let s = setting c.args.secret.now c.args.limits.now in
    let posts = posted_by c.args.request.now in
    subst (λ (said : Said). AloneSaid x x posts c.args.moment s (Ok said)) (sym c.refused.ensures) (still_turn x posts c.args.moment s false false)

pub returns-then-not-is_allowed-clause-alone : goal.returns-then-not-is_allowed-clause-alone
returns-then-not-is_allowed-clause-alone g c is =
    let x = g.K.Desk.stand c.args.desk.now in
    let s = setting c.args.secret.now c.args.limits.now in
    let posts = posted_by c.args.request.now in
    subst (λ (said : Said). AloneSaid x x posts c.args.moment s (Ok said)) (sym c.refused-then-not-is_allowed.ensures) (still_turn x posts c.args.moment s false false)
