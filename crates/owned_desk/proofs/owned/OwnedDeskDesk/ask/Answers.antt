use Rattle.std.proofs.Common.{length}
use Rattle.desk_words.specs.Setting.{setting}
use Rattle.owned_desk.specs.Owned.{counts, stand_over}
use Rattle.owned_desk.proofs.Submitting.{refused_ask, told_ask}
use Rattle.owned_desk.proofs.owned.OwnedDeskDesk.ask.Goals as goal

pub returns-in_err-told-clause-row : goal.returns-in_err-told-clause-row
returns-in_err-told-clause-row g c =
    let d = c.args.self.now in
    refused_ask (stand_over g.D.Disk.view d.intake d.state (counts d.stops d.caught d.made)) c.args.question.now (setting c.args.secret.now c.args.limits.now) c.from_residual.result _ c.from_residual.ensures.1

pub returns-clause-row : goal.returns-clause-row
returns-clause-row g c =
    let d = c.args.self.now in
    told_ask (stand_over g.D.Disk.view d.intake d.state (counts d.stops d.caught d.made)) c.args.question.now (setting c.args.secret.now c.args.limits.now) _
    (λ i. record { front = length (c.entries.ensures.entries i); outcome = c.in_ok-told.ensures i })
