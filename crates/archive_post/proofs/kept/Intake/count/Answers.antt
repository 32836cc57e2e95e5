use Rattle.archive_post.proofs.Leaving.{keeps_history}
use Rattle.archive_post.proofs.kept.Intake.count.Goals as goal

pub returns-clause-history : goal.returns-clause-history
returns-clause-history g c = λ h stands told.
    let i = c.args.self.now in
    keeps_history g.D.Disk.view i.archive h c.count.ensures.hand (c.count.ensures.stands told) i.waiting stands.lawful stands.waits (stands.history told) stands.apart
