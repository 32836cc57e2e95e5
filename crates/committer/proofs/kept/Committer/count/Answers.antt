use Rattle.archive_post.proofs.Growth.{lawful_flush}
use Rattle.archive_world.proofs.Holding.{left_held}
use Rattle.committer.proofs.Keeping.{few_more}
use Rattle.committer.proofs.kept.Committer.count.Goals as goal

pub returns-clause-lawful : goal.returns-clause-lawful
returns-clause-lawful g c = let s = c.args.self.now in lawful_flush s.latest s.intake.waiting s.stands.lawful s.stands.waits

pub returns-clause-kept : goal.returns-clause-kept
returns-clause-kept g c = c.args.self.now.stands.history

pub returns-clause-few : goal.returns-clause-few
returns-clause-few g c = let s = c.args.self.now in few_more (λ step. step.1) s.front s.latest _ s.intake.waiting s.tied s.one

pub returns-clause-left : goal.returns-clause-left
returns-clause-left g c =
    let s = c.args.self.now in
    left_held (g.D.Disk.view s.intake.archive.disk) s.latest s.front s.intake.waiting s.intake.archive.hand (c.count.ensures.left s.latest s.stands)
