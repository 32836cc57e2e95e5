use Rattle.archive_post.proofs.Standing.{added}
use Rattle.archive_post.proofs.kept.Intake.commit.Goals as goal

pub returns-in-Ok-clause-stands : goal.returns-in-Ok-clause-stands
returns-in-Ok-clause-stands g c = λ h stands next.
    let done = c.in-Ok.ensures in
    added g.D.Disk.view c.args.self.now h stands c.requires.free c.commit.new.self c.noted.new.admit c.args.entry c.in-Ok.entry c.noted.result
    c.requires.running c.count-count.ensures.hand next done.back done.ok done.disk.tells (λ told. (done.disk.told told).added) c.noted.ensures
