use Rattle.archive_post.proofs.Standing.{taken}
use Rattle.archive_post.proofs.kept.Intake.take.Goals as goal

pub returns-clause-stands : goal.returns-clause-stands
returns-clause-stands g c = λ h stands. taken g.D.Disk.view c.args.self.now h stands c.take.new.self c.take.ensures.after c.requires.noted
