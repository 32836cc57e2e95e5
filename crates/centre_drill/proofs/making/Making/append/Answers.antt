use Rattle.std.proofs.Common.{rules}
use Rattle.centre_drill.proofs.Steps.{called_run}
use Rattle.centre_drill.proofs.making.Making.append.Goals as goal

pub returns-in-Err-Stopped-clause-disk : goal.returns-in-Err-Stopped-clause-disk
returns-in-Err-Stopped-clause-disk g c =
    let self = c.args.self.now in
    called_run g.D.Disk.view self.intake.archive c.append.new.self.archive self.state c.args.entry _ _ (c.append.ensures.disk self.state c.requires.way.stands) c.requires.way.running (λ so. search rules)
