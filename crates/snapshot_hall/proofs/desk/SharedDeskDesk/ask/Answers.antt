use Rattle.archive_world.proofs.Calling.{reads_by}
use Rattle.archive_world.specs.Submitting.{ask_told}
use Rattle.desk_words.specs.Setting.{setting}
use Rattle.snapshot_hall.proofs.Told.{ask_can}
use Rattle.snapshot_hall.proofs.desk.SharedDeskDesk.ask.Goals as goal

pub returns-clause-steps : goal.returns-clause-steps
returns-clause-steps g c =
    let seen = c.ask.new.self.front in
    reads_by c.args.self.now.place.front seen (ask_told c.ask.result) c.ask.ensures.seen
    (ask_can seen c.args.question.now (setting c.args.secret.now c.args.limits.now) c.ask.result c.ask.ensures.answer)
