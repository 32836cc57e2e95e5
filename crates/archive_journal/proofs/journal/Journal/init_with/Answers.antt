use Rattle.std.proofs.Common.{◌∙◌, ap, sym, arith, [], length, ◌≡◌, true}
use Rattle.disk_model.specs.View.{is_told, file_of}
use Rattle.archive_journal.proofs.Kept.{kept_running, empty_journal, found_empty, first_payloads-journal}
use Rattle.archive_journal.proofs.Readings.{reading_of-journal}
use Rattle.archive_journal.proofs.journal.Journal.init_with.Goals as goal

pub invariant_of-result : goal.invariant_of-result
invariant_of-result g c =
    let view = g.D.Disk.view c.begin.new.disk in
    let told = λ (tells : is_told view ≡ true). c.in-Ok.ensures.told (sym c.begin.ensures.tells ∙ tells) in
    kept_running view c.faults.result c.room.inside.offsets.items 16 (omega arith)
    (λ tells. found_empty (file_of view) c.room.inside.offsets.items (told tells).written c.room.invariant)
    (λ tells. (told tells).synced)
    (omega (arith, c.faults.ensures))

pub returns-in-Ok-clause-payloads : goal.returns-in-Ok-clause-payloads
returns-in-Ok-clause-payloads g c tells =
    let file = file_of (g.D.Disk.view c.begin.new.disk) in
    let journal = empty_journal file (c.in-Ok.ensures.told tells).written in
    (first_payloads-journal [] file (length c.room.inside.offsets.items) (ap length c.room.invariant) journal, reading_of-journal [] file journal)
