use Rattle.std.proofs.Common.{◌≡◌, ◌∙◌, true, sym, subst, arith, List, ℕ, length}
use Rattle.disk_model.specs.Disk.{LeavesOnly}
use Rattle.disk_model.specs.View.{is_told, file_of}
use Rattle.archive_journal.specs.Frames.{Holds}
use Rattle.archive_journal.specs.Journal.{first_payloads}
use Rattle.archive_journal.specs.Recovery.{IsFound}
use Rattle.archive_journal.proofs.Kept.{kept_running, found_holds, explains_recover}
use Rattle.archive_journal.proofs.journal.Journal.recover.Goals as goal

pub invariant_of-result : goal.invariant_of-result
invariant_of-result g c =
    let view = g.D.Disk.view c.find_frames.new.disk in
    let offsets = c.in-Ok.found.offsets.items in
    let end = c.in-Ok.found.end in
    let told = λ (tells : is_told view ≡ true). sym c.find_frames.ensures.disk.tells ∙ tells in
    let same = λ (tells : is_told view ≡ true). sym (c.find_frames.ensures.disk.told (told tells)).content in
    kept_running view c.faults.result offsets end c.in-Ok.ensures.bound
    (λ tells. subst (λ (file : List ℕ). IsFound file offsets end) (same tells) (c.in-Ok.ensures.found (told tells)))
    (λ tells. subst (LeavesOnly view.may_leave) (same tells) (c.in-Ok.ensures.synced (told tells)))
    (omega (arith, c.faults.ensures))

pub returns-in-Ok-clause-payloads : goal.returns-in-Ok-clause-payloads
returns-in-Ok-clause-payloads g c tells =
    let offsets = c.in-Ok.found.offsets.items in
    let old = file_of (g.D.Disk.view c.args.disk) in
    subst (λ (file : List ℕ). Holds (first_payloads (length offsets) file) old) (sym (c.find_frames.ensures.disk.told tells).content) (found_holds old offsets c.in-Ok.found.end (c.in-Ok.ensures.found tells))

pub returns-in-Err-clause-fault : goal.returns-in-Err-clause-fault
returns-in-Err-clause-fault g c tells = explains_recover (file_of (g.D.Disk.view c.args.disk)) c.in-Err.fault (c.in-Err.ensures.found tells)
