use Rattle.std.proofs.Common.{◌≡◌, ◌∙◌, ◌+◌, ◌-◌, sym, subst, arith, true, false, ℕ, length, refl, Result, Ok, IsErr, vec_len, vec_capacity}
use Rattle.disk_model.specs.View.{DiskRun, is_told, file_of}
use Rattle.archive_journal.specs.Journal.{Opened, IsCommit, first_payloads, IsOpenJournal}
use Rattle.archive_journal.specs.declared.fault.DiskFault.{DiskFault}
use Rattle.archive_journal.proofs.Kept.{kept_halted, kept_running, found_added}
use Rattle.archive_journal.proofs.Committed.{opened_as, commit_failed, commit_done}
use Rattle.archive_journal.proofs.journal.Journal.commit.Goals as goal

-- after a fault
pub invariant_of-self : goal.invariant_of-self
invariant_of-self g c =
    let j = c.self.inside in
    let old = g.D.Disk.view j.disk in
    let new = g.D.Disk.view c.add_frame.new.disk in
    let ps = first_payloads (length j.offsets.items) (file_of old) in
    let call = c.in_err-add_frame.ensures.call in
    let told = λ (tells : is_told new ≡ true). sym call.tells ∙ tells in
    let settled = λ (tells : is_told new ≡ true). c.self.invariant.settled (told tells) c.if-self.false in
    kept_halted new j.faults j.offsets.items j.end c.self.invariant.fits (g.met.D.Disk.honest c.add_frame.new.disk) ps c.args.frame.now
    (λ tells. (settled tells).placed)
    (λ tells. (call.told (told tells)).now ps (settled tells).journal (settled tells).placed.end_is)
    (omega (arith, call.cause refl, c.self.invariant.later))
    (omega (arith, call.later, c.self.invariant.later))

pub returns-in_err-add_frame-clause-disk : goal.returns-in_err-add_frame-clause-disk
returns-in_err-add_frame-clause-disk g c =
    let view = g.D.Disk.view in
    let j = c.self.inside in
    let new = c.add_frame.new.disk in
    let spare = vec_capacity j.offsets - vec_len j.offsets in
    let result = c.from_residual.result in
    subst (λ (v : Opened g.row.D.Denot). DiskRun (view v.disk) (view new) (IsErr result × (v.stopped ≡ false)) (IsCommit view c.args.frame.now v (opened_as view new j.faults j.offsets.items spare true) result)) c.self.view_is
    (commit_failed DiskFault view j.disk new j.faults j.offsets.items j.end spare j.stopped c.self.invariant c.if-self.false c.args.frame.now (g.met.D.Disk.honest new) _ result c.from_residual.ensures.0 c.in_err-add_frame.ensures.call)

-- after Ok
pub invariant_of-self-2 : goal.invariant_of-self-2
invariant_of-self-2 g c =
    let j = c.self.inside in
    let p = c.args.frame.now in
    let old = g.D.Disk.view j.disk in
    let new = g.D.Disk.view c.add_frame.new.disk in
    let offsets = c.push_reserved.new.self.items in
    let ps = first_payloads (length j.offsets.items) (file_of old) in
    let call = c.in_ok-add_frame.ensures.call in
    let told = λ (tells : is_told new ≡ true). sym call.tells ∙ tells in
    let size : j.end + c.size.result ≡ j.end + (length p + 5) = omega (arith, c.size.ensures) in
    subst (λ (e : ℕ). IsOpenJournal new j.faults offsets e false) (sym size)
    (kept_running new j.faults offsets (j.end + (length p + 5)) (omega (arith, c.in_ok-add_frame.ensures.size))
    (λ tells. found_added old ps j.offsets.items j.end (c.self.invariant.settled (told tells) c.if-self.false) p (file_of new) offsets c.add_frame.ensures.sized (call.told (told tells)).written c.push_reserved.ensures.items)
    (λ tells. (call.told (told tells)).durable)
    (omega (arith, call.later, c.self.invariant.later)))

pub returns-clause-disk : goal.returns-clause-disk
returns-clause-disk g c =
    let view = g.D.Disk.view in
    let j = c.self.inside in
    let new = c.add_frame.new.disk in
    let offsets = c.push_reserved.new.self in
    let spare = vec_capacity j.offsets - vec_len j.offsets in
    let result : Result ℕ DiskFault = Ok c.len.result in
    subst (λ (v : Opened g.row.D.Denot). DiskRun (view v.disk) (view new) (IsErr result × (v.stopped ≡ false)) (IsCommit view c.args.frame.now v (opened_as view new j.faults offsets.items (vec_capacity offsets - vec_len offsets) false) result)) c.self.view_is
    (commit_done DiskFault view j.disk new j.faults j.offsets.items j.end spare j.stopped c.self.invariant c.if-self.false c.args.frame.now offsets.items (vec_capacity offsets - vec_len offsets) c.len.result c.add_frame.ensures.sized c.in_ok-add_frame.ensures.call c.push_reserved.ensures.items (c.len.ensures ∙ offsets.ok.0))
