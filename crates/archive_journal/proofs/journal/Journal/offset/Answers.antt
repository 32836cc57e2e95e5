use Rattle.std.proofs.Common.{◌≡◌, ◌∙◌, ◌<◌, ◌-◌, ap, subst, arith, length}
use Rattle.disk_model.specs.View.{WhereTold, file_of}
use Rattle.archive_journal.specs.Journal.{Opened, gate_of, first_payloads}
use Rattle.archive_journal.proofs.FrameLists.{gate_at}
use Rattle.archive_journal.proofs.Kept.{placed_now, count_now}
use Rattle.archive_journal.proofs.journal.Journal.offset.Goals as goal

pub returns : goal.returns
returns g c =
    let d = g.D.Disk in
    let j = c.self.inside in
    let payloads = first_payloads (length j.offsets.items) (file_of (d.view j.disk)) in
    subst (λ (v : Opened g.row.D.Denot). WhereTold (d.view v.disk) (c.index.result.now ≡ gate_of v.payloads c.args.n)) c.self.view_is
    (λ tells.
    let count = count_now (d.view j.disk) j.faults j.offsets.items j.end j.stopped c.self.invariant tells in
    let placed = placed_now (d.view j.disk) j.faults j.offsets.items j.end j.stopped c.self.invariant tells in
    let inside : c.args.n - 1 < length payloads = omega (arith, c.requires, ap (λ (v : Opened g.row.D.Denot). v.count) c.self.view_is, count) in
    c.index.ensures ∙ gate_at payloads j.offsets.items j.end placed (c.args.n - 1) c.index.result.now inside)
