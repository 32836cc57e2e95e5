use Rattle.std.proofs.Common.{◌≡◌, ◌∙◌, ◌-◌, ◌+◌, ap, subst, arith, length, take, sym, List, ℕ}
use Rattle.std.proofs.lemmas.List.{take_all}
use Rattle.archive_journal.specs.Frames.{front_of}
use Rattle.disk_model.specs.View.{WhereTold, file_of}
use Rattle.archive_journal.specs.Journal.{Opened, gate_of, first_payloads}
use Rattle.archive_journal.proofs.FrameLists.{gate_at}
use Rattle.archive_journal.proofs.Kept.{placed_now, count_now}
use Rattle.archive_journal.proofs.journal.Journal.end_of.Goals as goal

pub returns-then-n-len : goal.returns-then-n-len
returns-then-n-len g c =
    let d = g.D.Disk in
    let j = c.self.inside in
    let payloads = first_payloads (length j.offsets.items) (file_of (d.view j.disk)) in
    subst (λ (v : Opened g.row.D.Denot). WhereTold (d.view v.disk) (c.index.result.now ≡ gate_of v.payloads (c.args.n + 1))) c.self.view_is
    (λ tells.
    let count = count_now (d.view j.disk) j.faults j.offsets.items j.end j.stopped c.self.invariant tells in
    let placed = placed_now (d.view j.disk) j.faults j.offsets.items j.end j.stopped c.self.invariant tells in
    let place : c.args.n ≡ c.args.n + 1 - 1 = omega arith in
    c.index.ensures ∙ gate_at payloads j.offsets.items j.end placed c.args.n c.index.result.now (omega (arith, c.if-n-len.true, c.len.ensures, j.offsets.ok, count)) ∙ ap (λ (k : ℕ). length (front_of (take k payloads))) place)

pub returns-else-n-len : goal.returns-else-n-len
returns-else-n-len g c =
    let d = g.D.Disk in
    let j = c.self.inside in
    let payloads = first_payloads (length j.offsets.items) (file_of (d.view j.disk)) in
    subst (λ (v : Opened g.row.D.Denot). WhereTold (d.view v.disk) (j.end ≡ gate_of v.payloads (c.args.n + 1))) c.self.view_is
    (λ tells.
    let count = count_now (d.view j.disk) j.faults j.offsets.items j.end j.stopped c.self.invariant tells in
    let placed = placed_now (d.view j.disk) j.faults j.offsets.items j.end j.stopped c.self.invariant tells in
    placed.end_is ∙ ap (λ (l : List (List ℕ)). length (front_of l)) (sym (take_all (c.args.n + 1 - 1) payloads (omega (arith, c.if-n-len.false, c.len.ensures, j.offsets.ok, count)))))
