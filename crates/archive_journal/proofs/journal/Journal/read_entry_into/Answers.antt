use Rattle.std.proofs.Common.{◌≡◌, ◌∙◌, ◌<◌, ◌-◌, ◌+◌, ap, subst, arith, length, take, drop, sym, List, ℕ, OnOk, Some, slice_get}
use Rattle.std.proofs.lemmas.Result.{on_ok_weaker}
use Rattle.archive_journal.specs.Frames.{front_of}
use Rattle.disk_model.specs.View.{WhereTold, file_of}
use Rattle.archive_journal.specs.Journal.{Opened, gate_of, first_payloads}
use Rattle.archive_journal.proofs.Entries.{payload_at, head_fits}
use Rattle.archive_journal.proofs.Kept.{count_now, file_now, kept_read}
use Rattle.archive_journal.proofs.journal.Journal.read_entry_into.Goals as goal

pub invariant_of-self : goal.invariant_of-self
invariant_of-self g c =
    let j = c.self.inside in
    kept_read (g.D.Disk.view j.disk) (g.D.Disk.view c.read_bytes.new.disk) j.faults j.offsets.items j.end j.stopped _ c.read_bytes.ensures.read c.self.invariant

pub returns-clause-payload : goal.returns-clause-payload
returns-clause-payload g c =
    let d = g.D.Disk in
    let j = c.self.inside in
    let n = c.args.n in
    let k = n - 1 in
    let ps = first_payloads (length j.offsets.items) (file_of (d.view j.disk)) in
    let start = c.saturating_add-start.result in
    let len = c.saturating_sub-len.result in
    subst (λ (v : Opened g.row.D.Denot). WhereTold (d.view v.disk) (OnOk c.read_bytes.result (slice_get v.payloads k ≡ Some c.read_bytes.new.buffer.items))) c.self.view_is
    (λ tells.
    let gate = subst (λ (v : Opened g.row.D.Denot). WhereTold (d.view v.disk) (c.offset.result ≡ gate_of v.payloads n)) (sym c.self.view_is) c.offset.ensures tells in
    let next = subst (λ (v : Opened g.row.D.Denot). WhereTold (d.view v.disk) (c.end_of.result ≡ gate_of v.payloads (n + 1))) (sym c.self.view_is) c.end_of.ensures tells in
    let count = count_now (d.view j.disk) j.faults j.offsets.items j.end j.stopped c.self.invariant tells in
    let file = file_now (d.view j.disk) j.faults j.offsets.items j.end j.stopped c.self.invariant tells (g.met.D.Disk.honest j.disk tells).reads in
    let inside : k < length ps = omega (arith, c.requires, ap (λ (v : Opened g.row.D.Denot). v.count) c.self.view_is, count) in
    let place : n + 1 - 1 ≡ k + 1 = omega (arith, c.requires) in
    let next_at : c.end_of.result ≡ length (front_of (take (k + 1) ps)) = next ∙ ap (λ (m : ℕ). length (front_of (take m ps))) place in
    let start_at : start ≡ length (front_of (take k ps)) + 5 = omega (arith, c.saturating_add-start.ensures, gate, next_at, head_fits ps file.0 k inside, c.end_of.type_inv) in
    let len_at : len ≡ length (front_of (take (k + 1) ps)) - start = omega (arith, c.saturating_sub-len.ensures, next_at) in
    let here = payload_at ps file.0 k inside start len start_at len_at ∙ ap (λ (l : List ℕ). Some (take len (drop start l))) (sym file.1) in
    on_ok_weaker c.read_bytes.result (λ is. here ∙ ap Some (sym is)) (c.read_bytes.ensures.bytes tells))
