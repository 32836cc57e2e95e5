use Rattle.std.proofs.Common.{◌∙◌, ◌≤◌, ◌<◌, ap, sym, subst, arith, refl, ℕ, List, length, drop, Option, Ok, IfSome}
use Rattle.disk_model.specs.Effects.{IsOnlyRead}
use Rattle.disk_model.proofs.Runs.{no_read, run_on, only_read_on}
use Rattle.disk_model.specs.View.{file_of}
use Rattle.archive_journal.specs.Recovery.{IsWalked, IsNext}
use Rattle.archive_journal.proofs.Walking.{walk_begins, walk_on}
use Rattle.archive_journal.proofs.recover.walk.Goals as goal

pub gates-init : goal.gates-init
gates-init g c =
    let disk = c.args.disk.now in
    let view = g.D.Disk.view disk in
    record {
      read = record { tells = refl; later = omega arith; cause = λ failed. absurd failed; told = λ told. no_read view (g.met.D.Disk.honest disk told) };
      walked = λ told. subst (λ (l : List ℕ). IsWalked (file_of view) l 16) (sym c.new-offsets.ensures.items) (walk_begins (file_of view) (c.requires.magic told).begins);
      fits = omega arith;
    }

pub gates-preserved : goal.gates-preserved
gates-preserved g c =
    let old = g.D.Disk.view c.args.disk.now in
    let mid = g.D.Disk.view c.gates.disk in
    let new = g.D.Disk.view c.read_gate.new.disk in
    let so_far = c.gates.invariant.read in
    let at = c.gates.at in
    let next = c.in-Some.next in
    let bound : (at < next) × (next ≤ c.args.len) = subst (λ (o : Option ℕ). IfSome o (λ n. (at < n) × (n ≤ c.args.len))) c.in-Some.is c.in_ok-next.ensures.bound in
    record {
      read = run_on old mid new ⊥ _ ⊥ (IsOnlyRead old mid) (IsOnlyRead mid new) (IsOnlyRead old new) so_far c.read_gate.ensures.read (λ failed. absurd failed) (only_read_on old mid new);
      walked = λ told.
          let same = (so_far.told told).content in
          let is_len = c.requires.len.1 told ∙ ap length (sym same) in
          let here = c.in_ok-next.ensures.next (so_far.tells ∙ told) is_len in
          let frame = subst (λ (x : List ℕ × Option ℕ). IsNext (drop at x.0) at (Ok x.1)) (λ i. (same i, c.in-Some.is i)) here in
          walk_on (file_of old) c.gates.offsets.items at (c.gates.invariant.walked told) next c.push.new.self.items frame c.in_ok-push.ensures.items;
      fits = omega (arith, bound);
    }
