use Rattle.std.proofs.Common.{◌≤ℤ◌, sym, subst}
use Rattle.time_index.specs.Kept.{IsBegun}
use Rattle.time_index.specs.declared.kept.Kept.{Kept}
use Rattle.time_index.proofs.Mending.{begun_more, settled, never_absent, taken_out, to_first}
use Rattle.time_index.proofs.kept.settle.Goals as goal

pub reached-init : goal.reached-init
reached-init c = record { forward = c.requires.forward; begun = λ wanted begun. begun }

pub reached-smaller : goal.reached-smaller
reached-smaller c =
    taken_out c.args.home.micros c.reached.joined.reach.micros c.in-Some.key c.in-Some.other c.reached.spans.entries c.remove.new.self.entries c.in-Some.ensures c.remove.ensures.entries

pub reached-preserved : goal.reached-preserved
reached-preserved c =
    let home = c.args.home in
    let joined = c.reached.joined in
    record {
      forward = subst (λ (kept : Kept). home.micros ≤ℤ kept.reach.micros) (sym c.join-joined.ensures) (to_first home.micros joined.reach.micros c.in-Some.other.reach.micros c.reached.invariant.forward);
      begun = λ wanted begun.
          subst (λ (kept : Kept). IsBegun c.args.rate wanted (home, kept) c.remove.new.self.entries) (sym c.join-joined.ensures)
          (begun_more c.args.rate wanted home c.in-Some.key joined c.in-Some.other c.reached.spans.entries c.remove.new.self.entries c.in-Some.ensures c.remove.ensures.entries (c.reached.invariant.begun wanted begun));
    }

pub returns-in-Ok : goal.returns-in-Ok
returns-in-Ok c = λ wanted begun.
    settled c.args.rate wanted c.args.home c.reached.joined c.reached.spans.entries (c.reached.invariant.begun wanted begun) c.insert.new.self.entries c.in_default.ensures c.in-Ok.ensures.entries

pub returns-in-Err : goal.returns-in-Err
returns-in-Err c = λ wanted begun.
    absurd (never_absent c.args.rate wanted c.args.home c.reached.joined c.reached.spans.entries (c.reached.invariant.begun wanted begun) c.in-Err.ensures.absent)
