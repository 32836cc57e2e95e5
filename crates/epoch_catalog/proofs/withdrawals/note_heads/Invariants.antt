use Rattle.std.proofs.Common.{◌≡◌, ◌≤◌, ◌<◌, ◌+◌, ℕ, true, Some, map, length, vec_len, vec_capacity}
use Rattle.std.specs.Prelude.{Contains}
use Rattle.std.specs.List.{slice_get}
use Rattle.epochs.specs.Lines.{LineValues}
use Rattle.epochs.specs.Views.{values_of_line}
use Rattle.epoch_catalog.specs.Withdrawals.{is_marked, IsHeadOf}
use Rattle.epoch_catalog.specs.declared.withdrawals.Head.{Head}
use Rattle.epoch_catalog.proofs.withdrawals.note_heads.Given as goal

abbrev pub invariant-places : goal.invariant-places
invariant-places l = record {
  noted : (k : ℕ) (e : LineValues) → l.fn.bounds.first ≤ k → k < l.place → slice_get (map values_of_line l.lines) k ≡ Some e → is_marked e ≡ true → (h : Head) × Contains l.heads.items h × IsHeadOf e k h;
  few : vec_len l.heads ≤ l.place;
  within : l.place ≤ length l.lines;
  room : vec_capacity l.heads ≡ vec_capacity l.fn.heads;
}
