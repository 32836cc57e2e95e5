-- Of the made history all records that have arrived are held: its lines are two users'.
use Rattle.std.proofs.Common.{◌≡◌, ◌∙◌, ℕ, zero, suc, ◌+◌, ◌/◌, false, List, refl, ap, subst, arith}
use Rattle.std.specs.List.{list_any}
use Rattle.epochs.specs.declared.kinds.LineKind.TheVariants.{Wdr}
use Rattle.epochs.specs.Lines.{LineValues}
use Rattle.epoch_rules.specs.Rules.{is_line_of}
use Rattle.archive_state.specs.History.{arrived_of, held_of, live_of}
use Rattle.archive_state.proofs.Growth.{live_by_batch}
use Rattle.archive_state.proofs.HeldRows.{all_held as none_withdrawn}
use Rattle.centre_drill.specs.History.{batch_entry, begun, made_history}
use Rattle.centre_drill.proofs.Begun.{begun_more}
use Rattle.centre_drill.proofs.Users.{both, both_live, two_live}

begun_live : (count k : ℕ) → live_of (begun count k) ≡ live_of both
begun_live count zero = refl
begun_live count (suc k) =
    let next : k + 1 ≡ suc k = omega arith in
    subst (λ (n : ℕ). live_of (begun count n) ≡ live_of both) next
    (ap live_of (begun_more count k) ∙ live_by_batch (begun count k) (batch_entry count k) refl ∙ begun_live count k)

no_withdrawal : list_any (is_line_of Wdr) two_live ≡ false
no_withdrawal = refl

pub all_held : (count : ℕ) → held_of (made_history count) ≡ arrived_of (made_history count)
all_held count =
    let live = begun_live count ((count + 999) / 1000) ∙ both_live in
    none_withdrawn (made_history count) (ap (λ (ls : List LineValues). list_any (is_line_of Wdr) ls) live ∙ no_withdrawal)
