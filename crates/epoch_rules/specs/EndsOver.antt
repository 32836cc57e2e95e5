-- Ends laid over others: those that were put in, and of the others those that weren't taken out.
use Rattle.std.specs.Prelude.{Bool, not, ◌&&◌, ◌||◌}
use Rattle.std.specs.Ordering.{is_eq}
use Rattle.std.specs.BTreeSet.{BTreeSet}
use Rattle.epoch_rules.specs.declared.endings.Ending.{Ending}
use Rattle.epoch_rules.specs.declared.ends_over.EndsOver.{EndsOver}
use Rattle.epoch_rules.specs.Endings.{AddsEnd, DropsEnd, EndingParts, KeepsEnds, ending_cmp, has_end}

-- the end is one of these
abbrev pub is_end_in : BTreeSet Ending → EndingParts → Bool
is_end_in ends p = has_end ends (λ q. is_eq (ending_cmp p q))

-- some end that isn't one of these passes a test
abbrev pub has_left : BTreeSet Ending → BTreeSet Ending → (EndingParts → Bool) → Bool
has_left gone ends test = has_end ends (λ p. not (is_end_in gone p) && test p)

-- laid over these ends, or instead of them, some end passes a test
abbrev pub has_end_over : EndsOver → BTreeSet Ending → (EndingParts → Bool) → Bool
has_end_over o ends test = (not o.all && has_left o.gone ends test) || has_end o.put test

-- whatever they are laid over, there is one end more, or all but one, or there are the same
abbrev pub AddsEndOver : EndsOver → EndingParts → EndsOver → Type 0
AddsEndOver old e new = (ends : BTreeSet Ending) → AddsEnd (has_end_over old ends) e (has_end_over new ends)

abbrev pub DropsEndOver : EndsOver → EndingParts → EndsOver → Type 0
DropsEndOver old e new = (ends : BTreeSet Ending) → DropsEnd (has_end_over old ends) e (has_end_over new ends)

abbrev pub KeepsEndsOver : EndsOver → EndsOver → Type 0
KeepsEndsOver old new = (ends : BTreeSet Ending) → KeepsEnds (has_end_over old ends) (has_end_over new ends)

-- those that they are laid over stay
abbrev pub LaysNone : EndsOver → Type 0
LaysNone o = (ends : BTreeSet Ending) → KeepsEnds (has_end ends) (has_end_over o ends)

-- there are these alone
abbrev pub LaysAll : BTreeSet Ending → EndsOver → Type 0
LaysAll put o = (ends : BTreeSet Ending) → KeepsEnds (has_end put) (has_end_over o ends)
