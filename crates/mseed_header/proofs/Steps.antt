-- Steps in an order have one fault at most, and none where all tests are passed.
use Rattle.std.proofs.Common.{◌≡◌, inl, inr, Result, Ok, Err, MatchResult, sym, subst, ◌∙◌}
use Rattle.std.specs.Prelude.{IfErr}
use Rattle.std.specs.Result.{IsErrAnd}
use Rattle.mseed_header.specs.Steps.{step, unless, no_fault}
use Rattle.mseed_header.specs.declared.header.RecordFault.{RecordFault}

-- there is one fault at most
abbrev pub IsOne : (RecordFault → Type 0) → Type 0
IsOne faults = (f g : RecordFault) → faults f → faults g → f ≡ g

-- there is none
abbrev pub IsNone : (RecordFault → Type 0) → Type 0
IsNone faults = (f : RecordFault) → faults f → ⊥

pub one_step : (passed : Type 0) (refused later : RecordFault → Type 0) → IsOne refused → (passed → IsNone refused) → IsOne later → IsOne (step passed refused later)
one_step passed refused later one none more f g (inl h) (inl k) = one f g h k
one_step passed refused later one none more f g (inl h) (inr k) = absurd (none k.0 f h)
one_step passed refused later one none more f g (inr h) (inl k) = absurd (none h.0 g k)
one_step passed refused later one none more f g (inr h) (inr k) = more f g h.1 k.1

pub none_step : (passed : Type 0) (refused later : RecordFault → Type 0) → passed → (passed → IsNone refused) → IsNone later → IsNone (step passed refused later)
none_step passed refused later p none more f (inl h) = none p f h
none_step passed refused later p none more f (inr h) = more f h.1

pub one_unless : (passed : Type 0) (fault : RecordFault) (later : RecordFault → Type 0) → IsOne later → IsOne (unless passed fault later)
one_unless passed fault later more =
    one_step passed (λ f. (¬ passed) × (f ≡ fault)) later (λ f g h k. h.1 ∙ sym k.1) (λ p f h. h.0 p) more

pub none_unless : (passed : Type 0) (fault : RecordFault) (later : RecordFault → Type 0) → passed → IsNone later → IsNone (unless passed fault later)
none_unless passed fault later p more = none_step passed (λ f. (¬ passed) × (f ≡ fault)) later p (λ q f h. h.0 q) more

pub one_of_none : IsOne no_fault
one_of_none f g h k = absurd h

pub none_of_none : IsNone no_fault
none_of_none f h = h

-- what a `?` hands on is refused as it was
pub handed_on : {T : Type 0} (r : Result T RecordFault) (e : RecordFault) (faults : RecordFault → Type 0) → IsErrAnd r (λ x. x ≡ e) → faults e → IfErr r faults
handed_on (Ok x) e faults is h = tt
handed_on (Err x) e faults is h = subst faults (sym is) h

pub handed_on_whole : {T : Type 0} (r : Result T RecordFault) (e : RecordFault) (values : T → Type 0) (faults : RecordFault → Type 0) → IsErrAnd r (λ x. x ≡ e) → faults e → MatchResult r values faults
handed_on_whole (Ok x) e values faults is h = absurd is
handed_on_whole (Err x) e values faults is h = subst faults (sym is) h
