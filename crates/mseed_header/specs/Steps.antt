-- Steps of a reading in their order: the first test that isn't passed gives the fault.
use Rattle.std.specs.Prelude.{◌≡◌, ◌⊎◌}
use Rattle.mseed_header.specs.declared.header.RecordFault.{RecordFault}

-- a step gives the fault, or its test is passed and a later step gives it
abbrev pub step : (passed : Type 0) (refused later : RecordFault → Type 0) → RecordFault → Type 0
step passed refused later fault = refused fault ⊎ (passed × later fault)

-- a step that has one fault
abbrev pub unless : (passed : Type 0) → RecordFault → (later : RecordFault → Type 0) → RecordFault → Type 0
unless passed fault later = step passed (λ f. (¬ passed) × (f ≡ fault)) later

-- behind the last step
abbrev pub no_fault : RecordFault → Type 0
no_fault fault = ⊥
