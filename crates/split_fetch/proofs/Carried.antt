-- What holds of rows put together holds of other rows with the same records, and of the answers that brought them.
use Rattle.std.proofs.Common.{◌≡◌, ℕ, List, Result, Ok, Err, None, length, ap, ◌∙◌}
use Rattle.std.specs.Prelude.{MatchResult}
use Rattle.mseed_header.specs.declared.row.Row.{Row}
use Rattle.split_fetch.specs.Fronts.{fronts_of, first_move}
use Rattle.split_fetch.specs.Gathering.{records_of, arrived, gathered, AreBytes, RefusesRows, IsGathered, GatherRefuses}
use Rattle.split_fetch.specs.declared.answer.WindowAnswer.{WindowAnswer}
use Rattle.split_fetch.specs.declared.fault.GatherFault.{GatherFault}
use Rattle.split_fetch.specs.declared.fault.GatherFault.TheVariants.{Moved, TooLarge, OutOfMemory}
use Rattle.split_fetch.proofs.Alike.{gathered_same, images_same}

carried : (rows other : List Row) → records_of rows ≡ records_of other → (result : Result (List ℕ) GatherFault)
    → MatchResult result (AreBytes rows) (RefusesRows rows) → MatchResult result (AreBytes other) (RefusesRows other)
carried rows other same (Ok bytes) h =
    record { are = h.are ∙ images_same (gathered rows) (gathered other) (gathered_same rows other same); small = h.small }
carried rows other same (Err (Moved a b)) h = h
carried rows other same (Err (TooLarge n)) h =
    (h.0 ∙ ap length (images_same (gathered rows) (gathered other) (gathered_same rows other same)), h.1)
carried rows other same (Err OutOfMemory) h = tt

of_answers : (answers : List WindowAnswer) → first_move (fronts_of answers) ≡ None → (result : Result (List ℕ) GatherFault)
    → MatchResult result (AreBytes (arrived answers)) (RefusesRows (arrived answers))
    → MatchResult result (IsGathered answers) (GatherRefuses answers)
of_answers answers still (Ok bytes) h = record { still = still; bytes_are = h }
of_answers answers still (Err (Moved a b)) h = absurd h
of_answers answers still (Err (TooLarge n)) h = (still, h)
of_answers answers still (Err OutOfMemory) h = tt

-- what was made of the rows of answers with one front was made of these answers
pub gathered_of : (answers : List WindowAnswer) (rows : List Row) → first_move (fronts_of answers) ≡ None
    → records_of rows ≡ records_of (arrived answers) → (result : Result (List ℕ) GatherFault)
    → MatchResult result (AreBytes rows) (RefusesRows rows) → MatchResult result (IsGathered answers) (GatherRefuses answers)
gathered_of answers rows still same result h = of_answers answers still result (carried rows (arrived answers) same result h)
