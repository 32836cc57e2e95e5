use Rattle.std.proofs.Common.{◌≡◌, ◌∷◌, drop}
use Rattle.split_fetch.specs.Fronts.{fronts_of, first_move}
use Rattle.split_fetch.proofs.fronts.first_move.Given as goal

abbrev pub invariant-answers : goal.invariant-answers
invariant-answers l = first_move (l.before ∷ fronts_of (drop l.answer-index l.answers)) ≡ first_move (fronts_of l.answers)
