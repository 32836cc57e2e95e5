-- What is heard of a primary is a function of the bytes that came.
use Rattle.std.specs.Prelude.{◌≡◌, List, ℕ, Result}
use Rattle.http_answers.specs.Hearing.{Answered}
use Rattle.http_answers.specs.declared.got.GotEnd.{GotEnd}
use Rattle.follow_round.specs.Hearing.{HearsIn}
use Rattle.follow_round.specs.declared.heard.Heard.{Heard}

-- In the same bytes at most one thing is heard, with one first reply, and so the same was asked.
abbrev pub OneHeard : Type 0
OneHeard = (bytes : List ℕ) (first other : Result Answered GotEnd) (a b : Heard) → HearsIn bytes first a → HearsIn bytes other b → (first ≡ other) × (a ≡ b)
