-- Worked examples of the definitions.
use Rattle.std.proofs.Common.{◌≡◌, ℕ, true, false, refl, codes, [], ◌∷◌, None, Some, Ok, Err, Result, arith}
use Rattle.exact_time.specs.declared.error.Failed.{Failed}
use Rattle.streams.specs.Calls.{fresh, is_to_fail, one_more}
use Rattle.streams.specs.Effects.{Grew, Takes, Puts, WritesPart}
use Rattle.streams.specs.Memory.{part_for, room_behind}
use Rattle.streams.specs.Pieces.{bytes_behind, pieces_behind, GivesPiece}
use Rattle.streams.specs.View.{StreamView, GoesOn}
use Rattle.streams.specs.declared.tally.Tally.{Tally}

-- three bytes of the second piece are gone
left : bytes_behind (codes "IU" ∷ codes "ANMO" ∷ codes "BHZ" ∷ []) 1 3 ≡ codes "OBHZ"
left = refl

-- the same in pieces, and two bytes more taken of the first
left_in_pieces : pieces_behind (codes "IU" ∷ codes "ANMO" ∷ [] ∷ codes "BHZ" ∷ []) 1 1 ≡ codes "NMO" ∷ codes "BHZ" ∷ []
left_in_pieces = refl

takes_two : GivesPiece (codes "NMO" ∷ codes "BHZ" ∷ []) (codes "O" ∷ codes "BHZ" ∷ []) 2 2
takes_two = (refl, refl)

takes_a_piece : GivesPiece (codes "NMO" ∷ codes "BHZ" ∷ []) (codes "BHZ" ∷ []) 3 512
takes_a_piece = (refl, refl)

-- the third call is one that fails, and the first isn't
abbrev two_calls : Tally
two_calls = record { fails = 3 ∷ []; calls = 2; faults = 0 }

third : is_to_fail two_calls ≡ true
third = refl

first : is_to_fail (fresh (3 ∷ [])) ≡ false
first = refl

-- a call past the greatest number has none
last_call : is_to_fail (record { fails = 18446744073709551615 ∷ []; calls = 18446744073709551615; faults = 0 }) ≡ false
last_call = refl

no_more : one_more 18446744073709551615 ≡ 18446744073709551615
no_more = refl

-- of seven bytes there is room for two, and then for none
room_for_two : part_for (Some 2) 7 ≡ 2
room_for_two = refl

no_more_room : room_behind (Some 2) 2 ≡ Some 0
no_more_room = refl

grew : Grew (Some (codes "IU")) (Some (codes "IU ANMO")) (codes " ANMO")
grew = refl

-- a link with three bytes left, which gives two of them, takes two of seven, fails, and loses a piece
abbrev three_left : StreamView
three_left = record { left = Some (codes "BHZ"); written = Some []; faults = 0 }

abbrev one_left : StreamView
one_left = record { left = Some (codes "Z"); written = Some []; faults = 0 }

abbrev two_written : StreamView
two_written = record { left = Some (codes "Z"); written = Some (codes "IU"); faults = 0 }

abbrev failed : StreamView
failed = record { left = Some (codes "Z"); written = Some (codes "IU"); faults = 1 }

abbrev lost : StreamView
lost = record { left = Some (codes "Z"); written = None; faults = 1 }

two_taken : Takes three_left one_left (let r : Result ℕ Failed = Ok 2 in r) (codes "BH")
two_taken = record { bound = (omega arith, omega arith); bytes = (refl, λ none. absurd (cc)); kept = refl; cause = record { later = omega arith; failed = tt } }

two_put : Puts one_left two_written (let r : Result ℕ Failed = Ok 2 in r) (codes "IU ANMO")
two_put = record { bound = omega arith; progress = λ _. omega arith; bytes = refl; kept = refl; cause = record { later = omega arith; failed = tt } }

none_put : (fault : Failed) → Puts two_written failed (let r : Result ℕ Failed = Err fault in r) (codes " ANMO")
none_put fault = record { bound = tt; progress = tt; bytes = refl; kept = refl; cause = record { later = omega arith; failed = omega arith } }

a_part : WritesPart one_left.written failed.written (codes "IU ANMO")
a_part = record { part = codes "IU"; rest = codes " ANMO"; split = refl; output = refl }

-- what was lost isn't told, and what is left is
goes_on : GoesOn failed lost
goes_on = record { later = omega arith; told = λ _. refl; untold = λ _. refl }
