-- What the test of bytes says.
use Rattle.std.proofs.Common.{◌≡◌, ℕ, zero, suc, ◌+◌, true, List, [], ◌∷◌, drop, arith, refl}
use Rattle.std.specs.Prelude.{nat_lt}
use Rattle.std.proofs.lemmas.Bool.{and_parts}
use Rattle.std.proofs.lemmas.Bool.Decides.{nat_tests}
use Rattle.std.proofs.lemmas.List.{get_or-drop}
use Rattle.mseed_header.specs.Octets.{AreOctets, are_octets}

pub octets_from : (bytes : List ℕ) → are_octets bytes ≡ true → AreOctets bytes
octets_from [] is i = omega arith
octets_from (b ∷ bytes) is zero = let parts = and_parts (nat_lt b 256) (are_octets bytes) is in let first = parts.0 in grind (arith, nat_tests)
octets_from (b ∷ bytes) is (suc i) = octets_from bytes (and_parts (nat_lt b 256) (are_octets bytes) is).1 i

pub octets_to : (bytes : List ℕ) → AreOctets bytes → are_octets bytes ≡ true
octets_to [] h = refl
octets_to (b ∷ bytes) h = let first = h 0 in let small : nat_lt b 256 ≡ true = grind (arith, nat_tests) in rw small (octets_to bytes (λ i. h (suc i)))

pub octets_behind : (n : ℕ) (bytes : List ℕ) → AreOctets bytes → AreOctets (drop n bytes)
octets_behind n bytes h i = rw get_or-drop (h (n + i))
