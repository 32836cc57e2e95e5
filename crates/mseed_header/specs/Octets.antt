-- Lists of bytes: a law on lists speaks of bytes by these words, where a slice has them by its type.
use Rattle.std.specs.Prelude.{ℕ, ◌<◌, List, slice_index, Bool, nat_lt}
use Rattle.std.specs.List.{list_all}

-- each number of the list is a byte
abbrev pub AreOctets : List ℕ → Type 0
AreOctets bytes = (i : ℕ) → slice_index bytes i < 256

-- the test for that
abbrev pub are_octets : List ℕ → Bool
are_octets bytes = list_all (λ b. nat_lt b 256) bytes
