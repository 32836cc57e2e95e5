-- Limits.
use Rattle.std.specs.Prelude.{ℕ, Bool, ◌&&◌, nat_le}

-- a limit is from 1 to its greatest number
abbrev pub is_limit : (most n : ℕ) → Bool
is_limit most n = nat_le 1 n && nat_le n most
