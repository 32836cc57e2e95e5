-- What a caller's shares count.
use Rattle.std.specs.Prelude.{ℕ, ◌+◌}

-- how many entries were made, and how often a disk stopped the caller
pub record Tally : Type 0 where
  pub made : ℕ
  pub stops : ℕ

abbrev pub tally : ℕ → ℕ → Tally
tally made stops = record { made = made; stops = stops }

abbrev pub with_entry : Tally → Tally
with_entry t = tally (t.made + 1) t.stops

abbrev pub with_stop : Tally → Tally
with_stop t = tally t.made (t.stops + 1)
