-- Counts that rise, and stay at the greatest number of their type.
use Rattle.std.specs.Prelude.{ℕ, ◌+◌, ◌-◌, ◌^◌, ◌≤◌, min}

-- the count rose by this much at least, or stands at the greatest number of its type
abbrev pub RoseBy : ℕ → ℕ → ℕ → Type 0
RoseBy n before now = min (before + n) (2 ^ 64 - 1) ≤ now

-- the count rose by so much at least
pub record RoseAtLeast (least before now : ℕ) : Type 0 where
  pub later : before ≤ now
  pub at_least : RoseBy least before now

-- the count rose by so much at least and so much at most
pub record RoseWithin (least most before now : ℕ) : Type 0 where
  pub later : before ≤ now
  pub at_least : RoseBy least before now
  pub at_most : now ≤ before + most
