-- The moments that a clock gives.
use Rattle.std.specs.Prelude.{Bool, pos, int_le, int_lt, ◌&&◌}
use Rattle.exact_time.specs.declared.moment.Moment.{Moment}

-- from 1970-01-01T00:00:00 on, and before 2600-01-01T00:00:00
abbrev pub is_clock_moment : Moment → Bool
is_clock_moment m = int_le (pos 0) m.micros && int_lt m.micros (pos 19_880_899_200_000_000)
