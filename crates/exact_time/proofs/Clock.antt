-- What the test of a clock's moment says.
use Rattle.std.proofs.Common.{◌≡◌, pos, ◌≤ℤ◌, ◌<ℤ◌, true, arith}
use Rattle.std.specs.Prelude.{int_le, int_lt}
use Rattle.std.proofs.lemmas.Bool.{and_parts}
use Rattle.std.proofs.lemmas.Int.{ints}
use Rattle.exact_time.specs.Clock.{is_clock_moment}
use Rattle.exact_time.specs.declared.moment.Moment.{Moment}

pub since_1970 : (m : Moment) → is_clock_moment m ≡ true → pos 0 ≤ℤ m.micros
since_1970 m is = let first = (and_parts (int_le (pos 0) m.micros) (int_lt m.micros (pos 19_880_899_200_000_000)) is).0 in grind (arith, ints)

pub before_2600 : (m : Moment) → is_clock_moment m ≡ true → m.micros <ℤ pos 19_880_899_200_000_000
before_2600 m is = let second = (and_parts (int_le (pos 0) m.micros) (int_lt m.micros (pos 19_880_899_200_000_000)) is).1 in grind (arith, ints)
