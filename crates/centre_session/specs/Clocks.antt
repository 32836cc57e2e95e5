-- The moments that a clock gave.
use Rattle.std.specs.Prelude.{◌≡◌, ◌==◌, if◌then◌else◌, replicate, List, [], ◌∷◌, ◌++◌, ⊤, Option, None, Some}
use Rattle.exact_time.specs.declared.moment.Moment.{Moment}
use Rattle.centre_session.specs.declared.fixed.FixedClock.{FixedClock}

-- The clock gave these moments besides. A clock that no longer tells what it gave never tells it again.
abbrev pub GaveAll : Option (List Moment) → Option (List Moment) → List Moment → Type 0
GaveAll old None moments = ⊤
GaveAll None (Some new) moments = ⊥
GaveAll (Some old) (Some new) moments = new ≡ old ++ moments

abbrev pub Gave : Option (List Moment) → Option (List Moment) → Moment → Type 0
Gave old new moment = GaveAll old new (moment ∷ [])

-- a fixed clock gave its moment so often; it tells that until its count is full
abbrev pub given_by : FixedClock → Option (List Moment)
given_by clock = if clock.calls == 18446744073709551615 then None else Some (replicate clock.calls clock.moment)
