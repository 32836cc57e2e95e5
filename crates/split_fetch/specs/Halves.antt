-- A window in its halves.
use Rattle.std.specs.Prelude.{ℤ, pos, ◌+ℤ◌, ◌/◌, Bool, int_lt}
use Rattle.std.specs.Int.{int_gap}
use Rattle.split_fetch.specs.declared.window.Window.{Window}

-- the last moment of the earlier half: a + (b - a) div 2
abbrev pub middle_of : Window → ℤ
middle_of w = w.start.micros +ℤ pos (int_gap w.start.micros w.end.micros / 2)

-- there is more than one moment in it
abbrev pub can_split : Window → Bool
can_split w = int_lt w.start.micros w.end.micros

-- from a to the middle
abbrev pub left_of : Window → Window
left_of w = record { start = w.start; end = record { micros = middle_of w } }

-- from one microsecond behind the middle to b
abbrev pub right_of : Window → Window
right_of w = record { start = record { micros = middle_of w +ℤ pos 1 }; end = w.end }
