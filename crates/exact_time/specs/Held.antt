-- The bytes that a value holds.
use Rattle.std.specs.Prelude.{ℕ, List}
use Rattle.exact_time.specs.declared.growing.Held.{Held}
use Rattle.exact_time.specs.declared.growing.Held.TheVariants.{Own, Shared}

abbrev pub held_bytes : Held → List ℕ
held_bytes (Own own) = own.items
held_bytes (Shared part) = part
