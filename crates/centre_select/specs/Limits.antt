-- How long an input may be.
use Rattle.std.specs.Prelude.{ℕ}

-- how many bytes the input of `select` may have: 64 MiB
abbrev pub most_input : ℕ
most_input = 67_108_864
