-- How long a head may be.
use Rattle.std.specs.Prelude.{ℕ}

-- how many bytes the head of a reply has at most
abbrev pub head_limit : ℕ
head_limit = 512
