-- Which spans of a block are lawful fields.
use Rattle.std.specs.Prelude.{ℕ, ◌&&◌, Bool, List}
use Rattle.httparse.specs.Grammar.{is_token}
use Rattle.http_wire.specs.Heads.{is_value}

-- a token, and a value
abbrev pub is_lawful_pair : List ℕ × List ℕ → Bool
is_lawful_pair field = is_token field.0 && is_value field.1
