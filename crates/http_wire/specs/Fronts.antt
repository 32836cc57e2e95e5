-- How a stream of bytes begins: with blank bytes, and then with the front of a request, which is its block
-- or, where no block ends in time, what is looked at instead.
use Rattle.std.specs.Prelude.{◌≡◌, ℕ, ◌-◌, ◌+◌, ◌<◌, ◌≤◌, ◌||◌, not, ◌==◌, Bool, false, true, if◌then◌else◌, nat_lt, List, [], ◌∷◌, ◌++◌, length}
use Rattle.std.specs.List.{list_all, prefix_len}
use Rattle.httparse.specs.Ascii.{line_feed, carriage_return, space}
use Rattle.http_wire.specs.Blocks.{NoBlock, IsBlock}
use Rattle.http_wire.specs.declared.block.BlockEnd.{BlockEnd}
use Rattle.http_wire.specs.declared.block.BlockEnd.TheVariants.{Block, Long, Ended}

-- how many bytes may pass before a block has ended, the blank ones in front counted
abbrev pub front_limit : ℕ
front_limit = 16384

-- a byte that is skipped before a request
abbrev pub is_blank_byte : ℕ → Bool
is_blank_byte b = b == carriage_return || b == line_feed

-- the first byte, if there is one, is blank
abbrev pub begins_blank : List ℕ → Bool
begins_blank [] = false
begins_blank (b ∷ bytes) = is_blank_byte b

-- How a front, behind `skipped` blank bytes and before the rest, ends: it is a block that ends within the
-- limit; or it is all up to the limit, and no block ends there; or it is all that there is, below the
-- limit, and no block ends there.
abbrev pub FrontStops : ℕ → ℕ → List ℕ → List ℕ → BlockEnd → Type 0
FrontStops limit skipped front rest (Block n) = IsBlock front n × (n ≡ length front) × (skipped + n ≤ limit)
FrontStops limit skipped front rest Long = (length front ≡ limit - skipped) × NoBlock front (length front)
FrontStops limit skipped front rest Ended = (skipped + length front < limit) × NoBlock front (length front) × (rest ≡ [])

-- the bytes are blank ones, then this front of a request, and then the rest
pub record IsFront (limit : ℕ) (bytes : List ℕ) (kind : BlockEnd) (front rest : List ℕ) : Type 0 where
  pub blanks : List ℕ
  pub split : bytes ≡ blanks ++ (front ++ rest)
  pub skipped : list_all is_blank_byte blanks ≡ true
  pub starts : begins_blank front ≡ false
  pub stops : FrontStops limit (length blanks) front rest kind

-- how many bytes a target may have
abbrev pub target_limit : ℕ
target_limit = 8000

-- a byte that ends a target
abbrev pub is_stop : ℕ → Bool
is_stop b = b == space || b == carriage_return || b == line_feed

-- what follows the first space of the first line
abbrev pub after_space : List ℕ → List ℕ
after_space [] = []
after_space (b ∷ bytes) = if b == space then bytes else (if b == line_feed then [] else after_space bytes)

-- more bytes than a target may have follow that space before a space, CR or LF
abbrev pub has_long_target : List ℕ → Bool
has_long_target text = nat_lt target_limit (prefix_len (λ b. not (is_stop b)) (after_space text))
