-- Where the block of a request's head ends (RFC 9112, section 2.1: the empty line behind the fields).
use Rattle.std.specs.Prelude.{◌≡◌, ℕ, ◌<◌, ◌≤◌, ◌⊎◌, List, [], ◌∷◌, ◌++◌, length, take}
use Rattle.httparse.specs.Ascii.{line_feed, carriage_return}

-- the text ends with LF LF or with LF CR LF
abbrev pub EndsBlock : List ℕ → Type 0
EndsBlock text =
    (front : List ℕ) × ((text ≡ front ++ line_feed ∷ line_feed ∷ []) ⊎ (text ≡ front ++ line_feed ∷ carriage_return ∷ line_feed ∷ []))

-- no part from the start on, of at most n bytes, ends a block
abbrev pub NoBlock : List ℕ → ℕ → Type 0
NoBlock text n = (m : ℕ) → m ≤ n → EndsBlock (take m text) → ⊥

-- the shortest part from the start on that ends a block has n bytes
pub record IsBlock (text : List ℕ) (n : ℕ) : Type 0 where
  pub within : n ≤ length text
  pub ends : EndsBlock (take n text)
  pub first : (m : ℕ) → m < n → EndsBlock (take m text) → ⊥
