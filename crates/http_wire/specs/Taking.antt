-- What was taken from a link, and what of it is held.
use Rattle.std.specs.Prelude.{◌≡◌, ◌⊎◌, ⊤, ℕ, ◌<◌, ◌≤◌, true, false, if◌then◌else◌, List, [], ◌∷◌, ◌++◌, length, take, drop, None, Some}
use Rattle.std.specs.List.{list_all}
use Rattle.std.specs.declared.option.Option.{Option}
use Rattle.std.specs.Io.KnownBytes.{Consumes, IsAtEnd}
use Rattle.http_wire.specs.Blocks.{NoBlock, IsBlock}
use Rattle.http_wire.specs.Fronts.{is_blank_byte, begins_blank, IsFront}
use Rattle.http_wire.specs.declared.block.BlockEnd.{BlockEnd}
use Rattle.http_wire.specs.declared.block.BlockEnd.TheVariants.{Block, Long, Ended}
use Rattle.http_wire.specs.declared.front.Front.{Front}

-- what is held grew by what the link lost
pub record TookMore (before after : Option (List ℕ)) (old new : List ℕ) : Type 0 where
  pub taken : List ℕ
  pub lost : Consumes before after taken
  pub held : new ≡ old ++ taken

-- bytes went from the link to what is held, and the used ones from there
pub record Moved (before after : Option (List ℕ)) (old used new : List ℕ) : Type 0 where
  pub taken : List ℕ
  pub lost : Consumes before after taken
  pub split : old ++ taken ≡ used ++ new

-- a link that tells what it has left has it still
abbrev pub Stays : Option (List ℕ) → Option (List ℕ) → Type 0
Stays None after = ⊤
Stays (Some left) after = after ≡ Some left

-- nothing was taken, as far as the link tells, or something was lacking
abbrev pub TakesOnlyIf : Type 0 → Option (List ℕ) → Option (List ℕ) → Type 0
TakesOnlyIf Lack before after = Stays before after ⊎ Lack

-- the front of what is held isn't whole: no block ends in it, and there is room for more
abbrev pub IsCutFront : ℕ → List ℕ → Type 0
IsCutFront limit held = (front : List ℕ) × IsFront limit held Ended front []

-- the text ends its first block within the limit, or goes on past the limit without, or ended before
abbrev pub StopsAs : ℕ → List ℕ → BlockEnd → Type 0
StopsAs limit text (Block n) = IsBlock text n × (n ≤ limit)
StopsAs limit text Long = (limit ≤ length text) × NoBlock text limit
StopsAs limit text Ended = (length text < limit) × NoBlock text (length text)

-- the link has nothing left where its end was the answer
abbrev pub AtEndIf : Option (List ℕ) → BlockEnd → Type 0
AtEndIf left Ended = IsAtEnd left
AtEndIf left _ = Unit {0}

-- the bytes from the first on that isn't blank
abbrev pub skip_blank : List ℕ → List ℕ
skip_blank [] = []
skip_blank (b ∷ bytes) = if is_blank_byte b then skip_blank bytes else b ∷ bytes

-- n blank bytes were let go, and bytes were taken from the link
pub record LetGo (before after : Option (List ℕ)) (old : List ℕ) (n : ℕ) (new : List ℕ) : Type 0 where
  pub blanks : List ℕ
  pub count : length blanks ≡ n
  pub moved : Moved before after old blanks new
  pub blank : list_all is_blank_byte blanks ≡ true

-- what is held then doesn't begin with a blank byte; nothing is held only at the end or at the limit
pub record Skipped (limit : ℕ) (before after : Option (List ℕ)) (old : List ℕ) (n : ℕ) (new : List ℕ) : Type 0 where
  pub gone : LetGo before after old n new
  pub starts : begins_blank new ≡ false
  pub ended : new ≡ [] → n < limit → IsAtEnd after

-- how many bytes of what is held are the front
abbrev pub front_size : BlockEnd → ℕ → ℕ → ℕ
front_size (Block n) held room = n
front_size Long held room = room
front_size Ended held room = held

-- what is held begins with a front, behind the blank bytes that were let go
pub record FrontRead (limit : ℕ) (before after : Option (List ℕ)) (old new : List ℕ) (front : Front) : Type 0 where
  pub taken : List ℕ
  pub lost : Consumes before after taken
  pub within : front.size ≤ length new
  pub is_front : IsFront limit (old ++ taken) front.kind (take front.size new) (drop front.size new)
