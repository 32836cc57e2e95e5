-- What reading the next reply does: what it takes from the link and from what is held. `old` and `new` are what is held,
-- `before` and `after` what the link has left.
use Rattle.std.specs.Prelude.{◌≡◌, ◌⊎◌, ℕ, ◌<◌, ◌≤◌, ◌^◌, Bool, true, false, List, ◌++◌, length, drop, Option, Some, None, IfSome}
use Rattle.std.specs.Io.KnownBytes.{Consumes, IsAtEnd}
use Rattle.httparse.specs.Grammar.{ResponseHead, ReadsResponse, HasNoResponse, NeverHasResponse, MayBecomeResponse, print_response}
use Rattle.http_wire.specs.Taking.{Moved}
use Rattle.http_wire.specs.declared.taking.TakeStop.{TakeStop}
use Rattle.http_wire.specs.declared.taking.TakeStop.TheVariants as take
use Rattle.http_answers.specs.ReplyHeads.{Said, said}
use Rattle.http_answers.specs.declared.got.Got.{Got}
use Rattle.http_answers.specs.declared.got.GotEnd.{GotEnd}
use Rattle.http_answers.specs.declared.got.GotEnd.TheVariants as end
use Rattle.http_answers.specs.declared.parsing.Head.{Head}
use Rattle.http_answers.specs.declared.parsing.HeadRead.{HeadRead}
use Rattle.http_answers.specs.declared.parsing.HeadRead.TheVariants as found

-- how many bytes a head may have, and how many fields
abbrev pub head_limit : ℕ
head_limit = 16384

abbrev pub field_limit : ℕ
field_limit = 64

-- the bytes are this head, within the limits, and then the rest
pub record BeginsWith (bytes : List ℕ) (tree : ResponseHead) (rest : List ℕ) : Type 0 where
  pub reads : ReadsResponse bytes tree rest
  pub size : length (print_response tree) ≤ head_limit
  pub few : length tree.fields ≤ field_limit

-- no head within the limits begins the bytes, whatever follows them
abbrev pub NeverBegins : List ℕ → Type 0
NeverBegins bytes = (more : List ℕ) (tree : ResponseHead) (rest : List ℕ) → BeginsWith (bytes ++ more) tree rest → ⊥

-- the bytes begin with a head that has too many fields, or too many bytes
pub record IsCrowded (bytes : List ℕ) : Type 0 where
  pub tree : ResponseHead
  pub rest : List ℕ
  pub reads : ReadsResponse bytes tree rest
  pub many : field_limit < length tree.fields

pub record IsTooBig (bytes : List ℕ) : Type 0 where
  pub tree : ResponseHead
  pub rest : List ℕ
  pub reads : ReadsResponse bytes tree rest
  pub big : head_limit < length (print_response tree)

-- why no head within the limits begins them: none ever will; or one that passes a limit does; or none did within the limit
abbrev pub HasNoHead : List ℕ → Type 0
HasNoHead bytes =
    NeverHasResponse bytes ⊎ (IsCrowded bytes ⊎ (IsTooBig bytes ⊎ (HasNoResponse bytes × (head_limit ≤ length bytes))))

-- the bytes are a whole reply, and nothing behind it
pub record IsReply (bytes : List ℕ) (says : Said) (body : List ℕ) : Type 0 where
  pub tree : ResponseHead
  pub begins : BeginsWith bytes tree body
  pub says_is : says ≡ said tree
  pub size : says.size ≡ Some (length body)

-- the bytes begin with a head that doesn't say how long the body is
pub record LacksSize (bytes : List ℕ) : Type 0 where
  pub tree : ResponseHead
  pub rest : List ℕ
  pub begins : BeginsWith bytes tree rest
  pub none : (said tree).size ≡ None

-- the bytes begin with a head whose body has so many bytes
pub record IsLong (bytes : List ℕ) (n : ℕ) : Type 0 where
  pub tree : ResponseHead
  pub rest : List ℕ
  pub begins : BeginsWith bytes tree rest
  pub size : (said tree).size ≡ Some n

-- the bytes end inside a head, within the limit
pub record EndsInHead (bytes : List ℕ) : Type 0 where
  pub none : HasNoResponse bytes
  pub may : MayBecomeResponse bytes
  pub short : length bytes < head_limit

-- the bytes end inside the body of a reply
pub record EndsInBody (most : ℕ) (bytes : List ℕ) : Type 0 where
  pub tree : ResponseHead
  pub part : List ℕ
  pub begins : BeginsWith bytes tree part
  pub count : ℕ
  pub size : (said tree).size ≡ Some count
  pub short : length part < count
  pub within : count ≤ most

-- what a head in parts says
abbrev pub head_said : Head → Said
head_said head = record { status = head.status; front = head.front; nonce = head.nonce; size = head.more }

-- what came so far begins with this head
pub record IsWholeHead (text : List ℕ) (head : Head) : Type 0 where
  pub tree : ResponseHead
  pub reads : ReadsResponse text tree (drop head.size text)
  pub size : head.size ≡ length (print_response tree)
  pub few : length tree.fields ≤ field_limit
  pub says : head_said head ≡ said tree
  pub within : head.size ≤ length text

-- what came so far begins with this head, or with one of too many fields; or it is open whether it will; or it never will
abbrev pub IsHeadRead : List ℕ → HeadRead → Type 0
IsHeadRead text (found.Whole head) = IsWholeHead text head
IsHeadRead text found.Short = HasNoResponse text × MayBecomeResponse text
IsHeadRead text found.Crowded = IsCrowded text
IsHeadRead text found.Never = NeverHasResponse text

-- the length that a head says has 18 digits at most
abbrev pub IsBounded : HeadRead → Type 0
IsBounded (found.Whole head) = IfSome head.more (λ n. n < 10 ^ 18)
IsBounded _ = Unit {0}

-- what is held begins with this head, within the limits
pub record HasHead (text : List ℕ) (head : Head) : Type 0 where
  pub tree : ResponseHead
  pub begins : BeginsWith text tree (drop head.size text)
  pub size : head.size ≡ length (print_response tree)
  pub says : head_said head ≡ said tree

-- what was held and what the link gave is so
pub record Saw (before after : Option (List ℕ)) (old : List ℕ) (P : List ℕ → Type 0) : Type 0 where
  pub taken : List ℕ
  pub lost : Consumes before after taken
  pub is : P (old ++ taken)

-- why no head was read; of a fault of the link, and where memory ran out, nothing is said
abbrev pub StopsInHead : Option (List ℕ) → Option (List ℕ) → List ℕ → GotEnd → Type 0
StopsInHead before after old end.BadReply = Saw before after old HasNoHead
StopsInHead before after old (end.TooLong n) = ⊥
StopsInHead before after old end.Cut = Saw before after old EndsInHead × IsAtEnd after
StopsInHead before after old end.LinkFault = Unit {0}
StopsInHead before after old end.OutOfMemory = Unit {0}

-- what a reply that was read says
abbrev pub said_of : Got → Said
said_of got = record { status = got.status; front = got.front; nonce = got.nonce; size = Some (length got.body) }

-- the next reply: its bytes were used, and what came behind them is held
pub record GivesReply (most : ℕ) (before after : Option (List ℕ)) (old new : List ℕ) (got : Got) : Type 0 where
  pub used : List ℕ
  pub moved : Moved before after old used new
  pub item : IsReply used (said_of got) got.body
  pub within : length got.body ≤ most

-- why there is none: the bytes that were held and came are so; where they were cut the link has nothing left
abbrev pub EndsSo : ℕ → Option (List ℕ) → Option (List ℕ) → List ℕ → GotEnd → Type 0
EndsSo most before after old end.BadReply = Saw before after old (λ bytes. HasNoHead bytes ⊎ LacksSize bytes)
EndsSo most before after old (end.TooLong n) = Saw before after old (λ bytes. IsLong bytes n) × (most < n)
EndsSo most before after old end.Cut = Saw before after old (λ bytes. EndsInHead bytes ⊎ EndsInBody most bytes) × IsAtEnd after
EndsSo most before after old end.LinkFault = Unit {0}
EndsSo most before after old end.OutOfMemory = Unit {0}

-- why nothing more could be taken
abbrev pub end_of : TakeStop → GotEnd
end_of take.LinkFault = end.LinkFault
end_of take.OutOfMemory = end.OutOfMemory

-- where the input has ended the link has nothing left
abbrev pub EndedIf : Bool → Option (List ℕ) → Type 0
EndedIf true left = IsAtEnd left
EndedIf false left = Unit {0}
