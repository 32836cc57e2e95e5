-- What is heard of a peer, as a function of the bytes that came and of whether the link failed.
use Rattle.std.specs.Prelude.{◌≡◌, ◌⊎◌, ℕ, ◌<◌, ◌≤◌, Bool, true, false, List, ◌++◌, length, Result, Ok, Err, Option}
use Rattle.http_answers.specs.ReplyHeads.{Said}
use Rattle.http_answers.specs.Reading.{IsReply, HasNoHead, LacksSize, IsLong, EndsInHead, EndsInBody, GivesReply, EndsSo, Saw, said_of}
use Rattle.http_answers.specs.declared.got.Got.{Got}
use Rattle.http_answers.specs.declared.got.GotEnd.{GotEnd}
use Rattle.http_answers.specs.declared.got.GotEnd.TheVariants as end

-- a reply in front of some bytes, and what is behind it
pub record Answered : Type 0 where
  pub says : Said
  pub body : List ℕ
  pub rest : List ℕ

abbrev pub answered : Got → List ℕ → Answered
answered got rest = record { says = said_of got; body = got.body; rest = rest }

-- the bytes begin with this reply, whose body has `most` bytes at most; or with none, and this is why
abbrev pub Answers : ℕ → List ℕ → Result Answered GotEnd → Type 0
Answers most bytes (Ok x) = (used : List ℕ) × (bytes ≡ used ++ x.rest) × IsReply used x.says x.body × (length x.body ≤ most)
Answers most bytes (Err end.BadReply) = HasNoHead bytes ⊎ LacksSize bytes
Answers most bytes (Err (end.TooLong n)) = IsLong bytes n × (most < n)
Answers most bytes (Err end.Cut) = EndsInHead bytes ⊎ EndsInBody most bytes
Answers most bytes (Err end.LinkFault) = ⊥
Answers most bytes (Err end.OutOfMemory) = ⊥

-- what is heard where these bytes were held and came, and the link failed or didn't
abbrev pub Hears : ℕ → List ℕ → Bool → Result Answered GotEnd → Type 0
Hears most bytes true heard = heard ≡ Err end.LinkFault
Hears most bytes false heard = Answers most bytes heard

-- the bytes determine this end
abbrev pub IsByBytes : GotEnd → Type 0
IsByBytes end.LinkFault = ⊥
IsByBytes end.OutOfMemory = ⊥
IsByBytes _ = Unit {0}

-- Of all bytes at most one is heard.
abbrev pub OneHearing : Type 0
OneHearing = (most : ℕ) (bytes : List ℕ) (failed : Bool) (a b : Result Answered GotEnd) → Hears most bytes failed a → Hears most bytes failed b → a ≡ b

-- Each reply that a reading gives is the one that is heard in what was held and came, and so is each end but a fault of the link
-- and want of memory.
abbrev pub ReplyIsHeard : Type 0
ReplyIsHeard = (most : ℕ) (before after : Option (List ℕ)) (old new : List ℕ) (got : Got)
    → GivesReply most before after old new got → Saw before after old (λ bytes. Answers most bytes (Ok (answered got new)))

abbrev pub EndIsHeard : Type 0
EndIsHeard = (most : ℕ) (before after : Option (List ℕ)) (old : List ℕ) (why : GotEnd)
    → EndsSo most before after old why → IsByBytes why → Saw before after old (λ bytes. Answers most bytes (Err why))
