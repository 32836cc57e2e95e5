-- What is heard of a primary on one link: two replies, the first of which asks for credentials.
use Rattle.std.specs.Prelude.{◌≡◌, ◌⊎◌, ℕ, ◌==◌, if◌then◌else◌, MatchBool, List, Option, None, Some, IfSome, Result, Ok, Err}
use Rattle.std.specs.Io.KnownBytes.{Consumes, IsAtEnd}
use Rattle.exact_time.specs.Causes.{Rose}
use Rattle.streams.specs.Effects.{Grew, WritesPart}
use Rattle.streams.specs.View.{StreamView}
use Rattle.http_answers.specs.Hearing.{Answered, Answers}
use Rattle.http_answers.specs.declared.got.GotEnd.{GotEnd}
use Rattle.http_answers.specs.declared.got.GotEnd.TheVariants as end
use Rattle.follow_round.specs.Requests.{requests}
use Rattle.follow_round.specs.declared.heard.Heard.{Heard}
use Rattle.follow_round.specs.declared.heard.Heard.TheVariants.{Brought, CaughtUp, Peer, BadReply, Lost}

-- how many bytes a body may have
abbrev pub most_body : ℕ
most_body = 67_108_864

-- what is heard where bytes begin with no reply, or end in one
abbrev pub HeardAtEnd : GotEnd → Heard → Type 0
HeardAtEnd end.BadReply heard = heard ≡ BadReply
HeardAtEnd (end.TooLong n) heard = heard ≡ BadReply
HeardAtEnd end.Cut heard = heard ≡ Lost
HeardAtEnd end.LinkFault heard = ⊥
HeardAtEnd end.OutOfMemory heard = ⊥

-- what the second reply says: entries, or that there are none yet
abbrev pub second_says : Answered → Heard
second_says x = if x.says.status == 200 then Brought x.body else (if x.says.status == 204 then CaughtUp else Peer x.says.status)

abbrev pub HearsSecond : Result Answered GotEnd → Heard → Type 0
HearsSecond (Ok x) heard = heard ≡ second_says x
HearsSecond (Err why) heard = HeardAtEnd why heard

-- what is heard behind a challenge that has this nonce, or none
abbrev pub HearsBehind : Option (List ℕ) → List ℕ → Heard → Type 0
HearsBehind None rest heard = heard ≡ BadReply
HearsBehind (Some nonce) rest heard = (second : Result Answered GotEnd) × Answers most_body rest second × HearsSecond second heard

-- what the first reply says: it has to ask for credentials
abbrev pub HearsFirst : Result Answered GotEnd → Heard → Type 0
HearsFirst (Ok x) heard = MatchBool (x.says.status == 401) (HearsBehind x.says.nonce x.rest heard) (heard ≡ Peer x.says.status)
HearsFirst (Err why) heard = HeardAtEnd why heard

-- the nonce that a first reply tells
abbrev pub nonce_told : Result Answered GotEnd → Option (List ℕ)
nonce_told (Ok x) = if x.says.status == 401 then x.says.nonce else None
nonce_told (Err why) = None

-- These bytes came on a link: the first reply in them is this, and this is heard.
abbrev pub HearsIn : List ℕ → Result Answered GotEnd → Heard → Type 0
HearsIn bytes first heard = Answers most_body bytes first × HearsFirst first heard

-- The link didn't fail. What came on it says what is heard, and what was written is the first request, and the second one where the
-- first reply tells a nonce. The connection is lost where the link had nothing left before a reply ended.
pub record IsHeard (user ha1 : List ℕ) (wanted : ℕ) (before after : StreamView) (heard : Heard) : Type 0 where
  pub taken : List ℕ
  pub lost : Consumes before.left after.left taken
  pub first : Result Answered GotEnd
  pub hears : HearsIn taken first heard
  pub wrote : Grew before.written after.written (requests user ha1 wanted (nonce_told first))
  pub ended : heard ≡ Lost → IsAtEnd after.left

-- what the link has left begins with a first reply that tells this nonce
pub record TellsNonce (left : Option (List ℕ)) (nonce : List ℕ) : Type 0 where
  pub taken : List ℕ
  pub later : Option (List ℕ)
  pub lost : Consumes left later taken
  pub first : Result Answered GotEnd
  pub came : Answers most_body taken first
  pub told : nonce_told first ≡ Some nonce

-- A first part of the requests was written, and of the second one only where the first reply tells its nonce.
pub record WrotePart (user ha1 : List ℕ) (wanted : ℕ) (before after : StreamView) : Type 0 where
  pub nonce : Option (List ℕ)
  pub told : IfSome nonce (TellsNonce before.left)
  pub part : WritesPart before.written after.written (requests user ha1 wanted nonce)

-- This is heard on a link: by what came, or since the link failed.
abbrev pub HeardOn : List ℕ → List ℕ → ℕ → StreamView → StreamView → Heard → Type 0
HeardOn user ha1 wanted before after heard =
    IsHeard user ha1 wanted before after heard
    ⊎ ((heard ≡ Lost) × Rose before.faults after.faults × WrotePart user ha1 wanted before after)
