-- One request and its reply, as a step of a round. `old` and `new` are what is held, `before` and `after` what is told of the link.
use Rattle.std.specs.Prelude.{◌≡◌, ◌⊎◌, ℕ, ◌≤◌, List, ◌++◌, Result, Ok, Err}
use Rattle.std.specs.Io.KnownBytes.{Consumes, IsAtEnd}
use Rattle.exact_time.specs.Causes.{Rose}
use Rattle.streams.specs.Effects.{Grew, WritesPart}
use Rattle.streams.specs.View.{StreamView}
use Rattle.http_answers.specs.Hearing.{Answered, Answers}
use Rattle.http_answers.specs.Reading.{GivesReply, EndsSo}
use Rattle.http_answers.specs.declared.got.Got.{Got}
use Rattle.http_answers.specs.declared.got.GotEnd.{GotEnd}
use Rattle.http_answers.specs.declared.got.GotEnd.TheVariants as end
use Rattle.exact_time.specs.declared.error.OutOfMemory.{OutOfMemory}
use Rattle.follow_round.specs.Hearing.{most_body, HearsSecond}
use Rattle.follow_round.specs.declared.heard.Heard.{Heard}
use Rattle.follow_round.specs.declared.heard.Heard.TheVariants as heard

-- the request was written, and this reply came
pub record GotReply (request : List ℕ) (before after : StreamView) (old new : List ℕ) (got : Got) : Type 0 where
  pub later : before.faults ≤ after.faults
  pub wrote : Grew before.written after.written request
  pub reply : GivesReply most_body before.left after.left old new got

-- the request was written, and no reply came
pub record GotNone (request : List ℕ) (before after : StreamView) (old : List ℕ) (why : GotEnd) : Type 0 where
  pub wrote : Grew before.written after.written request
  pub ends : EndsSo most_body before.left after.left old why

-- why an exchange gave no reply: for what came; or the link failed, or there was no memory, and a first part was written
abbrev pub Breaks : List ℕ → StreamView → StreamView → List ℕ → GotEnd → Type 0
Breaks request before after old end.LinkFault = WritesPart before.written after.written request × Rose before.faults after.faults
Breaks request before after old end.OutOfMemory = WritesPart before.written after.written request
Breaks request before after old why = GotNone request before after old why

abbrev pub Exchanged : List ℕ → StreamView → StreamView → List ℕ → List ℕ → Result Got GotEnd → Type 0
Exchanged request before after old new (Ok got) = GotReply request before after old new got
Exchanged request before after old new (Err why) = Breaks request before after old why

-- what is heard where no reply came
abbrev pub ended_so : GotEnd → Result Heard OutOfMemory
ended_so end.BadReply = Ok heard.BadReply
ended_so (end.TooLong n) = Ok heard.BadReply
ended_so end.Cut = Ok heard.Lost
ended_so end.LinkFault = Ok heard.Lost
ended_so end.OutOfMemory = Err (record {})

-- what is heard of a request's reply by what was held and came
pub record SecondHeard (request : List ℕ) (before after : StreamView) (old : List ℕ) (h : Heard) : Type 0 where
  pub taken : List ℕ
  pub lost : Consumes before.left after.left taken
  pub second : Result Answered GotEnd
  pub came : Answers most_body (old ++ taken) second
  pub says : HearsSecond second h
  pub wrote : Grew before.written after.written request
  pub ended : h ≡ heard.Lost → IsAtEnd after.left

-- and where the link failed
abbrev pub HeardBehind : List ℕ → StreamView → StreamView → List ℕ → Heard → Type 0
HeardBehind request before after old h =
    SecondHeard request before after old h
    ⊎ ((h ≡ heard.Lost) × Rose before.faults after.faults × WritesPart before.written after.written request)
