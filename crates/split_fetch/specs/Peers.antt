-- What is asked of a data centre on one link, and what is heard on it.
use Rattle.std.specs.Prelude.{◌≡◌, ◌==◌, ◌||◌, ℕ, Bool, true, false, pos, List, ◌++◌, Option, None, Some, Result, Ok, Err, MatchBool, codes}
use Rattle.std.specs.Io.KnownBytes.{Consumes}
use Rattle.exact_time.specs.Causes.{Rose}
use Rattle.exact_time.specs.declared.moment.Moment.{Moment}
use Rattle.mseed_header.specs.Records.{AreRecords, IsFirstBad}
use Rattle.mseed_header.specs.declared.header.RecordFault.{RecordFault}
use Rattle.streams.specs.Effects.{Grew, WritesPart}
use Rattle.streams.specs.View.{StreamView}
use Rattle.http_answers.specs.Hearing.{Answered, Hears}
use Rattle.http_answers.specs.declared.got.GotEnd.{GotEnd}
use Rattle.http_answers.specs.declared.got.GotEnd.TheVariants as end
use Rattle.split_fetch.specs.Targets.{target_bytes}
use Rattle.split_fetch.specs.declared.asked.Codes.{Codes}
use Rattle.split_fetch.specs.declared.heard.Heard.{Heard}
use Rattle.split_fetch.specs.declared.heard.Heard.TheVariants.{Lost, Peer, BadReply, TooMuch, Got}
use Rattle.split_fetch.specs.declared.window.Window.{Window}

-- the request for a window: one on each link
abbrev pub window_request : Codes → Window → List ℕ
window_request c w = codes "GET " ++ (target_bytes c w ++ codes " HTTP/1.1\r\nhost: localhost\r\nconnection: close\r\n\r\n")

-- how many bytes a reply's body may have
abbrev pub most_body : ℕ
most_body = 67_108_864

-- records of a reply came at no moment that counts
abbrev pub any_moment : Moment
any_moment = record { micros = pos 0 }

-- what the body of an answer over so many entries says: its records, or that some bytes are none
abbrev pub HasRecords : ℕ → List ℕ → Heard → Type 0
HasRecords front body (Got told rows) = (told ≡ front) × AreRecords body 0 any_moment rows
HasRecords front body BadReply = (at : ℕ) × (fault : RecordFault) × IsFirstBad body at fault
HasRecords front body _ = ⊥

-- an answer without a front can't be used
abbrev pub WithFront : Option ℕ → List ℕ → Heard → Type 0
WithFront None body heard = heard ≡ BadReply
WithFront (Some front) body heard = HasRecords front body heard

-- what a reply says: records, where its status is 200, or none where it is 204; too much, where it is 413
abbrev pub IsSaid : Answered → Heard → Type 0
IsSaid x heard =
    MatchBool (x.says.status == 200 || x.says.status == 204) (WithFront x.says.front x.body heard)
    (MatchBool (x.says.status == 413) (heard ≡ TooMuch) (heard ≡ Peer x.says.status))

-- what is heard where this was read: a connection that was cut or failed is lost
abbrev pub HeardIn : Result Answered GotEnd → Heard → Type 0
HeardIn (Ok x) heard = IsSaid x heard
HeardIn (Err end.BadReply) heard = heard ≡ BadReply
HeardIn (Err (end.TooLong n)) heard = heard ≡ BadReply
HeardIn (Err end.Cut) heard = heard ≡ Lost
HeardIn (Err end.LinkFault) heard = heard ≡ Lost
HeardIn (Err end.OutOfMemory) heard = ⊥

-- The window was asked for on a link, and this was heard: by the bytes that came and whether the link failed. Where it didn't, the
-- request was written and nothing else; where it did, a first part of it.
pub record HeardOn (c : Codes) (w : Window) (before after : StreamView) (heard : Heard) : Type 0 where
  pub taken : List ℕ
  pub failed : Bool
  pub lost : failed ≡ false → Consumes before.left after.left taken
  pub rose : failed ≡ true → Rose before.faults after.faults
  pub answer : Result Answered GotEnd
  pub hears : Hears most_body taken failed answer
  pub is : HeardIn answer heard
  pub whole : failed ≡ false → Grew before.written after.written (window_request c w)
  pub part : WritesPart before.written after.written (window_request c w)

-- Of the same bytes at most one thing is heard.
abbrev pub OneHeard : Type 0
OneHeard = (taken : List ℕ) (failed : Bool) (a b : Result Answered GotEnd) (h k : Heard)
    → Hears most_body taken failed a → Hears most_body taken failed b → HeardIn a h → HeardIn b k → h ≡ k
