-- What a round does: what is heard on the link, what the replica takes, and what is answered.
use Rattle.std.specs.Prelude.{◌≡◌, ℕ, ◌+◌, List, Result, Ok, Err}
use Rattle.streams.specs.View.{StreamView}
use Rattle.disk_model.specs.View.{DiskView}
use Rattle.archive_log.specs.Archive.{Archived}
use Rattle.follow_replica.specs.Takes.{TakesRow}
use Rattle.follow_replica.specs.declared.fault.TakeFault.{TakeFault}
use Rattle.follow_round.specs.Hearing.{HeardOn, WrotePart}
use Rattle.follow_round.specs.declared.heard.Heard.{Heard}
use Rattle.follow_round.specs.declared.heard.Heard.TheVariants as heard
use Rattle.follow_round.specs.declared.outcome.Round.{Round}
use Rattle.follow_round.specs.declared.outcome.Round.TheVariants.{Added, CaughtUp}
use Rattle.follow_round.specs.declared.outcome.RoundFault.{RoundFault}
use Rattle.follow_round.specs.declared.outcome.RoundFault.TheVariants.{Lost, Peer, BadReply, Take, OutOfMemory}

-- what is answered, by what was heard and what the take of a body answered
abbrev pub answer_of : Heard → Result ℕ TakeFault → Result Round RoundFault
answer_of (heard.Brought body) (Ok count) = Ok (Added count)
answer_of (heard.Brought body) (Err fault) = Err (Take fault)
answer_of heard.CaughtUp taken = Ok CaughtUp
answer_of (heard.Peer status) taken = Err (Peer status)
answer_of heard.BadReply taken = Err BadReply
answer_of heard.Lost taken = Err Lost

-- a body that came was taken, with this answer; else the replica is as before
abbrev pub TakesHeard : {D : Type 0} → (D → DiskView) → Heard → Archived D → Archived D → Result ℕ TakeFault → Type 0
TakesHeard view (heard.Brought body) old new taken = TakesRow view body old new taken
TakesHeard view _ old new taken = new ≡ old

-- This was heard on the link, and taken, and the answer is the one for it.
pub record IsRound {D : Type 0} (view : D → DiskView) (user ha1 : List ℕ) (before after : StreamView) (old new : Archived D) (result : Result Round RoundFault) : Type 0 where
  pub heard : Heard
  pub on : HeardOn user ha1 (old.count + 1) before after heard
  pub taken : Result ℕ TakeFault
  pub takes : TakesHeard view heard old new taken
  pub answer : result ≡ answer_of heard taken

-- Where there was no memory to ask, a first part of the requests was written, and the replica is as before.
pub record IsCutShort {D : Type 0} (user ha1 : List ℕ) (before after : StreamView) (old new : Archived D) : Type 0 where
  pub wrote : WrotePart user ha1 (old.count + 1) before after
  pub same : new ≡ old

abbrev pub RoundRow : {D : Type 0} → (D → DiskView) → List ℕ → List ℕ → StreamView → StreamView → Archived D → Archived D → Result Round RoundFault → Type 0
RoundRow view user ha1 before after old new (Err OutOfMemory) = IsCutShort user ha1 before after old new
RoundRow view user ha1 before after old new result = IsRound view user ha1 before after old new result
