-- Rounds one after another, each on a link of a port. `old` and `new` are what is told of the replica, `before` and `after` what is
-- told of the port.
use Rattle.std.specs.Prelude.{◌≡◌, ◌⊎◌, ◌<◌, ◌≤◌, ℕ, ◌+◌, ◌==◌, List, [], ◌∷◌, ◌++◌, length, ⊤, Bool, true, false, Result, Ok, Err}
use Rattle.std.specs.List.{AllByRecursion}
use Rattle.exact_time.specs.Causes.{Rose}
use Rattle.streams.specs.View.{StreamView}
use Rattle.link_ports.specs.Ports.{PortView, Visitor, Took, Came, IsSpent}
use Rattle.disk_model.specs.View.{DiskView}
use Rattle.archive_entry.specs.declared.entry.Entry.{Entry}
use Rattle.archive_log.specs.Archive.{Archived}
use Rattle.entry_bodies.specs.Bodies.{IsBody}
use Rattle.follow_replica.specs.Numbers.{coming_from}
use Rattle.follow_replica.specs.Takes.{Adds, HasFailed}
use Rattle.follow_replica.specs.declared.fault.TakeFault.{TakeFault}
use Rattle.follow_replica.specs.declared.fault.TakeFault.TheVariants as take
use Rattle.follow_round.specs.Hearing.{HeardOn, WrotePart}
use Rattle.follow_round.specs.Rounds.{answer_of, TakesHeard}
use Rattle.follow_round.specs.declared.following.FollowFault.{FollowFault}
use Rattle.follow_round.specs.declared.following.FollowFault.TheVariants as fault
use Rattle.follow_round.specs.declared.following.Next.{Next}
use Rattle.follow_round.specs.declared.following.Next.TheVariants.{Again, CaughtUp, Ends}
use Rattle.follow_round.specs.declared.heard.Heard.{Heard}
use Rattle.follow_round.specs.declared.heard.Heard.TheVariants as heard
use Rattle.follow_round.specs.declared.outcome.Round.{Round}
use Rattle.follow_round.specs.declared.outcome.Round.TheVariants as round
use Rattle.follow_round.specs.declared.outcome.RoundFault.{RoundFault}
use Rattle.follow_round.specs.declared.outcome.RoundFault.TheVariants as failed

-- one round: what was heard, and what the take of a body answered
pub record Turned : Type 0 where
  pub heard : Heard
  pub taken : Result ℕ TakeFault

abbrev pub answer_in : Turned → Result Round RoundFault
answer_in t = answer_of t.heard t.taken

-- what comes behind a round that answered so, the last one or not
abbrev pub next_of : Result Round RoundFault → Bool → Next
next_of (Ok (round.Added n)) true = Ends fault.Used
next_of (Ok (round.Added n)) false = Again
next_of (Ok round.CaughtUp) last = CaughtUp
next_of (Err failed.Lost) true = Ends fault.Lost
next_of (Err failed.Lost) false = Again
next_of (Err (failed.Peer status)) last = Ends (fault.Peer status)
next_of (Err failed.BadReply) last = Ends fault.BadReply
next_of (Err (failed.Take why)) last = Ends (fault.Take why)
next_of (Err failed.OutOfMemory) last = Ends fault.OutOfMemory

-- behind these rounds another one comes
abbrev pub GoesOn : Turned → Type 0
GoesOn t = next_of (answer_in t) false ≡ Again

-- Each link that was given came back without turns. On each this was heard, and the replica took it.
abbrev pub AreRounds : {D : Type 0} → (D → DiskView) → List ℕ → List ℕ → Archived D → List StreamView → List Visitor → List Turned → Archived D → Type 0
AreRounds view user ha1 old [] [] [] new = new ≡ old
AreRounds {D} view user ha1 old (link ∷ gave) (back ∷ came) (t ∷ ts) new =
    (mid : Archived D) × HeardOn user ha1 (old.count + 1) link back.link t.heard × TakesHeard view t.heard old mid t.taken × (back.turns ≡ [])
    × AreRounds view user ha1 mid gave came ts new
AreRounds view user ha1 old _ _ _ new = ⊥

-- No link more; or one on which there was no memory to ask: it came back, and a first part of the requests was written.
abbrev pub OneCutShort : List ℕ → List ℕ → ℕ → List StreamView → List Visitor → Type 0
OneCutShort user ha1 wanted [] [] = ⊤
OneCutShort user ha1 wanted (link ∷ []) (back ∷ []) = WrotePart user ha1 wanted link back.link × (back.turns ≡ [])
OneCutShort user ha1 wanted _ _ = ⊥

-- the entries of the body that a round came to take, entry by entry; none where it took no body, or tested it and took none of it
abbrev pub BringsBody : List ℕ → Result ℕ TakeFault → List Entry → Type 0
BringsBody body (Err (take.Form at)) es = es ≡ []
BringsBody body (Err (take.Gap n)) es = es ≡ []
BringsBody body (Err take.OutOfMemory) es = (es ≡ []) ⊎ IsBody body es
BringsBody body taken es = IsBody body es

abbrev pub Brings : Heard → Result ℕ TakeFault → List Entry → Type 0
Brings (heard.Brought body) taken es = BringsBody body taken es
Brings _ taken es = es ≡ []

abbrev pub AreBrought : List Turned → List (List Entry) → Type 0
AreBrought [] [] = ⊤
AreBrought (t ∷ ts) (es ∷ bodies) = Brings t.heard t.taken es × AreBrought ts bodies
AreBrought _ _ = ⊥

-- of the entries of these bodies, one body after another, those whose numbers come next behind so many
abbrev pub coming_in : ℕ → List (List Entry) → List Entry
coming_in count [] = []
coming_in count (es ∷ bodies) = coming_from (count + 1) es ++ coming_in (count + length (coming_from (count + 1) es)) bodies

-- The links that the port gave came back, in order, with what was heard on each and what the replica took. It has what it had
-- before, and a first part of the entries of these bodies that come next, in order. At every moment every image is a journal of
-- what it had, and of a first part of these entries (`Adds`).
pub record Follows {D : Type 0} (view : D → DiskView) (user ha1 : List ℕ) (before after : PortView) (old new : Archived D) (rounds : List Turned) : Type 0 where
  pub gave : List StreamView
  pub came : List Visitor
  pub more : List StreamView
  pub short : List Visitor
  pub left : Took before.left after.left (gave ++ more)
  pub back : Came before.back after.back (came ++ short)
  pub later : before.faults ≤ after.faults
  pub on : AreRounds view user ha1 old gave came rounds new
  pub cut : OneCutShort user ha1 (new.count + 1) more short
  pub bodies : List (List Entry)
  pub brought : AreBrought rounds bodies
  pub rest : List Entry
  pub adds : Adds view old new (coming_in old.count bodies) rest

-- this comes behind the last of these rounds, and another one behind all others
pub record EndsBy (most : ℕ) (rounds : List Turned) (next : Next) : Type 0 where
  pub others : List Turned
  pub last : Turned
  pub split : rounds ≡ others ++ last ∷ []
  pub went : AllByRecursion GoesOn others
  pub few : length rounds ≤ most
  pub says : next_of (answer_in last) (length rounds == most) ≡ next

-- another one comes behind each of these rounds, and there are fewer than may be
pub record GoAll (most : ℕ) (rounds : List Turned) : Type 0 where
  pub went : AllByRecursion GoesOn rounds
  pub few : length rounds < most

-- How following ended: at a round behind which none comes; or as the port gave no link, or failed; or as memory ran out on a link.
abbrev pub EndsSo : {D : Type 0} → ℕ → PortView → PortView → Archived D → List Turned → List StreamView → Result ℕ FollowFault → Type 0
EndsSo most before after new rounds more (Ok n) = EndsBy most rounds CaughtUp × (more ≡ []) × (n ≡ new.count)
EndsSo most before after new rounds more (Err fault.NoLink) = GoAll most rounds × (more ≡ []) × IsSpent after.left
EndsSo most before after new rounds more (Err fault.PortFault) = GoAll most rounds × (more ≡ []) × Rose before.faults after.faults
EndsSo most before after new rounds more (Err fault.OutOfMemory) = GoAll most rounds × (link : StreamView) × (more ≡ link ∷ [])
EndsSo most before after new rounds more (Err why) = EndsBy most rounds (Ends why) × (more ≡ [])

-- The replica runs on as before; but where the disk stopped it, by such a fault of a take, the disk failed in the call, or had failed since
-- the replica was opened.
abbrev pub RunsBy : {D : Type 0} → (D → DiskView) → TakeFault → Archived D → Archived D → Type 0
RunsBy view take.DiskFault old new = HasFailed view old new
RunsBy view _ old new = new.stopped ≡ old.stopped

abbrev pub Runs : {D : Type 0} → (D → DiskView) → Result ℕ FollowFault → Archived D → Archived D → Type 0
Runs view (Err (fault.Take why)) old new = RunsBy view why old new
Runs view _ old new = new.stopped ≡ old.stopped

-- what following does, and how it ended
abbrev pub FollowsRow : {D : Type 0} → (D → DiskView) → List ℕ → List ℕ → ℕ → PortView → PortView → Archived D → Archived D → Result ℕ FollowFault → Type 0
FollowsRow view user ha1 most before after old new result =
    (rounds : List Turned) × (follows : Follows view user ha1 before after old new rounds) × EndsSo most before after new rounds follows.more result
    × Runs view result old new
