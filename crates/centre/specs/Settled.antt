-- Which status comes exactly where: what the words and what is read determine, and the status that says so.
use Rattle.std.specs.Prelude.{◌≡◌, ◌≢◌, ◌⊎◌, ℕ, List, [], ◌∷◌, Option, None, Some, Result, Ok, Err, ⊤}
use Rattle.disk_model.specs.Disk.{Leaves}
use Rattle.disk_model.specs.View.{DiskView, WhereTold, file_of}
use Rattle.http_digest.specs.declared.secret.Secret.{Secret}
use Rattle.archive_state.specs.Lawful.{founding_entry}
use Rattle.archive_log.specs.Histories.{Recovers, IsHistoryOf}
use Rattle.exact_time.specs.Causes.{Rose}
use Rattle.exact_time.specs.declared.moment.Moment.{Moment}
use Rattle.centre.specs.declared.ending.Refusal.{Refusal}
use Rattle.centre.specs.declared.ending.Refusal.TheVariants.{NoData, TooLarge, TooManyLines, NotEmpty, InputTooLong, NotAJournal, Damaged, RequestCut, Peer, BadReply, Lost, Moved, Requests}
use Rattle.centre.specs.Answers.{IsAnswer}
use Rattle.command_words.specs.Commands.{InitWords, TalkWords, ServeWords, DrillWords, FetchWords, CoverageWords, Command, init, talk, serve, drill, fetch, coverage}
use Rattle.centre_coverage.specs.Table.{IsReporting}
use Rattle.centre_coverage.specs.declared.ending.CoverageStop.TheVariants as coverage_stop
use Rattle.centre_drill.specs.Drill.{HoldsHistory}
use Rattle.centre_drill.specs.History.{made_history}
use Rattle.centre.specs.Given.{World, Given, HadGiven, Told}
use Rattle.centre.specs.Status.{status_of_refusal, text_of_refusal, status_of_run}
use Rattle.streams.specs.Effects.{Grew, WritesPart}
use Rattle.streams.specs.View.{StreamView}
use Rattle.centre_select.specs.Status.{Tells}
use Rattle.centre.specs.Table.{IsStarved}
use Rattle.centre_serve.specs.Whole.{OneRose}
use Rattle.link_ports.specs.Ports.{PortView, IsSpent}
use Rattle.centre.specs.Coverages.{CoverageEnding}
use Rattle.centre.specs.Fetches.{FetchEnding}
use Rattle.centre.specs.Serves.{ServeEnding}
use Rattle.centre.specs.Talks.{TalkEnding}
use Rattle.centre.specs.declared.ending.Stop.{Stop}

-- the statuses that these don't determine: a fault of the source, the sink, the disk or a port, a port without links, want of
-- memory
abbrev pub IsFree : ℕ → Type 0
IsFree status = (status ≡ 5) ⊎ (status ≡ 6) ⊎ (status ≡ 7) ⊎ (status ≡ 8) ⊎ (status ≡ 17) ⊎ (status ≡ 70)

-- The status comes exactly where the cause holds: only there, and always there, unless the run stopped
-- at a fault or for want of memory.
pub record ComesWhere (status expected : ℕ) (Cause : Type 0) : Type 0 where
  pub only : status ≡ expected → Cause
  pub always : Cause → IsFree status ⊎ (status ≡ expected)

-- the status and the text on the errors of an answer
abbrev pub status_of_answer : Result (List ℕ) Refusal → ℕ
status_of_answer (Ok body) = 0
status_of_answer (Err refusal) = status_of_refusal refusal

abbrev pub text_of_answer : Result (List ℕ) Refusal → List ℕ
text_of_answer (Ok body) = []
text_of_answer (Err refusal) = text_of_refusal refusal

-- the run ended as this answer says
pub record EndsAs (answer : Result (List ℕ) Refusal) (old new : StreamView) (status : ℕ) : Type 0 where
  pub status_is : status ≡ status_of_answer answer
  pub text : Tells old new (text_of_answer answer)

-- What the words and what is read determine decides: the run ended so, unless it stopped at a fault or for want of
-- memory.
abbrev pub IsSettled : Option Command → Given → StreamView → StreamView → ℕ → Type 0
IsSettled command given old new status =
    (answer : Result (List ℕ) Refusal) → IsAnswer command given answer → IsFree status ⊎ EndsAs answer old new status

-- Where neither the source, the sink, the disk nor a port failed, the run ended as the answer says, unless a port had no more
-- links or memory ran out.
abbrev pub IsComplete : {D : Type 0} → (D → DiskView) → Option Command → Given → World D → World D → StreamView → StreamView → ℕ → Type 0
IsComplete view command given before after old new status =
    ¬ (Rose before.streams.source.faults after.streams.source.faults) → ¬ (Rose before.streams.sink.faults after.streams.sink.faults)
    → ¬ (Rose (view before.disk).faults (view after.disk).faults) → ¬ (OneRose before.ports after.ports)
    → (answer : Result (List ℕ) Refusal) → IsAnswer command given answer → (status ≡ 17) ⊎ (status ≡ 70) ⊎ EndsAs answer old new status

-- the sink got what the command answers to what it read
pub record GotAnswer {D : Type 0} (view : D → DiskView) (command : Option Command) (before after : World D) : Type 0 where
  pub given : Given
  pub body : List ℕ
  pub had : HadGiven view command before after given
  pub answer : IsAnswer command given (Ok body)
  pub output : Grew before.streams.sink.written after.streams.sink.written body

-- status 0: the sink got the answer, of `coverage` the report of the history with which the disk's file opens; what `talk` wrote is
-- said by its session, and `serve` writes nothing on it
abbrev pub HasWritten : {D : Type 0} → (D → DiskView) → Option Command → World D → World D → Type 0
HasWritten view (Some (talk w)) before after = ⊤
HasWritten view (Some (serve w)) before after = after.streams.sink ≡ before.streams.sink
HasWritten view (Some (coverage w)) before after = IsReporting view w before.streams.sink after.streams.sink before.disk after.disk (Ok tt)
HasWritten view command before after = GotAnswer view command before after

-- a word of the query, the order of its times or a record of the input is refused
pub record IsRefused (command : Option Command) (given : Given) : Type 0 where
  pub refusal : Refusal
  pub answer : IsAnswer command given (Err refusal)
  pub status_is : status_of_refusal refusal ≡ 2

-- the answer has more bytes than its limit, or the report more lines
abbrev pub IsTooLarge : Option Command → Given → Type 0
IsTooLarge command given =
    ((bytes : ℕ) × (limit : ℕ) × IsAnswer command given (Err (TooLarge bytes limit)))
    ⊎ ((lines : ℕ) × (limit : ℕ) × IsAnswer command given (Err (TooManyLines lines limit)))

-- the file isn't one that the command can use: it has bytes where it is to be made, or is no archive where it is to be
-- opened
abbrev pub IsNoArchive : Option Command → Given → Type 0
IsNoArchive command given =
    IsAnswer command given (Err NotEmpty) ⊎ (IsAnswer command given (Err NotAJournal) ⊎ ((at : ℕ) × IsAnswer command given (Err (Damaged at))))

-- the sink failed, after a first part of what the command answers to what it read
pub record GotPart {D : Type 0} (view : D → DiskView) (command : Option Command) (before after : World D) : Type 0 where
  pub given : Given
  pub body : List ℕ
  pub had : HadGiven view command before after given
  pub answer : IsAnswer command given (Ok body)
  pub rose : Rose before.streams.sink.faults after.streams.sink.faults
  pub output : WritesPart before.streams.sink.written after.streams.sink.written body

-- status 6: the sink failed, in `coverage` after a first part of the report; what `talk` wrote is said by its session
abbrev pub IsCutShort : {D : Type 0} → (D → DiskView) → Option Command → World D → World D → Type 0
IsCutShort view (Some (talk w)) before after = Rose before.streams.sink.faults after.streams.sink.faults
IsCutShort view (Some (coverage w)) before after = IsReporting view w before.streams.sink after.streams.sink before.disk after.disk (Err coverage_stop.WriteFault)
IsCutShort view command before after = GotPart view command before after

-- the disk reads as the journal of a new archive of this operator, and so does every image
pub record HoldsNewArchive (view : DiskView) (w : InitWords) : Type 0 where
  pub history : IsHistoryOf (file_of view) (founding_entry w.operator w.ha1 ∷ [])
  pub images : Leaves view.may_leave (Recovers (founding_entry w.operator w.ha1 ∷ []))

-- the file reads as before, and every image is one of those before
pub record KeepsFile (old new : DiskView) : Type 0 where
  pub content : file_of new ≡ file_of old
  pub images : Leaves new.may_leave old.may_leave

-- whatever the status, a command that uses no disk leaves it as it was
abbrev pub KeepsUnused : {D : Type 0} → Option Command → D → D → Type 0
KeepsUnused (Some (init w)) old new = ⊤
KeepsUnused (Some (talk w)) old new = ⊤
KeepsUnused (Some (serve w)) old new = ⊤
KeepsUnused (Some (drill w)) old new = ⊤
KeepsUnused (Some (coverage w)) old new = ⊤
KeepsUnused _ old new = new ≡ old

-- and `talk` alone asks the clock
abbrev pub AsksNoClock : Option Command → Option (List Moment) → Option (List Moment) → Type 0
AsksNoClock (Some (talk w)) old new = ⊤
AsksNoClock _ old new = new ≡ old

-- all ports but the first are as before
abbrev pub KeepsOthers : List PortView → List PortView → Type 0
KeepsOthers (old ∷ others) (new ∷ more) = more ≡ others
KeepsOthers _ _ = ⊥

-- with every status but 70 no command but `serve` asks a port, or `fetch` the first one, and all ports come back
abbrev pub KeepsPorts : Option Command → List PortView → List PortView → Type 0
KeepsPorts (Some (serve w)) old new = ⊤
KeepsPorts (Some (fetch w)) old new = KeepsOthers old new
KeepsPorts _ old new = new ≡ old

-- the first port has no more links, of which `fetch` alone takes one after another
abbrev pub HasNoLink : Option Command → List PortView → Type 0
HasNoLink (Some (fetch w)) (port ∷ others) = IsSpent port.left
HasNoLink _ _ = ⊥

-- with every status but 0 and 6 the sink is as before, unless the command is `talk`
abbrev pub KeepsSink : Option Command → StreamView → StreamView → Type 0
KeepsSink (Some (talk w)) old new = ⊤
KeepsSink _ old new = new ≡ old

-- the status of words that are no command comes only there, and always there, unless memory ran out
pub record IsUnknown (command : Option Command) (status : ℕ) : Type 0 where
  pub only : status ≡ 1 → command ≡ None
  pub always : command ≡ None → (status ≡ 70) ⊎ (status ≡ 1)

-- `talk` ended so: a session over the source and the sink on the archive of the disk, or none for its cause
pub record HasEndedTalk {D : Type 0} (view : D → DiskView) (secret : Secret) (w : TalkWords) (before after : World D) (status : ℕ) : Type 0 where
  pub ending : Result (Unit {0}) Stop
  pub status_is : status ≡ status_of_run ending
  pub row : IsStarved before after ending ⊎ TalkEnding view secret w before after ending

-- `serve` ended so: a service over the archive of the disk and the ports, or none for its cause
pub record HasEndedServe {D : Type 0} (view : D → DiskView) (secret : Secret) (w : ServeWords) (before after : World D) (status : ℕ) : Type 0 where
  pub ending : Result (Unit {0}) Stop
  pub status_is : status ≡ status_of_run ending
  pub row : IsStarved before after ending ⊎ ServeEnding view secret w before after ending

-- `fetch` ended so: a window was asked for over the first port, or none for its cause
pub record HasEndedFetch {D : Type 0} (w : FetchWords) (before after : World D) (status : ℕ) : Type 0 where
  pub ending : Result (Unit {0}) Stop
  pub status_is : status ≡ status_of_run ending
  pub row : IsStarved before after ending ⊎ FetchEnding w before after ending

-- `coverage` ended so: a report of the archive of the disk, or none for its cause
pub record HasEndedCoverage {D : Type 0} (view : D → DiskView) (w : CoverageWords) (before after : World D) (status : ℕ) : Type 0 where
  pub ending : Result (Unit {0}) Stop
  pub status_is : status ≡ status_of_run ending
  pub row : IsStarved before after ending ⊎ CoverageEnding view w before after ending

-- the data centre answered a status that is no answer
abbrev pub IsPeerRefusal : Option Command → Given → Type 0
IsPeerRefusal command given = (status : ℕ) × IsAnswer command given (Err (Peer status))

-- the last round ended at a lost connection, or its answers had different fronts
abbrev pub IsUnsettled : Option Command → Given → Type 0
IsUnsettled command given = IsAnswer command given (Err Lost) ⊎ ((a : ℕ) × (b : ℕ) × IsAnswer command given (Err (Moved a b)))

-- What a reader looks for in a run, row by row.
pub record RunRows {D : Type 0} (view : D → DiskView) (secret : Secret) (command : Option Command) (before after : World D) (old new : StreamView) (status : ℕ) : Type 0 where
  -- what the words and what is read determine is what comes, with its text, unless the source, the sink, the disk or a port
  -- failed, a port had no more links or memory ran out; and where none of them failed, unless one of the last two
  pub settled : Told view command before after (λ given. IsSettled command given old new status)
  pub complete : Told view command before after (λ given. IsComplete view command given before after old new status)
  -- with every status but 0 and 6 the sink is as before, unless the command is `talk`; what a command doesn't use stays as
  -- it was
  pub kept : status ≢ 0 → status ≢ 6 → KeepsSink command before.streams.sink after.streams.sink
  pub unused : KeepsUnused command before.disk after.disk
  pub clock : AsksNoClock command before.given after.given
  pub ports : status ≢ 70 → KeepsPorts command before.ports after.ports
  -- status 0: the sink got the answer; `init` left the new archive on the disk
  pub written : status ≡ 0 → HasWritten view command before after
  pub founded : (w : InitWords) → command ≡ Some (init w) → status ≡ 0 → WhereTold (view before.disk) (HoldsNewArchive (view after.disk) w)
  -- `drill`, also where the sink failed: the archive of made records is on the disk
  pub drilled : (w : DrillWords) → command ≡ Some (drill w) → (status ≡ 0) ⊎ (status ≡ 6) → WhereTold (view before.disk) (HoldsHistory (view after.disk) (made_history w.records))
  -- `talk`, with whatever status
  pub talked : (w : TalkWords) → command ≡ Some (talk w) → HasEndedTalk view secret w before after status
  -- `serve`, with whatever status
  pub served : (w : ServeWords) → command ≡ Some (serve w) → HasEndedServe view secret w before after status
  -- `fetch`, with whatever status
  pub fetched : (w : FetchWords) → command ≡ Some (fetch w) → HasEndedFetch w before after status
  -- `coverage`, with whatever status: the file reads as before, so it opens with the same history
  pub covered : (w : CoverageWords) → command ≡ Some (coverage w) → HasEndedCoverage view w before after status
  pub only_read : (w : CoverageWords) → command ≡ Some (coverage w) → WhereTold (view before.disk) (KeepsFile (view before.disk) (view after.disk))
  -- each other status, and its cause
  pub unknown : IsUnknown command status
  pub refused : Told view command before after (λ given. ComesWhere status 2 (IsRefused command given))
  pub no_data : Told view command before after (λ given. ComesWhere status 3 (IsAnswer command given (Err NoData)))
  pub too_large : Told view command before after (λ given. ComesWhere status 4 (IsTooLarge command given))
  pub read_fault : status ≡ 5 → Rose before.streams.source.faults after.streams.source.faults
  pub write_fault : status ≡ 6 → IsCutShort view command before after
  pub disk_fault : status ≡ 7 → Rose (view before.disk).faults (view after.disk).faults
  pub port_fault : status ≡ 8 → OneRose before.ports after.ports
  pub no_archive : Told view command before after (λ given. ComesWhere status 9 (IsNoArchive command given))
  pub untouched : status ≡ 9 → WhereTold (view before.disk) (KeepsFile (view before.disk) (view after.disk))
  pub too_long : Told view command before after (λ given. ComesWhere status 10 (IsAnswer command given (Err InputTooLong)))
  pub request_cut : Told view command before after (λ given. ComesWhere status 11 (IsAnswer command given (Err RequestCut)))
  pub peer : Told view command before after (λ given. ComesWhere status 13 (IsPeerRefusal command given))
  pub bad_reply : Told view command before after (λ given. ComesWhere status 14 (IsAnswer command given (Err BadReply)))
  pub unsettled : Told view command before after (λ given. ComesWhere status 15 (IsUnsettled command given))
  pub no_link : status ≡ 17 → HasNoLink command after.ports
  pub requests : Told view command before after (λ given. ComesWhere status 18 (IsAnswer command given (Err Requests)))
