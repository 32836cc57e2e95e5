-- The table of endings: when each status comes, and what it leaves.
use Rattle.std.specs.Prelude.{◌≡◌, ◌⊎◌, ℕ, List, [], Option, Some, None, Result, Ok, Err, IsErrOf}
use Rattle.centre_select.specs.Status.{Tells}
use Rattle.centre_select.specs.Table.{Streams, IsShown, IsShowStopped}
use Rattle.centre.specs.declared.ending.Refusal.TheVariants.{UnknownCommand, Record, TooLarge, TooManyLines, NotEmpty, Damaged, Peer, Moved}
use Rattle.centre.specs.declared.ending.Stop.{Stop}
use Rattle.centre.specs.declared.ending.Stop.TheVariants.{Refused, WriteFault, DiskFault, OutOfMemory}
use Rattle.http_digest.specs.declared.secret.Secret.{Secret}
use Rattle.command_words.specs.Commands.{InitWords, Command, select, init, talk, serve, drill, fetch, coverage, show}
use Rattle.centre.specs.Coverages.{CoverageEnding}
use Rattle.centre.specs.Drills.{DrillEnding}
use Rattle.centre.specs.Ends.{EndsBy}
use Rattle.centre.specs.Fetches.{FetchEnding}
use Rattle.centre.specs.Given.{World}
use Rattle.centre.specs.Shown.{text_shown}
use Rattle.centre.specs.Status.{status_of_run, text_of_run}
use Rattle.streams.specs.View.{StreamView}
use Rattle.disk_model.specs.View.{DiskView}
use Rattle.archive_state.specs.Lawful.{founding_entry}
use Rattle.archive_log.specs.Founding.{MakesArchive}
use Rattle.archive_log.specs.declared.fault.FoundFault.{FoundFault}
use Rattle.archive_log.specs.declared.fault.FoundFault.TheVariants as found
use Rattle.centre.specs.Selects.{SelectEnding}
use Rattle.centre.specs.Serves.{ServeEnding}
use Rattle.centre.specs.Talks.{TalkEnding}

-- the rows of a command that shows a text
abbrev pub ShowRow : List ℕ → Streams → Streams → Result (Unit {0}) Stop → Type 0
ShowRow text before after ending =
    ((ending ≡ Ok tt) × IsShown text before after) ⊎ ((ending ≡ Err WriteFault) × IsShowStopped text before after)

-- What `init` does, with this outcome: nothing but the disk is called, and it founds the archive of this operator. Where memory runs out, the disk isn't called either.
pub record IsInit {D : Type 0} (view : D → DiskView) (w : InitWords) (before after : World D) (outcome : Result (Unit {0}) FoundFault) : Type 0 where
  pub others : after ≡ record before { disk = after.disk }
  pub disk : MakesArchive (founding_entry w.operator w.ha1) (view before.disk) (view after.disk) outcome
  pub memory : IsErrOf outcome found.OutOfMemory → after.disk ≡ before.disk

-- how a fault of founding stops a run
abbrev pub stop_for_founding : FoundFault → Stop
stop_for_founding found.DiskFault = DiskFault
stop_for_founding (found.NotEmpty len) = Refused NotEmpty
stop_for_founding found.OutOfMemory = OutOfMemory

-- the rows of `init`
abbrev pub InitEnding : {D : Type 0} → (D → DiskView) → InitWords → World D → World D → Result (Unit {0}) Stop → Type 0
InitEnding view w before after ending = EndsBy stop_for_founding (IsInit view w before after) ending

-- the row of words that are no command: nothing is read, and nothing is written
abbrev pub UnknownRow : {D : Type 0} → World D → World D → Result (Unit {0}) Stop → Type 0
UnknownRow before after ending = (ending ≡ Err (Refused UnknownCommand)) × (after ≡ before)

-- The table, by cases on the command: how a run ends, why, and what it leaves. What a command doesn't use it leaves as it
-- was.
abbrev pub IsEnding : {D : Type 0} → (D → DiskView) → Secret → Option Command → World D → World D → Result (Unit {0}) Stop → Type 0
IsEnding view secret None before after ending = UnknownRow before after ending
IsEnding view secret (Some (show shown)) before after ending =
    ShowRow (text_shown shown) before.streams after.streams ending × (after ≡ record before { streams = after.streams })
IsEnding view secret (Some (select w)) before after ending =
    SelectEnding w before.streams after.streams ending × (after ≡ record before { streams = after.streams })
IsEnding view secret (Some (init w)) before after ending = InitEnding view w before after ending
IsEnding view secret (Some (talk w)) before after ending = TalkEnding view secret w before after ending
IsEnding view secret (Some (serve w)) before after ending = ServeEnding view secret w before after ending
IsEnding view secret (Some (drill w)) before after ending = DrillEnding view w before after ending
IsEnding view secret (Some (fetch w)) before after ending = FetchEnding w before after ending
IsEnding view secret (Some (coverage w)) before after ending = CoverageEnding view w before after ending

-- What a stop is told as: itself, or want of memory where a text with numbers can't be made.
abbrev pub ToldFor : Stop → Stop → Type 0
ToldFor (Refused (Record at fault)) told = (told ≡ Refused (Record at fault)) ⊎ (told ≡ OutOfMemory)
ToldFor (Refused (TooLarge bytes limit)) told = (told ≡ Refused (TooLarge bytes limit)) ⊎ (told ≡ OutOfMemory)
ToldFor (Refused (TooManyLines lines limit)) told = (told ≡ Refused (TooManyLines lines limit)) ⊎ (told ≡ OutOfMemory)
ToldFor (Refused (Damaged at)) told = (told ≡ Refused (Damaged at)) ⊎ (told ≡ OutOfMemory)
ToldFor (Refused (Peer status)) told = (told ≡ Refused (Peer status)) ⊎ (told ≡ OutOfMemory)
ToldFor (Refused (Moved a b)) told = (told ≡ Refused (Moved a b)) ⊎ (told ≡ OutOfMemory)
ToldFor stop told = told ≡ stop

-- Memory ran out before the words were read: nothing was used. Where there was no room for them, the ports don't come back.
abbrev pub IsStarved : {D : Type 0} → World D → World D → Result (Unit {0}) Stop → Type 0
IsStarved before after ending =
    (ending ≡ Err OutOfMemory) × (after ≡ record before { ports = after.ports }) × ((after.ports ≡ before.ports) ⊎ (after.ports ≡ []))

-- a run from one moment to another with this status, and what it writes on the errors
pub record IsRun {D : Type 0} (view : D → DiskView) (secret : Secret) (command : Option Command) (before after : World D) (old new : StreamView) (status : ℕ) : Type 0 where
  pub ending : Result (Unit {0}) Stop
  pub row : IsStarved before after ending ⊎ IsEnding view secret command before after ending
  pub status_is : status ≡ status_of_run ending
  pub text : Tells old new (text_of_run ending)
