-- The command `serve`: what the file determines of it, and its rows of the table.
use Rattle.std.specs.Prelude.{◌≡◌, ℕ, List, [], Result, Ok, Err}
use Rattle.http_digest.specs.declared.secret.Secret.{Secret}
use Rattle.archive_entry.specs.declared.entry.Entry.{Entry}
use Rattle.archive_log.specs.Opening.{OpensWith, IsStartFault}
use Rattle.archive_log.specs.declared.fault.StartFault.TheVariants as start
use Rattle.archive_state.specs.declared.limits.Limits.{Limits}
use Rattle.desk_words.specs.Setting.{setting}
use Rattle.disk_model.specs.View.{DiskView}
use Rattle.centre_serve.specs.Service.{site, ServeRow}
use Rattle.centre_serve.specs.declared.ending.ServeStop.{ServeStop}
use Rattle.centre_serve.specs.declared.ending.ServeStop.TheVariants as serve
use Rattle.command_words.specs.Commands.{ServeWords}
use Rattle.centre.specs.Ends.{EndsBy}
use Rattle.centre.specs.Given.{World}
use Rattle.centre.specs.Limits.{limits_at}
use Rattle.centre.specs.declared.ending.Refusal.{Refusal}
use Rattle.centre.specs.declared.ending.Refusal.TheVariants.{NotAJournal, Damaged}
use Rattle.centre.specs.declared.ending.Stop.{Stop}
use Rattle.centre.specs.declared.ending.Stop.TheVariants.{Refused, DiskFault, PortFault, OutOfMemory}

-- a file that is no archive is refused so, by its fault
pub data RefusesFile (file : List ℕ) (answer : Result (List ℕ) Refusal) : Type 0 where
  no_journal : IsStartFault file start.NotAJournal → answer ≡ Err NotAJournal → RefusesFile file answer
  damaged : (at : ℕ) → IsStartFault file (start.Damaged at) → answer ≡ Err (Damaged at) → RefusesFile file answer

-- the file is an archive, and is served until every port is closed, and nothing is written on the sink; or it is none
pub data IsServeAnswer (file : List ℕ) (answer : Result (List ℕ) Refusal) : Type 0 where
  opened : (history : List Entry) → OpensWith file history → answer ≡ Ok [] → IsServeAnswer file answer
  refuses : RefusesFile file answer → IsServeAnswer file answer

-- how a service stops a run
abbrev pub stop_for_serve : ServeStop → Stop
stop_for_serve serve.DiskFault = DiskFault
stop_for_serve serve.PortFault = PortFault
stop_for_serve serve.NotAJournal = Refused NotAJournal
stop_for_serve (serve.Damaged at) = Refused (Damaged at)
stop_for_serve serve.OutOfMemory = OutOfMemory

-- What `serve` does, with this outcome: a service over the disk and the ports, under the limits that the words give. Nothing
-- else is called.
pub record IsServe {D : Type 0} (view : D → DiskView) (secret : Secret) (w : ServeWords) (before after : World D) (outcome : Result (Unit {0}) ServeStop) : Type 0 where
  pub limits : Limits
  pub limits_are : limits_at limits ≡ w.limits
  pub others : after ≡ record before { disk = after.disk; ports = after.ports }
  pub row : ServeRow (setting secret limits) (site (view before.disk) before.ports) (site (view after.disk) after.ports) outcome

-- the rows of `serve`
abbrev pub ServeEnding : {D : Type 0} → (D → DiskView) → Secret → ServeWords → World D → World D → Result (Unit {0}) Stop → Type 0
ServeEnding view secret w before after ending = EndsBy stop_for_serve (IsServe view secret w before after) ending
