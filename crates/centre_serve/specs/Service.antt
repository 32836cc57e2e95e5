-- A service over the archive of a disk.
use Rattle.std.specs.Prelude.{◌≡◌, ◌⊎◌, ℕ, ◌≤◌, true, List, length, Result, Ok, Err}
use Rattle.std.specs.List.{sum_by}
use mathlib.Core.List.{IsPrefix}
use Rattle.exact_time.specs.Causes.{Rose}
use Rattle.disk_model.specs.View.{DiskView, WhereTold, is_told, file_of}
use Rattle.disk_model.specs.Effects.{WritesNothing}
use Rattle.archive_entry.specs.declared.entry.Entry.{Entry}
use Rattle.archive_log.specs.Histories.{IsHistoryOf}
use Rattle.archive_log.specs.Opening.{ExplainsStart}
use Rattle.archive_log.specs.declared.fault.StartFault.{StartFault}
use Rattle.archive_log.specs.declared.fault.StartFault.TheVariants as start
use Rattle.archive_state.specs.Lawful.{IsLawful}
use Rattle.desk_words.specs.Setting.{Setting}
use Rattle.desk_words.specs.Stand.{Left, nothing}
use Rattle.link_ports.specs.Ports.{PortView}
use Rattle.archive_post.specs.Leaving.{LeavesLeft, KeepsHistory}
use Rattle.centre_serve.specs.Whole.{AllServed, AreSpent, OneRose, halted}
use Rattle.centre_serve.specs.declared.ending.ServeStop.{ServeStop}
use Rattle.centre_serve.specs.declared.ending.ServeStop.TheVariants.{DiskFault, PortFault, NotAJournal, Damaged, OutOfMemory}

-- what is known at one moment of the disk and of all ports, in their order
pub record Site : Type 1 where
  pub disk : DiskView
  pub ports : List PortView

abbrev pub site : DiskView → List PortView → Site
site disk ports = record { disk = disk; ports = ports }

-- The links of all ports were served over the one history that the disk comes back with, which goes on from the one that its
-- file spelled. Every file that a crash then leaves is a journal of that history, with or without what was left: nothing, or
-- the entry of a command that the disk stopped, which may come next in it. So each of these files opens.
pub record Serving (s : Setting) (before after : Site) (opening : List Entry) : Type 0 where
  pub history : List Entry
  pub lawful : IsLawful history
  pub begins : IsPrefix opening history
  pub all : AllServed history (length opening) s before.ports after.ports
  pub left : Left
  pub images : is_told before.disk ≡ true → LeavesLeft after.disk.may_leave history left
  pub keeps : is_told before.disk ≡ true → KeepsHistory history left
  pub tells : is_told after.disk ≡ is_told before.disk

-- No command was stopped: nothing is left, and no reply tells that one was.
pub record IsCalm {s : Setting} {before after : Site} {opening : List Entry} (served : Serving s before after opening) : Type 0 where
  pub nothing_left : served.left ≡ nothing
  pub no_stop : sum_by halted served.all.served ≡ 0

-- what a service leaves that ended so once its archive was opened
abbrev pub Serves : Setting → Site → Site → List Entry → Result (Unit {0}) ServeStop → Type 0
Serves s before after opening (Ok done) = (served : Serving s before after opening) × IsCalm served × AreSpent after.ports
Serves s before after opening (Err PortFault) = (served : Serving s before after opening) × IsCalm served × OneRose before.ports after.ports
Serves s before after opening (Err DiskFault) = Serving s before after opening × Rose before.disk.faults after.disk.faults
Serves s before after opening (Err _) = ⊥

-- The same by how often the disk had failed when its archive was opened. Where memory runs out, no port was asked.
abbrev pub StartedRow : Setting → Site → Site → List Entry → ℕ → Result (Unit {0}) ServeStop → Type 0
StartedRow s before after opening faults (Ok done) = Serves s before after opening (Ok done)
StartedRow s before after opening faults (Err PortFault) = Serves s before after opening (Err PortFault)
StartedRow s before after opening faults (Err DiskFault) = Serving s before after opening × Rose faults after.disk.faults
StartedRow s before after opening faults (Err OutOfMemory) = after.ports ≡ before.ports
StartedRow s before after opening faults (Err _) = ⊥

-- the archive was opened with this history, and served
pub record Opened (s : Setting) (before after : Site) (ending : Result (Unit {0}) ServeStop) : Type 0 where
  pub opening : List Entry
  pub opened : WhereTold before.disk (IsHistoryOf (file_of before.disk) opening)
  pub some : 1 ≤ length opening
  pub serves : Serves s before after opening ending

-- The archive wasn't opened: nothing was written to the disk, and no port was asked.
pub record IsRefused (before after : Site) (fault : StartFault) : Type 0 where
  pub disk : WritesNothing before.disk after.disk (fault ≡ start.DiskFault)
  pub cause : WhereTold before.disk (ExplainsStart (file_of before.disk) fault)
  pub ports : after.ports ≡ before.ports

-- Memory ran out before the first link was taken: nothing was written to the disk, and no port was asked.
pub record RanShort (before after : Site) : Type 0 where
  pub disk : WritesNothing before.disk after.disk ⊥
  pub ports : after.ports ≡ before.ports

-- How a service ended, and what it leaves.
abbrev pub ServeRow : Setting → Site → Site → Result (Unit {0}) ServeStop → Type 0
ServeRow s before after (Ok done) = Opened s before after (Ok done)
ServeRow s before after (Err PortFault) = Opened s before after (Err PortFault)
ServeRow s before after (Err DiskFault) = Opened s before after (Err DiskFault) ⊎ IsRefused before after start.DiskFault
ServeRow s before after (Err NotAJournal) = IsRefused before after start.NotAJournal
ServeRow s before after (Err (Damaged at)) = IsRefused before after (start.Damaged at)
ServeRow s before after (Err OutOfMemory) = RanShort before after
