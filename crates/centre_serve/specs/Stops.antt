-- How a service ends.
use Rattle.std.specs.Prelude.{Bool, true, false, Result, Ok, Err}
use Rattle.archive_log.specs.declared.fault.StartFault.{StartFault}
use Rattle.archive_log.specs.declared.fault.StartFault.TheVariants as start
use Rattle.centre_serve.specs.declared.ending.ServeStop.{ServeStop}
use Rattle.centre_serve.specs.declared.ending.ServeStop.TheVariants.{DiskFault, PortFault, NotAJournal, Damaged, OutOfMemory}

-- how a fault of opening ends it
abbrev pub stop_for_start : StartFault → ServeStop
stop_for_start start.DiskFault = DiskFault
stop_for_start start.NotAJournal = NotAJournal
stop_for_start (start.Damaged at) = Damaged at
stop_for_start start.OutOfMemory = OutOfMemory

-- a stopped command counts before a port that failed
abbrev pub ending_of : (stopped failed : Bool) → Result (Unit {0}) ServeStop
ending_of true failed = Err DiskFault
ending_of false true = Err PortFault
ending_of false false = Ok tt
