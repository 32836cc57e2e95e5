-- What one worker does.
use Rattle.std.specs.Prelude.{nat_lt, Bool, true, false, List, Option}
use Rattle.exact_time.specs.Causes.{Rose}
use Rattle.exact_time.specs.declared.moment.Moment.{Moment}
use Rattle.desk_words.specs.Setting.{Setting}
use Rattle.desk_words.specs.Stand.{Stand}
use Rattle.link_ports.specs.Ports.{PortView, IsSpent}
use Rattle.two_copies.specs.Tallies.{Tally}
use Rattle.centre_port.specs.Visits.{PortScene, port_scene, ServesPort}
use Rattle.centre_serve.specs.declared.worker.Job.{Job}

-- what is known of a worker at its desk
abbrev pub job_scene : {K P C : Type 0} → (K → Stand) → (P → PortView) → (C → Option (List Moment)) → Job K P C → PortScene
job_scene stand view given job = port_scene (stand job.desk) (view job.port) (given job.clock)

-- a port was closed, with no link left; or it failed, and its count of faults rose
abbrev pub EndsPort : PortView → PortView → Bool → Type 0
EndsPort before after false = IsSpent after.left
EndsPort before after true = Rose before.faults after.faults

-- a worker served its port, which was closed or failed then
pub record WorkerRow (s : Setting) (before after : PortScene) (failed : Bool) : Type 0 where
  pub serves : ServesPort before after s
  pub ends : EndsPort before.port after.port failed

-- a disk stopped a command of this caller
abbrev pub was_stopped : Tally → Bool
was_stopped tally = nat_lt 0 tally.stops
