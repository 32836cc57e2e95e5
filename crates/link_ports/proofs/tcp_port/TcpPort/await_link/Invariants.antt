use Rattle.std.proofs.Common.{◌≤◌}
use Rattle.link_ports.proofs.tcp_port.TcpPort.await_link.Given as goal

abbrev pub invariant-tries : goal.invariant-tries
invariant-tries g l = l.fn.self.faults ≤ l.self.faults
